-- Entries of a session on the way: they stand elsewhere, and nothing else becomes of them.
use Rattle.std.proofs.Common.{◌≡◌, ℕ, suc, ◌==◌, ◌&&◌, Bool, true, false, List, [], ◌∷◌, map, length, Option, Some, None, refl, sym, ap, ◌∙◌, subst}
use Rattle.std.specs.Prelude.{unwrap_or, if◌then◌else◌}
use Rattle.std.specs.Option.{option_map}
use Rattle.std.specs.FinMap.{get}
use Rattle.pss_base.specs.declared.pid.Pid.{Pid}
use Rattle.pss_base.specs.declared.session.SessionNo.{SessionNo}
use Rattle.type_layout.specs.Schemas.{given}
use Rattle.pss_catalog.specs.Catalog.{Catalog}
use Rattle.pss_machine.specs.declared.session.View.{View}
use Rattle.pss_machine.specs.Maps.{with_at}
use Rattle.pss_machine.specs.Owners.{Owners}
use Rattle.pss_machine.specs.Sessions.{Session, Sessions}
use Rattle.pss_machine.specs.Copies.{Loose, Entry, Copies, AllCopies, no_copies, entry_numbered, number_for, with_stand, at_entry, is_attached, Body, body_in, stand_in, attached, detached_from, detached}
use Rattle.pss_machine.specs.Entries.{AreOrderly}
use Rattle.pss_machine.proofs.Maps.{get_each, with_here}
use Rattle.pss_machine.proofs.Growing.{Keeps}
use Rattle.pss_machine.proofs.Attached.{same_number}
use Rattle.pss_machine.proofs.Orderly.{detached_orderly, named_orderly}
use Rattle.pss_machine.proofs.Logic.{none_some, same_some}
use Rattle.pss_copies.proofs.Numbered.{numbered_map}

-- they have the same numbers, objects and counts
pub record Alike (c d : Copies) : Type 0 where
  pub last : d.last ≡ c.last
  pub count : length d.entries ≡ length c.entries
  pub number : (p : Pid) → number_for d p ≡ number_for c p
  pub orderly : AreOrderly c → AreOrderly d
  pub there : (n : ℕ) (e : Entry) → entry_numbered c n ≡ Some e → (f : Entry) × (entry_numbered d n ≡ Some f) × (f.pid ≡ e.pid)
  pub back : (n : ℕ) (f : Entry) → entry_numbered d n ≡ Some f → (e : Entry) × (entry_numbered c n ≡ Some e) × (f.count ≡ e.count)

pub alike_same : (c : Copies) → Alike c c
alike_same c = record { last = refl; count = refl; number = λ p. refl; orderly = λ h. h; there = λ n e is. (e, is, refl); back = λ n f is. (f, is, refl) }

pub alike_then : (b c d : Copies) → Alike b c → Alike c d → Alike b d
alike_then b c d x y = record {
  last = y.last ∙ x.last;
  count = y.count ∙ x.count;
  number = λ p. y.number p ∙ x.number p;
  orderly = λ h. y.orderly (x.orderly h);
  there = λ n e is. (let f = x.there n e is in let g = y.there n f.0 f.1 in (g.0, g.1, g.2 ∙ f.2));
  back = λ n g is. (let f = y.back n g is in let e = x.back n f.0 f.1 in (e.0, e.1, f.2 ∙ e.2));
}

-- entries of which each is another, with the same number, object and count
module _ (f : Entry → Entry) (keeps : Keeps f) (counts : (e : Entry) → (f e).count ≡ e.count) (c : Copies) (orderly : AreOrderly c → AreOrderly (record { last = c.last; entries = map f c.entries })) where
  length_mapped : (es : List Entry) → length (map f es) ≡ length es
  length_mapped [] = refl
  length_mapped (e ∷ es) = ap suc (length_mapped es)

  pub alike_mapped : Alike c (record { last = c.last; entries = map f c.entries })
  alike_mapped = record {
    last = refl;
    count = length_mapped c.entries;
    number = same_number f keeps c;
    orderly = orderly;
    there = λ n e is. (f e, numbered_map f keeps.number n c.entries ∙ ap (option_map f) is, keeps.pid e);
    back = λ n g is. by n g (entry_numbered c n) refl (sym (numbered_map f keeps.number n c.entries) ∙ is);
  }
    where
      by : (n : ℕ) (g : Entry) (o : Option Entry) → entry_numbered c n ≡ o → option_map f o ≡ Some g → (e : Entry) × (entry_numbered c n ≡ Some e) × (g.count ≡ e.count)
      by n g None is e = absurd (none_some e)
      by n g (Some x) is e = (x, is, ap (λ (y : Entry). y.count) (sym (same_some e)) ∙ counts x)

-- ---- what the way makes of them

module _ (body : Pid → Body) (test : Body → Bool) where
  pub alike_detached : (c : Copies) → Alike c (detached_from body test c)
  alike_detached c =
      alike_mapped (λ e. if is_attached e && test (body e.pid) then with_stand Loose e else e)
      (record { number = λ e. number e (is_attached e && test (body e.pid)); pid = λ e. pid e (is_attached e && test (body e.pid)) }) (λ e. count e (is_attached e && test (body e.pid))) c (detached_orderly body test c)
    where
      number : (e : Entry) (b : Bool) → (if b then with_stand Loose e else e).number ≡ e.number
      number e true = refl
      number e false = refl

      pid : (e : Entry) (b : Bool) → (if b then with_stand Loose e else e).pid ≡ e.pid
      pid e true = refl
      pid e false = refl

      count : (e : Entry) (b : Bool) → (if b then with_stand Loose e else e).count ≡ e.count
      count e true = refl
      count e false = refl

module _ (M : Catalog) (seen : Pid → View) (n : ℕ) where
  pub alike_attached : (c : Copies) → Alike c (at_entry n (attached M seen) c)
  alike_attached c =
      alike_mapped (λ e. if e.number == n then attached M seen e else e)
      (record { number = λ e. number e (e.number == n) (is_attached e); pid = λ e. pid e (e.number == n) (is_attached e) }) (λ e. count e (e.number == n) (is_attached e)) c (named_orderly M seen (Some n) c)
    where
      number : (e : Entry) (b a : Bool) → (if b then (if a then e else with_stand (stand_in M e.pid (seen e.pid)) e) else e).number ≡ e.number
      number e true true = refl
      number e true false = refl
      number e false a = refl

      pid : (e : Entry) (b a : Bool) → (if b then (if a then e else with_stand (stand_in M e.pid (seen e.pid)) e) else e).pid ≡ e.pid
      pid e true true = refl
      pid e true false = refl
      pid e false a = refl

      count : (e : Entry) (b a : Bool) → (if b then (if a then e else with_stand (stand_in M e.pid (seen e.pid)) e) else e).count ≡ e.count
      count e true true = refl
      count e true false = refl
      count e false a = refl

-- ---- the entries of one session among those of all

abbrev pub of_all : AllCopies → SessionNo → Copies
of_all all s = unwrap_or (get all s.0) no_copies

pub alike_in_all : (owners : Owners) (sessions : Sessions) (test : SessionNo → Session → Body → Bool) (all : AllCopies) (s : SessionNo) → Alike (of_all all s) (of_all (detached owners sessions test all) s)
alike_in_all owners sessions test all s =
    subst (λ (o : Option Copies). Alike (of_all all s) (unwrap_or o no_copies)) (sym (get_each in_session all s.0)) (by (get all s.0) (get sessions s.0))
  where
    in_session : ℕ → Copies → Copies
    in_session s copies = given (get sessions s) copies (λ session. detached_from (body_in owners (record { 0 = s }) session) (test (record { 0 = s }) session) copies)

    by : (o : Option Copies) (p : Option Session) → Alike (unwrap_or o no_copies) (unwrap_or (option_map (λ copies. given p copies (λ session. detached_from (body_in owners s session) (test s session) copies)) o) no_copies)
    by None p = alike_same no_copies
    by (Some c) None = alike_same c
    by (Some c) (Some session) = alike_detached (body_in owners s session) (test s session) c

pub alike_with : (all : AllCopies) (s : SessionNo) (f : Copies → Copies) → ((c : Copies) → Alike c (f c)) → Alike (of_all all s) (of_all (with_at all s.0 f) s)
alike_with all s f h = subst (λ (o : Option Copies). Alike (of_all all s) (unwrap_or o no_copies)) (sym (with_here all s.0 f)) (by (get all s.0))
  where
    by : (o : Option Copies) → Alike (unwrap_or o no_copies) (unwrap_or (option_map f o) no_copies)
    by None = alike_same no_copies
    by (Some c) = h c
