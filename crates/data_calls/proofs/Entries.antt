-- Entries that are obtained, by their numbers.
use Rattle.std.proofs.Common.{arith, ◌≡◌, ℕ, ◌+◌, ◌==◌, ◌<◌, ◌≤◌, Bool, true, false, cond, ◌&&◌, List, [], ◌∷◌, ◌++◌, map, Option, Some, None, refl, sym, ap, ◌∙◌, subst}
use Rattle.std.proofs.lemmas.Bool.{eq-eqb, eqb-true}
use Rattle.std.specs.Prelude.{find, unwrap_or, if◌then◌else◌}
use Rattle.std.specs.FinMap.{get}
use Rattle.pss_base.specs.declared.session.SessionNo.{SessionNo}
use Rattle.type_layout.specs.declared.schema.Schema.{Schema}
use Rattle.pss_machine.specs.declared.limits.Limits.{Limits}
use Rattle.pss_machine.specs.Owners.{Owners}
use Rattle.pss_machine.specs.Sessions.{Session, Sessions}
use Rattle.pss_machine.specs.Kept.{Kept, copies_of}
use Rattle.pss_machine.proofs.Maps.{each_same}
use Rattle.pss_machine.proofs.Orderly.{entries_are_orderly}
use Rattle.owner_accounts.specs.Reached.{IsReached}
use Rattle.connector_parts.specs.Few.{AreFew, AreFewEntries, CountAtMost}
use Rattle.std.specs.Option.{option_map}
use Rattle.pss_base.specs.declared.pid.Pid.{Pid}
use Rattle.type_layout.specs.Schemas.{given}
use Rattle.pss_machine.specs.Same.{same_pid}
use Rattle.pss_machine.specs.Copies.{Loose, Entry, Copies, AllCopies, no_copies, Body, body_in, detached, detached_from, with_stand, is_attached, entry_numbered, entry_for, number_for, with_count, at_entry, obtained}
use Rattle.pss_machine.specs.Entries.{NumbersRise, AreOrderly}
use Rattle.pss_machine.proofs.Distinct.{pid_sound}
use Rattle.pss_machine.proofs.Logic.{none_some, same_some}
use Rattle.pss_copies.proofs.Numbered.{numbered_at, numbered_pushed}
use Rattle.data_calls.proofs.Fair.{found_passes}

-- an entry's number is at most the last one
pub numbered_most : (n low last : ℕ) (es : List Entry) (e : Entry) → NumbersRise low last es → find (λ x. x.number == n) es ≡ Some e → n ≤ last
numbered_most n low last [] e h is = absurd (none_some is)
numbered_most n low last (x ∷ es) e h is = by (x.number == n) refl is (numbered_most n x.number last es e h.2)
  where
    by : (t : Bool) → (x.number == n) ≡ t → cond t (Some x) (find (λ x. x.number == n) es) ≡ Some e → (find (λ x. x.number == n) es ≡ Some e → n ≤ last) → n ≤ last
    by true here is rest = omega (arith, eqb-true x.number n here, h.1)
    by false here is rest = rest is

-- nor is its count above what none of them is above
pub counted_most : (p n : ℕ) (es : List Entry) (e : Entry) → CountAtMost p es → find (λ x. x.number == n) es ≡ Some e → e.count ≤ p
counted_most p n [] e h is = absurd (none_some is)
counted_most p n (x ∷ es) e h is = by (x.number == n) is (counted_most p n es e h.1)
  where
    by : (t : Bool) → cond t (Some x) (find (λ x. x.number == n) es) ≡ Some e → (find (λ x. x.number == n) es ≡ Some e → e.count ≤ p) → e.count ≤ p
    by true is rest = subst (λ (y : Entry). y.count ≤ p) (same_some is) h.0
    by false is rest = rest is

-- no entry has a number that is not above the lower bound
numbered_above : (n low last : ℕ) (es : List Entry) → NumbersRise low last es → n ≤ low → find (λ x. x.number == n) es ≡ None
numbered_above n low last [] h le = refl
numbered_above n low last (x ∷ es) h le =
    let apart : (x.number == n) ≡ false = not_equal x.number n (omega (arith, h.0, le)) in
    ap (λ b. cond b (Some x) (find (λ x. x.number == n) es)) apart ∙ numbered_above n x.number last es h.2 (omega (arith, h.0, le))
  where
    not_equal : (a b : ℕ) → b < a → (a == b) ≡ false
    not_equal a b lt = by (a == b) refl
      where
        by : (t : Bool) → (a == b) ≡ t → t ≡ false
        by true e = absurd (omega (arith, eqb-true a b e, lt))
        by false e = refl

-- an entry that is found is the one of its number
found_numbered : (test : Entry → Bool) (low last : ℕ) (es : List Entry) (e : Entry) → NumbersRise low last es → find test es ≡ Some e → find (λ x. x.number == e.number) es ≡ Some e
found_numbered test low last [] e h is = absurd (none_some is)
found_numbered test low last (x ∷ es) e h is = by (test x) is (found_numbered test x.number last es e h.2)
  where
    below : (n : ℕ) → find (λ y. y.number == n) es ≡ Some e → (t : Bool) → (x.number == n) ≡ t → cond t (Some x) (find (λ y. y.number == n) es) ≡ Some e
    below n rest true here = absurd (none_some (sym (numbered_above n x.number last es h.2 (omega (arith, eqb-true x.number n here))) ∙ rest))
    below n rest false here = rest

    by : (t : Bool) → cond t (Some x) (find test es) ≡ Some e → (find test es ≡ Some e → find (λ y. y.number == e.number) es ≡ Some e) → cond (x.number == e.number) (Some x) (find (λ y. y.number == e.number) es) ≡ Some e
    by true is rest =
        let same : x ≡ e = same_some is in
        ap (λ b. cond b (Some x) (find (λ y. y.number == e.number) es)) (eq-eqb x.number e.number (ap (λ (y : Entry). y.number) same)) ∙ is
    by false is rest = below e.number (rest is) (x.number == e.number) refl

-- the object that was obtained has an entry of its number
pub record HasEntry (c : Copies) (p : Pid) (n : ℕ) : Type 0 where
  pub entry : Entry
  pub there : entry_numbered c n ≡ Some entry
  pub object : entry.pid ≡ p

pub obtained_entry : (p : Pid) (c : Copies) → AreOrderly c → HasEntry (obtained p c) p (number_for c p)
obtained_entry p c h = by (entry_for c p) refl
  where
    new : Entry
    new = record { number = c.last + 1; pid = p; count = 1; stand = Loose }

    none_next : (o : Option Entry) → find (λ x. x.number == c.last + 1) c.entries ≡ o → o ≡ None
    none_next None is = refl
    none_next (Some e) is = (let most = numbered_most (c.last + 1) 0 c.last c.entries e h.numbers is in absurd (omega (arith, most)))

    by : (o : Option Entry) → entry_for c p ≡ o
        → HasEntry (given o (record { last = c.last + 1; entries = c.entries ++ new ∷ [] }) (λ e. at_entry e.number (with_count (e.count + 1)) c)) p (given o (c.last + 1) (λ e. e.number))
    by None is = record {
      entry = new;
      there =
          numbered_pushed (c.last + 1) new c.entries
          ∙ ap (λ o. given o (cond (c.last + 1 == c.last + 1) (Some new) None) Some) (none_next (find (λ x. x.number == c.last + 1) c.entries) refl)
          ∙ ap (λ b. cond b (Some new) None) (eq-eqb (c.last + 1) (c.last + 1) refl);
      object = refl;
    }
    by (Some e) is =
        let here : entry_numbered c e.number ≡ Some e = found_numbered (λ x. same_pid x.pid p) 0 c.last c.entries e h.numbers is in
        record {
          entry = with_count (e.count + 1) e;
          there =
              numbered_at e.number (with_count (e.count + 1)) (λ x. refl) e.number c
              ∙ ap (λ b. cond b (option_map (with_count (e.count + 1)) (entry_numbered c e.number)) (entry_numbered c e.number)) (eq-eqb e.number e.number refl)
              ∙ ap (option_map (with_count (e.count + 1))) here;
          object = pid_sound e.pid p (found_passes (λ (x : Entry). same_pid x.pid p) c.entries e is);
        }

-- ---- where a run has come

orderly_or : (o : Option Copies) → ((copies : Copies) → o ≡ Some copies → AreOrderly copies) → AreOrderly (unwrap_or o no_copies)
orderly_or None h = record { numbers = tt; pids = refl; counts = tt }
orderly_or (Some copies) h = h copies refl

pub orderly_reached : (S : Schema) (limits : Limits) (k : Kept) → IsReached S limits k → (s : SessionNo) → AreOrderly (copies_of k s)
orderly_reached S limits k r s = subst (λ (j : Kept). AreOrderly (copies_of j s)) (sym r.is) (orderly_or _ (λ copies there. entries_are_orderly S limits r.catalog r.next r.lines s.0 copies there))

few_or : (p : ℕ) (o : Option Copies) → ((copies : Copies) → o ≡ Some copies → AreFewEntries p copies) → AreFewEntries p (unwrap_or o no_copies)
few_or p None h = record { last = omega arith; counts = tt }
few_or p (Some copies) h = h copies refl

pub few_reached : (k : Kept) (p : ℕ) → AreFew p k → (s : SessionNo) → AreFewEntries p (copies_of k s)
few_reached k p few s = few_or p (get k.copies s.0) (few.entries s.0)

-- ---- nothing is left

pub left_same : (owners : Owners) (sessions : Sessions) (test : SessionNo → Session → Body → Bool) (all : AllCopies) → ((s : SessionNo) (session : Session) (b : Body) → test s session b ≡ false) → detached owners sessions test all ≡ all
left_same owners sessions test all none =
    each_same (λ s copies. given (get sessions s) copies (λ session. detached_from (body_in owners (record { 0 = s }) session) (test (record { 0 = s }) session) copies)) all (λ s copies there. by_session s copies (get sessions s))
  where
    stays : (body : Pid → Body) (one : Body → Bool) → ((b : Body) → one b ≡ false) → (e : Entry) → (if is_attached e && one (body e.pid) then with_stand Loose e else e) ≡ e
    stays body one h e = ap (λ (b : Bool). if is_attached e && b then with_stand Loose e else e) (h (body e.pid)) ∙ by (is_attached e)
      where
        by : (a : Bool) → (if a && false then with_stand Loose e else e) ≡ e
        by true = refl
        by false = refl

    all_stay : (body : Pid → Body) (one : Body → Bool) → ((b : Body) → one b ≡ false) → (es : List Entry) → map (λ e. if is_attached e && one (body e.pid) then with_stand Loose e else e) es ≡ es
    all_stay body one h [] = refl
    all_stay body one h (e ∷ es) = ap (λ x. x ∷ map (λ e. if is_attached e && one (body e.pid) then with_stand Loose e else e) es) (stays body one h e) ∙ ap (λ xs. e ∷ xs) (all_stay body one h es)

    by_session : (s : ℕ) (copies : Copies) (o : Option Session) → given o copies (λ session. detached_from (body_in owners (record { 0 = s }) session) (test (record { 0 = s }) session) copies) ≡ copies
    by_session s copies None = refl
    by_session s copies (Some session) = ap (λ es. record { last = copies.last; entries = es }) (all_stay (body_in owners (record { 0 = s }) session) (test (record { 0 = s }) session) (none (record { 0 = s }) session) copies.entries)
