-- One session whose entries become others.
use Rattle.std.proofs.Common.{◌≡◌, ℕ, ◌==◌, ◌&&◌, Bool, true, false, cond, Option, Some, None, IsSome, refl, sym, ap, ◌∙◌, subst, inl, inr}
use Rattle.std.specs.Prelude.{◌⊎◌, is_some}
use Rattle.std.specs.Option.{option_map, option_and_then}
use Rattle.std.specs.FinMap.{get, insert}
use Rattle.std.proofs.lemmas.Bool.{eqb-true, eq-eqb}
use Rattle.pss_base.specs.declared.session.SessionNo.{SessionNo}
use Rattle.pss_machine.specs.Copies.{Entry as PlainEntry, Copies, AllCopies, entry_numbered, at_entry, without_entry}
use Rattle.pss_machine.proofs.Maps.{same_or_apart, insert_here, insert_apart}
use Rattle.pss_machine.proofs.Logic.{none_some, same_some}
use Rattle.incarnations.specs.declared.names.Slot.{Slot}
use Rattle.incarnations.specs.declared.names.Entry.{Entry}
use Rattle.incarnations.specs.Meaning.{Meaning, Leaves, freed, slot, same_slot, entry_at}
use Rattle.incarnations.proofs.Keys.{slot_key}
use Rattle.recent_table.proofs.Maps as maps
use Rattle.pss_copies.specs.Told.{stand_told, entry_told, IsTold, AreTold}
use Rattle.pss_copies.proofs.Numbered.{numbered_at, numbered_without}
use Rattle.pss_copies.proofs.Left.{stand_same}
use Rattle.pss_copies.proofs.Opened.{number_is, told_other}

pub apart_test : (a b : ℕ) → (a ≡ b → ⊥) → (a == b) ≡ false
apart_test a b ne = by (a == b) refl
  where
    by : (t : Bool) → (a == b) ≡ t → t ≡ false
    by true e = absurd (ne (eqb-true a b e))
    by false e = refl

-- the entries of one session are others, and those of the other sessions as they were
pub told_put : (old new : Meaning) (all : AllCopies) (s : SessionNo) (copies : Copies) → AreTold old all → IsSome (get all s.0) → IsTold new s copies → ((t : SessionNo) → (t.0 ≡ s.0 → ⊥) → get new.lasts t ≡ get old.lasts t)
    → ((t : SessionNo) → (t.0 ≡ s.0 → ⊥) → (n : ℕ) → option_map (entry_told new n) (entry_at new t n) ≡ option_map (entry_told old n) (entry_at old t n)) → AreTold new (insert all s.0 copies)
told_put old new all s copies told there one lasts others = record { same = λ t. same t (same_or_apart t.0 s.0); each = λ t c at. each t c at (same_or_apart t.0 s.0) }
  where
    same : (t : SessionNo) → ((t.0 ≡ s.0) ⊎ (t.0 ≡ s.0 → ⊥)) → is_some (get (insert all s.0 copies) t.0) ≡ is_some (get new.lasts t)
    same t (inl e) = ap is_some (ap (get (insert all s.0 copies)) e ∙ insert_here all s.0 copies) ∙ sym (ap is_some (ap (get new.lasts) (number_is t s e) ∙ one.last))
    same t (inr ne) = ap is_some (insert_apart all s.0 copies t.0 ne) ∙ told.same t ∙ sym (ap is_some (lasts t ne))

    each : (t : SessionNo) (c : Copies) → get (insert all s.0 copies) t.0 ≡ Some c → ((t.0 ≡ s.0) ⊎ (t.0 ≡ s.0 → ⊥)) → IsTold new t c
    each t c at (inl e) =
        let is : copies ≡ c = same_some (sym (ap (get (insert all s.0 copies)) e ∙ insert_here all s.0 copies) ∙ at) in
        subst (λ (q : SessionNo). IsTold new q c) (sym (number_is t s e)) (subst (IsTold new s) is one)
    each t c at (inr ne) = (let was = told.each t c (sym (insert_apart all s.0 copies t.0 ne) ∙ at) in record { last = lasts t ne ∙ was.last; entries = λ n. was.entries n ∙ sym (others t ne n) })

-- one entry is another, for the same object, and the bodies of others are as they were
pub record Sets (old new : Meaning) (s : SessionNo) (n : ℕ) (e next : Entry) : Type 0 where
  pub there : entry_at old s n ≡ Some e
  pub lasts : new.lasts ≡ old.lasts
  pub entries : new.entries ≡ insert old.entries (slot s n) next
  pub stands : (x : Slot) (f : Entry) → (x ≡ slot s n → ⊥) → get old.entries x ≡ Some f → stand_told new f.pid f.view ≡ stand_told old f.pid f.view

module _ (old new : Meaning) (s : SessionNo) (n : ℕ) (e next : Entry) (sets : Sets old new s n e next) where
  pub set_here : entry_at new s n ≡ Some next
  set_here = ap (λ m. get m (slot s n)) sets.entries ∙ maps.insert_here slot_key old.entries (slot s n) next

  pub set_apart : (x : Slot) → (x ≡ slot s n → ⊥) → get new.entries x ≡ get old.entries x
  set_apart x ne = ap (λ m. get m x) sets.entries ∙ maps.insert_apart slot_key old.entries (slot s n) next x ne

  told_apart : (t : SessionNo) (q : ℕ) → (slot t q ≡ slot s n → ⊥) → option_map (entry_told new q) (entry_at new t q) ≡ option_map (entry_told old q) (entry_at old t q)
  told_apart t q ne = ap (option_map (entry_told new q)) (set_apart (slot t q) ne) ∙ by (entry_at old t q) refl
    where
      by : (o : Option Entry) → entry_at old t q ≡ o → option_map (entry_told new q) o ≡ option_map (entry_told old q) o
      by None is = refl
      by (Some f) is = ap (λ d. Some (record { number = q; pid = f.pid; count = f.count; stand = d })) (sets.stands (slot t q) f ne is)

  slot_session : (x y : Slot) → x ≡ y → x.session.0 ≡ y.session.0
  slot_session x y e = ap (λ (z : Slot). z.session.0) e

  slot_number : (x y : Slot) → x ≡ y → x.number ≡ y.number
  slot_number x y e = ap (λ (z : Slot). z.number) e

  pub set_told : (f : PlainEntry → PlainEntry) → ((x : PlainEntry) → (f x).number ≡ x.number) → f (entry_told old n e) ≡ entry_told new n next → (all : AllCopies) (c : Copies) → get all s.0 ≡ Some c → AreTold old all → AreTold new (insert all s.0 (at_entry n f c))
  set_told f keeps makes all c is told =
      told_put old new all s (at_entry n f c) told (some_of (get all s.0) c is) one (λ t ne. ap (λ l. get l t) sets.lasts) (λ t ne q. told_apart t q (λ same. ne (slot_session (slot t q) (slot s n) same)))
    where
      some_of : (o : Option Copies) (c : Copies) → o ≡ Some c → IsSome o
      some_of None c is = absurd (none_some is)
      some_of (Some d) c is = refl

      was : IsTold old s c
      was = told.each s c is

      here : (q : ℕ) → q ≡ n → entry_numbered (at_entry n f c) q ≡ option_map (entry_told new q) (entry_at new s q)
      here q same =
          subst (λ q. entry_numbered (at_entry n f c) q ≡ option_map (entry_told new q) (entry_at new s q)) (sym same)
          (numbered_at n f keeps n c
          ∙ ap (λ b. cond b (option_map f (entry_numbered c n)) (entry_numbered c n)) (eq-eqb n n refl)
          ∙ ap (option_map f) (was.entries n ∙ ap (option_map (entry_told old n)) sets.there)
          ∙ ap Some makes
          ∙ sym (ap (option_map (entry_told new n)) set_here))

      one : IsTold new s (at_entry n f c)
      one = record { last = ap (λ l. get l s) sets.lasts ∙ was.last; entries = λ q. by q (same_or_apart q n) }
        where
          by : (q : ℕ) → ((q ≡ n) ⊎ (q ≡ n → ⊥)) → entry_numbered (at_entry n f c) q ≡ option_map (entry_told new q) (entry_at new s q)
          by q (inl same) = here q same
          by q (inr ne) =
              numbered_at n f keeps q c
              ∙ ap (λ b. cond b (option_map f (entry_numbered c q)) (entry_numbered c q)) (apart_test q n ne)
              ∙ was.entries q
              ∙ sym (told_apart s q (λ same. ne (slot_number (slot s q) (slot s n) same)))

-- ---- an entry goes, or all of a session

-- one of a number
pub gone_told : (old new : Meaning) (s : SessionNo) (n : ℕ) → new.lasts ≡ old.lasts → Leaves (freed (λ y e. same_slot y (slot s n))) old new → (all : AllCopies) (c : Copies) → get all s.0 ≡ Some c → AreTold old all → AreTold new (insert all s.0 (without_entry n c))
gone_told old new s n lasts left all c is told = told_put old new all s (without_entry n c) told (some_of (get all s.0) c is) one (λ t ne. ap (λ l. get l t) lasts) (λ t ne. told_other f old new left t (λ q e. ap (λ b. cond b None (Some e)) (other t q ne)))
  where
    f : Slot → Entry → Option Entry
    f = freed (λ y e. same_slot y (slot s n))

    some_of : (o : Option Copies) (c : Copies) → o ≡ Some c → IsSome o
    some_of None c is = absurd (none_some is)
    some_of (Some d) c is = refl

    other : (t : SessionNo) (q : ℕ) → (t.0 ≡ s.0 → ⊥) → same_slot (slot t q) (slot s n) ≡ false
    other t q ne = ap (λ b. b && (q == n)) (apart_test t.0 s.0 ne)

    here : (q : ℕ) → same_slot (slot s q) (slot s n) ≡ (q == n)
    here q = ap (λ b. b && (q == n)) (eq-eqb s.0 s.0 refl)

    was : IsTold old s c
    was = told.each s c is

    by : (q : ℕ) (b : Bool) → (q == n) ≡ b → (o : Option Entry) → entry_at old s q ≡ o → cond b None (option_map (entry_told old q) o) ≡ option_map (entry_told new q) (entry_at new s q)
    by q b test None at = none b ∙ sym (ap (option_map (entry_told new q)) (left.entries (slot s q) ∙ ap (option_and_then (f (slot s q))) at))
      where
        none : (b : Bool) → cond {A = Option PlainEntry} b None None ≡ None
        none true = refl
        none false = refl
    by q true test (Some e) at = sym (ap (option_map (entry_told new q)) (left.entries (slot s q) ∙ ap (option_and_then (f (slot s q))) at ∙ ap (λ b. cond b None (Some e)) (here q ∙ test)))
    by q false test (Some e) at =
        let now : entry_at new s q ≡ Some e = left.entries (slot s q) ∙ ap (option_and_then (f (slot s q))) at ∙ ap (λ b. cond b None (Some e)) (here q ∙ test) in
        ap (λ d. Some (record { number = q; pid = e.pid; count = e.count; stand = d })) (sym (stand_same f old new left (slot s q) e now)) ∙ sym (ap (option_map (entry_told new q)) now)

    one : IsTold new s (without_entry n c)
    one = record { last = ap (λ l. get l s) lasts ∙ was.last; entries = λ q. numbered_without n q c ∙ ap (cond (q == n) None) (was.entries q) ∙ by q (q == n) refl (entry_at old s q) refl }
