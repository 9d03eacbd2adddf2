-- Sessions that come and go.
use Rattle.std.proofs.Common.{arith, ◌≡◌, ℕ, ◌+◌, ◌<◌, ◌≤◌, ◌==◌, Bool, true, false, cond, List, Option, Some, None, IsSomeAnd, refl, sym, ap, ◌∙◌, subst, inl, inr}
use Rattle.std.specs.Prelude.{◌⊎◌, is_some, Result, Ok, Err, IfOk, OnOk}
use Rattle.std.specs.Option.{option_map, option_and_then}
use Rattle.std.specs.FinMap.{get, insert, remove}
use Rattle.std.proofs.lemmas.Bool.{eqb-true, eq-eqb}
use Rattle.pss_base.specs.declared.session.SessionNo.{SessionNo}
use Rattle.pss_base.specs.declared.NoMemory.{NoMemory}
use Rattle.pss_machine.specs.declared.session.Kind.{Kind}
use Rattle.pss_machine.specs.declared.session.Access.{Access}
use Rattle.pss_machine.specs.declared.session.View.TheVariants.{Committed, Own}
use Rattle.pss_machine.specs.Copies.{Copies, no_copies}
use Rattle.pss_machine.specs.Kept.{Kept}
use Rattle.pss_machine.specs.Moving.{with_session, without_session}
use Rattle.pss_machine.proofs.Maps.{same_or_apart, insert_here, insert_apart, remove_here, remove_apart}
use Rattle.pss_machine.proofs.Logic.{none_some, same_some}
use Rattle.pss_session.specs.Meaning.{Meaning as Standing, opened as opened_in, closed as closed_in, new_session}
use Rattle.incarnations.specs.declared.names.Slot.{Slot}
use Rattle.incarnations.specs.declared.names.Entry.{Entry}
use Rattle.incarnations.specs.Meaning.{Meaning, AreCopies, Leaves, freed, of_session, slot, body, entry_at, opened as with_copies}
use Rattle.incarnations.proofs.Keys.{session_key}
use Rattle.recent_table.proofs.Maps as maps
use Rattle.pss_copies.specs.declared.parts.Parts.{Parts}
use Rattle.pss_copies.specs.Told.{entry_told, IsTold, AreTold}
use Rattle.pss_copies.specs.Seats.{Attends}
use Rattle.pss_copies.proofs.Left.{stand_same, valued_less}
use Rattle.pss_copies.proofs.Seated.{seat_stays}

pub number_is : (s t : SessionNo) → s.0 ≡ t.0 → s ≡ t
number_is s t e = ap (λ n. record { 0 = n }) e

-- a session to whose entries nothing happens is told as before
pub told_other : (f : Slot → Entry → Option Entry) (old new : Meaning) → Leaves f old new → (s : SessionNo) → ((n : ℕ) (e : Entry) → f (slot s n) e ≡ Some e) → (n : ℕ)
    → option_map (entry_told new n) (entry_at new s n) ≡ option_map (entry_told old n) (entry_at old s n)
told_other f old new left s same n = by (entry_at old s n) refl
  where
    by : (o : Option Entry) → entry_at old s n ≡ o → option_map (entry_told new n) (entry_at new s n) ≡ option_map (entry_told old n) o
    by None was = ap (option_map (entry_told new n)) (left.entries (slot s n) ∙ ap (option_and_then (f (slot s n))) was)
    by (Some e) was =
        let now : entry_at new s n ≡ Some e = left.entries (slot s n) ∙ ap (option_and_then (f (slot s n))) was ∙ same n e in
        ap (option_map (entry_told new n)) now ∙ ap (λ d. Some (record { number = n; pid = e.pid; count = e.count; stand = d })) (stand_same f old new left (slot s n) e now)

-- ---- a session comes

module _ (k : Kept) (name : List ℕ) (kind : Kind) (access : Access) (old new : Parts) (s : SessionNo) (opens : new.sessions ≡ opened_in old.sessions name kind access) (adds : new.copies ≡ with_copies old.copies s) (number : s.0 ≡ old.sessions.next) (are : AreCopies new.copies)
    (at : Attends k old) where
  next : s.0 ≡ k.next_session
  next = number ∙ at.next

  -- no entry has the number of the new session
  no_entry : (n : ℕ) → entry_at new.copies s n ≡ None
  no_entry n = by (entry_at new.copies s n) refl
    where
      zero : get new.copies.lasts s ≡ Some 0
      zero = ap (λ (m : Meaning). get m.lasts s) adds ∙ maps.insert_here session_key old.copies.lasts s 0

      none : (o : Option ℕ) → o ≡ Some 0 → IsSomeAnd o (λ last. (0 < n) × (n ≤ last)) → ⊥
      none None e h = none_some e
      none (Some last) e h = (let is : last ≡ 0 = same_some e in omega (arith, is, h.0, h.1))

      by : (o : Option Entry) → entry_at new.copies s n ≡ o → o ≡ None
      by None is = refl
      by (Some e) is = absurd (none (get new.copies.lasts s) zero (are.numbers (slot s n) e is))

  entries_stay : (x : Slot) → get new.copies.entries x ≡ get old.copies.entries x
  entries_stay x = ap (λ (m : Meaning). get m.entries x) adds

  told : AreTold new.copies (with_session k name kind access).copies
  told = record { same = λ t. same t (same_or_apart t.0 s.0); each = λ t copies there. each t copies there (same_or_apart t.0 s.0) }
    where
      away : (t : SessionNo) → (t.0 ≡ s.0 → ⊥) → get (insert k.copies k.next_session no_copies) t.0 ≡ get k.copies t.0
      away t ne = insert_apart k.copies k.next_session no_copies t.0 (λ e. ne (e ∙ sym next))

      here : (t : SessionNo) → t.0 ≡ s.0 → get (insert k.copies k.next_session no_copies) t.0 ≡ Some no_copies
      here t e = ap (get (insert k.copies k.next_session no_copies)) (e ∙ next) ∙ insert_here k.copies k.next_session no_copies

      lasts_away : (t : SessionNo) → (t.0 ≡ s.0 → ⊥) → get new.copies.lasts t ≡ get old.copies.lasts t
      lasts_away t ne = ap (λ (m : Meaning). get m.lasts t) adds ∙ maps.insert_apart session_key old.copies.lasts s 0 t (λ e. ne (ap (λ (q : SessionNo). q.0) e))

      lasts_here : (t : SessionNo) → t.0 ≡ s.0 → get new.copies.lasts t ≡ Some 0
      lasts_here t e = ap (get new.copies.lasts) (number_is t s e) ∙ ap (λ (m : Meaning). get m.lasts s) adds ∙ maps.insert_here session_key old.copies.lasts s 0

      same : (t : SessionNo) → ((t.0 ≡ s.0) ⊎ (t.0 ≡ s.0 → ⊥)) → is_some (get (insert k.copies k.next_session no_copies) t.0) ≡ is_some (get new.copies.lasts t)
      same t (inl e) = ap is_some (here t e) ∙ sym (ap is_some (lasts_here t e))
      same t (inr ne) = ap is_some (away t ne) ∙ at.seats.told.same t ∙ sym (ap is_some (lasts_away t ne))

      each : (t : SessionNo) (copies : Copies) → get (insert k.copies k.next_session no_copies) t.0 ≡ Some copies → ((t.0 ≡ s.0) ⊎ (t.0 ≡ s.0 → ⊥)) → IsTold new.copies t copies
      each t copies there (inl e) =
          let is : no_copies ≡ copies = same_some (sym (here t e) ∙ there) in
          subst (IsTold new.copies t) is (record { last = lasts_here t e; entries = λ n. sym (ap (λ q. option_map (entry_told new.copies n) (entry_at new.copies q n)) (number_is t s e) ∙ ap (option_map (entry_told new.copies n)) (no_entry n)) })
      each t copies there (inr ne) =
          let was = at.seats.told.each t copies (sym (away t ne) ∙ there) in
          record { last = lasts_away t ne ∙ was.last; entries = λ n. was.entries n ∙ sym (ap (λ (m : Meaning). option_map (entry_told m n) (entry_at m t n)) adds) }

  pub opened_attends : Attends (with_session k name kind access) new
  opened_attends = record {
    sessions = ap (λ (q : Standing). q.sessions) opens ∙ ap (λ m. insert m old.sessions.next (new_session name kind access)) at.sessions ∙ ap (λ n. insert k.sessions n (new_session name kind access)) at.next;
    next = ap (λ (q : Standing). q.next) opens ∙ ap (λ n. n + 1) at.next;
    seats = record {
      told = told;
      seated = λ x e v there view. seat_stays k.owners k.sessions (with_session k name kind access).sessions x.session e.pid v
          (insert_apart k.sessions k.next_session _ x.session.0 (λ same. absurd (none_some (sym (no_entry x.number) ∙ ap (λ q. entry_at new.copies q x.number) (sym (number_is x.session s (same ∙ sym next))) ∙ there))))
          (at.seats.seated x e v (sym (entries_stay x) ∙ there) view);
      valued = record {
        committed = λ pid values there. at.seats.valued.committed pid values (ap (λ (m : Meaning). get m.bodies (body pid Committed)) (sym adds) ∙ there);
        own = λ pid n values there. at.seats.valued.own pid n values (ap (λ (m : Meaning). get m.bodies (body pid (Own n))) (sym adds) ∙ there);
      };
    };
  }

-- ---- a session goes

module _ (k : Kept) (old new : Parts) (s : SessionNo) (closes : new.sessions ≡ closed_in old.sessions s) (lasts : new.copies.lasts ≡ remove old.copies.lasts s) (left : Leaves (freed (of_session s)) old.copies new.copies) (at : Attends k old) where
  other : (t : SessionNo) → (t.0 ≡ s.0 → ⊥) → (t.0 == s.0) ≡ false
  other t ne = by (t.0 == s.0) refl
    where
      by : (b : Bool) → (t.0 == s.0) ≡ b → b ≡ false
      by true e = absurd (ne (eqb-true t.0 s.0 e))
      by false e = refl

  -- an entry that is there is of another session, and was there
  was_there : (x : Slot) (e : Entry) → get new.copies.entries x ≡ Some e → (get old.copies.entries x ≡ Some e) × (x.session.0 ≡ s.0 → ⊥)
  was_there x e there = by (get old.copies.entries x) refl (sym (left.entries x) ∙ there)
    where
      test : (f : Entry) (b : Bool) → get old.copies.entries x ≡ Some f → (x.session.0 == s.0) ≡ b → cond b None (Some f) ≡ Some e → (get old.copies.entries x ≡ Some e) × (x.session.0 ≡ s.0 → ⊥)
      test f true was is same = absurd (none_some same)
      test f false was is same = (was ∙ same, λ q. unlike (sym is ∙ ap (λ n. n == s.0) q ∙ itself s.0))
        where
          unlike : false ≡ true → ⊥
          unlike e = cc

          itself : (n : ℕ) → (n == n) ≡ true
          itself n = eq-eqb n n refl

      by : (o : Option Entry) → get old.copies.entries x ≡ o → option_and_then (freed (of_session s) x) o ≡ Some e → (get old.copies.entries x ≡ Some e) × (x.session.0 ≡ s.0 → ⊥)
      by None was is = absurd (none_some is)
      by (Some f) was is = test f (x.session.0 == s.0) was refl is

  pub closed_attends : Attends (without_session k s) new
  closed_attends = record {
    sessions = ap (λ (q : Standing). q.sessions) closes ∙ ap (λ m. remove m s.0) at.sessions;
    next = ap (λ (q : Standing). q.next) closes ∙ at.next;
    seats = record {
      told = record { same = λ t. same t (same_or_apart t.0 s.0); each = λ t copies there. each t copies there (same_or_apart t.0 s.0) };
      seated = λ x e v there view. let w = was_there x e there in seat_stays k.owners k.sessions (remove k.sessions s.0) x.session e.pid v (remove_apart k.sessions s.0 x.session.0 w.1) (at.seats.seated x e v w.0 view);
      valued = valued_less (freed (of_session s)) old.copies new.copies left k.catalog k.owners at.seats.valued;
    };
  }
    where
      lasts_away : (t : SessionNo) → (t.0 ≡ s.0 → ⊥) → get new.copies.lasts t ≡ get old.copies.lasts t
      lasts_away t ne = ap (λ l. get l t) lasts ∙ maps.remove_apart session_key old.copies.lasts s t (λ e. ne (ap (λ (q : SessionNo). q.0) e))

      same : (t : SessionNo) → ((t.0 ≡ s.0) ⊎ (t.0 ≡ s.0 → ⊥)) → is_some (get (remove k.copies s.0) t.0) ≡ is_some (get new.copies.lasts t)
      same t (inl e) = ap is_some (ap (get (remove k.copies s.0)) e ∙ remove_here k.copies s.0) ∙ sym (ap is_some (ap (get new.copies.lasts) (number_is t s e) ∙ ap (λ l. get l s) lasts ∙ maps.remove_here session_key old.copies.lasts s))
      same t (inr ne) = ap is_some (remove_apart k.copies s.0 t.0 ne) ∙ at.seats.told.same t ∙ sym (ap is_some (lasts_away t ne))

      each : (t : SessionNo) (copies : Copies) → get (remove k.copies s.0) t.0 ≡ Some copies → ((t.0 ≡ s.0) ⊎ (t.0 ≡ s.0 → ⊥)) → IsTold new.copies t copies
      each t copies there (inl e) = absurd (none_some (sym (ap (get (remove k.copies s.0)) e ∙ remove_here k.copies s.0) ∙ there))
      each t copies there (inr ne) =
          let was = at.seats.told.each t copies (sym (remove_apart k.copies s.0 t.0 ne) ∙ there) in
          record { last = lasts_away t ne ∙ was.last; entries = λ n. was.entries n ∙ sym (told_other (freed (of_session s)) old.copies new.copies left t (λ n e. ap (λ b. cond b None (Some e)) (other t ne)) n) }

-- what `add` and `remove` leave
pub opened_where : (name : List ℕ) (kind : Kind) (access : Access) (old new : Parts) (result : Result SessionNo NoMemory) → OnOk result (new.sessions ≡ opened_in old.sessions name kind access) → IfOk result (λ s. new.copies ≡ with_copies old.copies s) → IfOk result (λ s. s.0 ≡ old.sessions.next) → AreCopies new.copies
    → OnOk result ((k : Kept) → Attends k old → Attends (with_session k name kind access) new)
opened_where name kind access old new (Ok s) opens adds number are = λ k at. opened_attends k name kind access old new s opens adds number are at
opened_where name kind access old new (Err e) opens adds number are = tt
