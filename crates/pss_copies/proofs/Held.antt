-- Entries of a session that are counted otherwise, go, or leave its own copies.
use Rattle.std.proofs.Common.{arith, ◌≡◌, ℕ, ◌+◌, ◌-◌, ◌<◌, ◌==◌, ◌&&◌, Bool, true, false, cond, [], Option, Some, None, IsSome, IsSomeAnd, MatchOption, refl, sym, ap, ◌∙◌, subst, inl, inr}
use Rattle.std.specs.Prelude.{◌⊎◌, is_some, unwrap_or, if◌then◌else◌}
use Rattle.std.specs.Option.{option_map, option_and_then}
use Rattle.std.specs.FinMap.{get}
use Rattle.std.proofs.lemmas.Bool.{eq-eqb}
use Rattle.pss_base.specs.declared.pid.Pid.{Pid}
use Rattle.pss_base.specs.declared.session.SessionNo.{SessionNo}
use Rattle.type_layout.specs.Schemas.{given}
use Rattle.pss_machine.specs.declared.session.View.{View}
use Rattle.pss_machine.specs.declared.session.View.TheVariants.{Committed, Own, Kept as InCopy}
use Rattle.pss_machine.specs.Owners.{Owners}
use Rattle.pss_machine.specs.Sessions.{Session, Sessions}
use Rattle.pss_machine.specs.Copies.{Copied, Loose, Copies, AllCopies, no_copies, entry_numbered, at_entry, with_count, without_entry, Body, same_view, view_in, body_in, detached_from}
use Rattle.pss_machine.specs.Kept.{Kept, copies_of}
use Rattle.pss_machine.specs.Effects.{Holds}
use Rattle.pss_machine.specs.Deciding.{counting, refreshed}
use Rattle.pss_machine.specs.Moving.{moved, is_session}
use Rattle.pss_machine.proofs.Maps.{get_each}
use Rattle.pss_machine.proofs.Logic.{none_some, same_some, true_false}
use Rattle.pss_session.specs.Meaning.{Meaning as Standing}
use Rattle.incarnations.specs.declared.names.Slot.{Slot}
use Rattle.incarnations.specs.declared.names.Entry.{Entry}
use Rattle.incarnations.specs.Meaning as copy
use Rattle.incarnations.specs.Meaning.{Meaning, AreCopies, Leaves, freed, loosened, both, of_session, in_view, slot, same_slot, body, entry_at, with_entry, IsReleased}
use Rattle.incarnations.proofs.Keys.{slot_key}
use Rattle.recent_table.proofs.Maps as maps
use Rattle.pss_copies.specs.declared.parts.Parts.{Parts}
use Rattle.pss_copies.specs.Told.{stand_told, entry_told, IsTold, AreTold}
use Rattle.pss_copies.specs.Seats.{IsSeat, AreSeated, Attends}
use Rattle.pss_copies.proofs.Left.{kept_entry, valued_less, told_left}
use Rattle.pss_copies.proofs.Opened.{told_other}
use Rattle.pss_copies.proofs.Associated.{eq_back}
use Rattle.pss_copies.proofs.Entered.{apart_test, told_put, Sets, set_here, set_apart, set_told, gone_told}

-- ---- what a session has

-- no entry is of a session that is not there
no_entry_of : (m : Meaning) → AreCopies m → (s : SessionNo) → get m.lasts s ≡ None → (n : ℕ) → entry_at m s n ≡ None
no_entry_of m are s none n = by (entry_at m s n) refl
  where
    not_there : (P : ℕ → Type 0) (o : Option ℕ) → o ≡ None → IsSomeAnd o P → ⊥
    not_there P None is h = h
    not_there P (Some last) is h = none_some (sym is)

    by : (o : Option Entry) → entry_at m s n ≡ o → o ≡ None
    by None is = refl
    by (Some e) is = absurd (not_there _ (get m.lasts s) none (are.numbers (slot s n) e is))

is_none : {A : Type 0} (o : Option A) → is_some o ≡ false → o ≡ None
is_none None e = refl
is_none (Some x) e = absurd (true_false refl e)

-- each entry is told under its number
pub told_at : (m : Meaning) (all : AllCopies) → AreCopies m → AreTold m all → (s : SessionNo) (n : ℕ) → entry_numbered (unwrap_or (get all s.0) no_copies) n ≡ option_map (entry_told m n) (entry_at m s n)
told_at m all are told s n = by (get all s.0) refl
  where
    by : (o : Option Copies) → get all s.0 ≡ o → entry_numbered (unwrap_or o no_copies) n ≡ option_map (entry_told m n) (entry_at m s n)
    by None is = sym (ap (option_map (entry_told m n)) (no_entry_of m are s (is_none (get m.lasts s) (sym (told.same s) ∙ ap is_some is)) n))
    by (Some c) is = (told.each s c is).entries n

-- a session with an entry is there
pub copies_there : (m : Meaning) (all : AllCopies) → AreCopies m → AreTold m all → (s : SessionNo) (n : ℕ) (e : Entry) → entry_at m s n ≡ Some e → get all s.0 ≡ Some (unwrap_or (get all s.0) no_copies)
copies_there m all are told s n e at = by (get all s.0) refl
  where
    by : (o : Option Copies) → get all s.0 ≡ o → o ≡ Some (unwrap_or o no_copies)
    by None is = absurd (none_some (sym (no_entry_of m are s (is_none (get m.lasts s) (sym (told.same s) ∙ ap is_some is)) n) ∙ at))
    by (Some c) is = refl

pub stand_by : (m n : Meaning) → m.bodies ≡ n.bodies → (pid : Pid) (o : Option View) → stand_told m pid o ≡ stand_told n pid o
stand_by m n same pid None = refl
stand_by m n same pid (Some Committed) = refl
stand_by m n same pid (Some (Own q)) = refl
stand_by m n same pid (Some (InCopy s)) = ap (λ b. given (get b (body pid (InCopy s))) Loose Copied) same

-- ---- an entry is another

module _ (old new : Meaning) (s : SessionNo) (n : ℕ) (e next : Entry) (sets : Sets old new s n e next) where
  pub set_seated : (owners : Owners) (sessions : Sessions) → AreSeated owners sessions old → next.pid ≡ e.pid → ((v : View) → next.view ≡ Some v → IsSeat owners sessions s e.pid v) → AreSeated owners sessions new
  set_seated owners sessions seated pid seat x f v at view = by (maps.same_or_apart slot_key x (slot s n))
    where
      by : ((x ≡ slot s n) ⊎ (x ≡ slot s n → ⊥)) → IsSeat owners sessions x.session f.pid v
      by (inl same) =
          let is : next ≡ f = same_some (sym (set_here old new s n e next sets) ∙ ap (get new.entries) (sym same) ∙ at) in
          subst (λ (y : Slot). IsSeat owners sessions y.session f.pid v) (sym same)
          (subst (λ (p : Pid). IsSeat owners sessions s p v) (sym pid ∙ ap (λ (z : Entry). z.pid) is) (seat v (ap (λ (z : Entry). z.view) is ∙ view)))
      by (inr ne) = seated x f v (sym (set_apart old new s n e next sets x ne) ∙ at) view

-- an entry has another count
counts : (old new : Meaning) (s : SessionNo) (n count : ℕ) (e : Entry) → entry_at old s n ≡ Some e → new ≡ with_entry old (slot s n) (copy.with_count count e) → Sets old new s n e (copy.with_count count e)
counts old new s n count e at is = record {
  there = at;
  lasts = ap (λ (m : Meaning). m.lasts) is;
  entries = ap (λ (m : Meaning). m.entries) is;
  stands = λ x f ne was. stand_by new old (ap (λ (m : Meaning). m.bodies) is) f.pid f.view;
}

-- an entry that is still there was there
pub still : (test : Slot → Entry → Bool) (old new : Meaning) → Leaves (freed test) old new → (x : Slot) (e : Entry) → get new.entries x ≡ Some e → get old.entries x ≡ Some e
still test old new left x e at = by (get old.entries x) refl (sym (left.entries x) ∙ at)
  where
    by_test : (f : Entry) (b : Bool) → get old.entries x ≡ Some f → cond b None (Some f) ≡ Some e → get old.entries x ≡ Some e
    by_test f true was is = absurd (none_some is)
    by_test f false was is = was ∙ is

    by : (o : Option Entry) → get old.entries x ≡ o → option_and_then (freed test x) o ≡ Some e → get old.entries x ≡ Some e
    by None was is = absurd (none_some is)
    by (Some f) was is = by_test f (test x f) was is

module _ (k : Kept) (old new : Parts) (s : SessionNo) (n count : ℕ) (e : Entry) (are : AreCopies old.copies) (at : Attends k old) (there : entry_at old.copies s n ≡ Some e) (stays : new.sessions ≡ old.sessions) where
  has : get k.copies s.0 ≡ Some (copies_of k s)
  has = copies_there old.copies k.copies are at.seats.told s n e there

  pub counted_attends : new.copies ≡ with_entry old.copies (slot s n) (copy.with_count count e) → Attends (moved k (Holds s (at_entry n (with_count count) (copies_of k s)))) new
  counted_attends is =
      let sets = counts old.copies new.copies s n count e there is in
      let bodies : new.copies.bodies ≡ old.copies.bodies = ap (λ (m : Meaning). m.bodies) is in
      record {
        sessions = ap (λ (q : Standing). q.sessions) stays ∙ at.sessions;
        next = ap (λ (q : Standing). q.next) stays ∙ at.next;
        seats = record {
          told = set_told old.copies new.copies s n e (copy.with_count count e) sets (with_count count) (λ x. refl) (ap (λ d. record { number = n; pid = e.pid; count = count; stand = d }) (sym (stand_by new.copies old.copies bodies e.pid e.view))) k.copies (copies_of k s) has at.seats.told;
          seated = set_seated old.copies new.copies s n e (copy.with_count count e) sets k.owners k.sessions at.seats.seated refl (λ v view. at.seats.seated (slot s n) e v there view);
          valued = record {
            committed = λ pid values at_body. at.seats.valued.committed pid values (ap (λ b. get b (body pid Committed)) (sym bodies) ∙ at_body);
            own = λ pid m values at_body. at.seats.valued.own pid m values (ap (λ b. get b (body pid (Own m))) (sym bodies) ∙ at_body);
          };
        };
      }

  pub gone_attends : new.copies.lasts ≡ old.copies.lasts → Leaves (freed (λ y e. same_slot y (slot s n))) old.copies new.copies → Attends (moved k (Holds s (without_entry n (copies_of k s)))) new
  gone_attends lasts left = record {
    sessions = ap (λ (q : Standing). q.sessions) stays ∙ at.sessions;
    next = ap (λ (q : Standing). q.next) stays ∙ at.next;
    seats = record {
      told = gone_told old.copies new.copies s n lasts left k.copies (copies_of k s) has at.seats.told;
      seated = λ x f v here view. at.seats.seated x f v (still (λ y e. same_slot y (slot s n)) old.copies new.copies left x f here) view;
      valued = valued_less (freed (λ y e. same_slot y (slot s n))) old.copies new.copies left k.catalog k.owners at.seats.valued;
    };
  }

-- ---- what the calls leave

not_zero : (n : ℕ) → 0 < n → (n == 0) ≡ false
not_zero n some = apart_test n 0 (λ e. omega (arith, some, e))

pub dup_attends : (old new : Parts) (s : SessionNo) (n : ℕ) → AreCopies old.copies → new.sessions ≡ old.sessions
    → MatchOption (entry_at old.copies s n) (new.copies ≡ old.copies) (λ e. new.copies ≡ with_entry old.copies (slot s n) (copy.with_count (e.count + 1) e))
    → (k : Kept) → Attends k old → MatchOption (entry_numbered (copies_of k s) n) (new ≡ old) (λ e. Attends (moved k (Holds s (counting n (e.count + 1) (copies_of k s)))) new)
dup_attends old new s n are stays counted k at = subst (λ o. MatchOption o (new ≡ old) (λ e. Attends (moved k (Holds s (counting n (e.count + 1) (copies_of k s)))) new)) (sym (told_at old.copies k.copies are at.seats.told s n)) (by (entry_at old.copies s n) refl counted)
  where
    by : (o : Option Entry) → entry_at old.copies s n ≡ o → MatchOption o (new.copies ≡ old.copies) (λ e. new.copies ≡ with_entry old.copies (slot s n) (copy.with_count (e.count + 1) e))
        → MatchOption (option_map (entry_told old.copies n) o) (new ≡ old) (λ e. Attends (moved k (Holds s (counting n (e.count + 1) (copies_of k s)))) new)
    by None is same = λ i. record { sessions = stays i; copies = same i }
    by (Some e) is new_is =
        subst (λ b. Attends (moved k (Holds s (if b then without_entry n (copies_of k s) else at_entry n (with_count (e.count + 1)) (copies_of k s)))) new) (sym (not_zero (e.count + 1) (omega arith)))
        (counted_attends k old new s n (e.count + 1) e are at is stays new_is)

pub release_attends : (old new : Parts) (s : SessionNo) (n : ℕ) → AreCopies old.copies → new.sessions ≡ old.sessions
    → MatchOption (entry_at old.copies s n) (new.copies ≡ old.copies) (IsReleased old.copies new.copies (slot s n))
    → (k : Kept) → Attends k old → MatchOption (entry_numbered (copies_of k s) n) (new ≡ old) (λ e. Attends (moved k (Holds s (counting n (e.count - 1) (copies_of k s)))) new)
release_attends old new s n are stays released k at = subst (λ o. MatchOption o (new ≡ old) (λ e. Attends (moved k (Holds s (counting n (e.count - 1) (copies_of k s)))) new)) (sym (told_at old.copies k.copies are at.seats.told s n)) (by (entry_at old.copies s n) refl released)
  where
    one : (e : Entry) → entry_at old.copies s n ≡ Some e → IsReleased old.copies new.copies (slot s n) e → Attends (moved k (Holds s (counting n (e.count - 1) (copies_of k s)))) new
    one e is (inl gone) =
        let none : (e.count - 1) ≡ 0 = omega (arith, gone.0) in
        subst (λ b. Attends (moved k (Holds s (if b then without_entry n (copies_of k s) else at_entry n (with_count (e.count - 1)) (copies_of k s)))) new) (sym (eq-eqb (e.count - 1) 0 none))
        (gone_attends k old new s n 0 e are at is stays gone.1.lasts gone.1.left)
    one e is (inr less) =
        let some : 0 < e.count - 1 = omega (arith, less.0) in
        subst (λ b. Attends (moved k (Holds s (if b then without_entry n (copies_of k s) else at_entry n (with_count (e.count - 1)) (copies_of k s)))) new) (sym (not_zero (e.count - 1) some))
        (counted_attends k old new s n (e.count - 1) e are at is stays less.1)

    by : (o : Option Entry) → entry_at old.copies s n ≡ o → MatchOption o (new.copies ≡ old.copies) (IsReleased old.copies new.copies (slot s n))
        → MatchOption (option_map (entry_told old.copies n) o) (new ≡ old) (λ e. Attends (moved k (Holds s (counting n (e.count - 1) (copies_of k s)))) new)
    by None is same = λ i. record { sessions = stays i; copies = same i }
    by (Some e) is gone = one e is gone

-- ---- all entries of a session go, or leave its own copies

one_session : (t s : SessionNo) (e : Entry) (n : ℕ) → (t.0 ≡ s.0 → ⊥) → of_session s (slot t n) e ≡ false
one_session t s e n ne = apart_test t.0 s.0 ne

pub freed_attends : (old new : Parts) (s : SessionNo) → new.sessions ≡ old.sessions → new.copies.lasts ≡ old.copies.lasts → Leaves (freed (of_session s)) old.copies new.copies → (k : Kept) → IsSome (get k.copies s.0) → Attends k old
    → Attends (moved k (Holds s (record { last = (copies_of k s).last; entries = [] }))) new
freed_attends old new s stays lasts left k some at = record {
  sessions = ap (λ (q : Standing). q.sessions) stays ∙ at.sessions;
  next = ap (λ (q : Standing). q.next) stays ∙ at.next;
  seats = record {
    told = told_put old.copies new.copies k.copies s (record { last = (copies_of k s).last; entries = [] }) at.seats.told some (record { last = last; entries = λ n. sym (ap (option_map (entry_told new.copies n)) (none n)) }) (λ t ne. ap (λ l. get l t) lasts)
        (λ t ne. told_other (freed (of_session s)) old.copies new.copies left t (λ n e. ap (λ b. cond b None (Some e)) (one_session t s e n ne)));
    seated = λ x f v here view. at.seats.seated x f v (still (of_session s) old.copies new.copies left x f here) view;
    valued = valued_less (freed (of_session s)) old.copies new.copies left k.catalog k.owners at.seats.valued;
  };
}
  where
    last : get new.copies.lasts s ≡ Some (copies_of k s).last
    last = ap (λ l. get l s) lasts ∙ by (get k.copies s.0) refl some
      where
        by : (o : Option Copies) → get k.copies s.0 ≡ o → IsSome o → get old.copies.lasts s ≡ Some (unwrap_or o no_copies).last
        by None is h = absurd cc
        by (Some c) is h = (at.seats.told.each s c is).last

    none : (n : ℕ) → entry_at new.copies s n ≡ None
    none n = left.entries (slot s n) ∙ by (entry_at old.copies s n)
      where
        by : (o : Option Entry) → option_and_then (freed (of_session s) (slot s n)) o ≡ None
        by None = refl
        by (Some e) = ap (λ b. cond b None (Some e)) (eq-eqb s.0 s.0 refl)

pub same_view_back : (v w : View) → same_view v w ≡ same_view w v
same_view_back Committed Committed = refl
same_view_back Committed (Own n) = refl
same_view_back Committed (InCopy s) = refl
same_view_back (Own m) Committed = refl
same_view_back (Own m) (Own n) = eq_back m.0 n.0
same_view_back (Own m) (InCopy s) = refl
same_view_back (InCopy s) Committed = refl
same_view_back (InCopy s) (Own n) = refl
same_view_back (InCopy s) (InCopy t) = eq_back s.0 t.0

pub refreshed_attends : (old new : Parts) (s : SessionNo) → AreCopies old.copies → new.sessions ≡ old.sessions → new.copies.lasts ≡ old.copies.lasts → Leaves (loosened (both (of_session s) (in_view (InCopy s)))) old.copies new.copies
    → (k : Kept) (session : Session) → get k.sessions s.0 ≡ Some session → IsSome (get k.copies s.0) → Attends k old → Attends (moved k (Holds s (refreshed k s session))) new
refreshed_attends old new s are stays lasts left k session there some at = record {
  sessions = ap (λ (q : Standing). q.sessions) stays ∙ at.sessions;
  next = ap (λ (q : Standing). q.next) stays ∙ at.next;
  seats = record {
    told = told_put old.copies new.copies k.copies s (refreshed k s session) at.seats.told some (one (get k.copies s.0) refl some) (λ t ne. ap (λ l. get l t) lasts)
        (λ t ne. told_other (loosened g) old.copies new.copies left t (λ n e. ap (λ b. Some (cond (b && in_view (InCopy s) (slot t n) e) (copy.with_view None e) e)) (one_session t s e n ne)));
    seated = λ x f v here view. at.seats.seated x f v (kept_entry g old.copies new.copies left x f v here view).0 view;
    valued = valued_less (loosened g) old.copies new.copies left k.catalog k.owners at.seats.valued;
  };
}
  where
    g : Slot → Entry → Bool
    g = both (of_session s) (in_view (InCopy s))

    test : SessionNo → Session → Body → Bool
    test t x b = is_session s t && same_view b.view (InCopy s)

    agree : (x : Slot) (e : Entry) (v : View) (y : Session) → get old.copies.entries x ≡ Some e → e.view ≡ Some v → get k.sessions x.session.0 ≡ Some y → both (of_session s) (in_view (InCopy s)) x e ≡ (is_session s x.session && same_view (view_in k.owners x.session y e.pid) (InCopy s))
    agree x e v y was view in_it =
        let seat = at.seats.seated x e v was view in
        let one : seat.session ≡ y = same_some (sym seat.there ∙ in_it) in
        let seen : v ≡ view_in k.owners x.session y e.pid = seat.seen ∙ ap (λ z. view_in k.owners x.session z e.pid) one in
        ap (λ b. b && in_view (InCopy s) x e) (eq_back x.session.0 s.0)
        ∙ ap (λ b. is_session s x.session && b) (ap (λ o. given o false (same_view (InCopy s))) view ∙ same_view_back (InCopy s) v ∙ ap (λ w. same_view w (InCopy s)) seen)

    one : (o : Option Copies) → get k.copies s.0 ≡ o → IsSome o → IsTold new.copies s (detached_from (body_in k.owners s session) (λ b. same_view b.view (InCopy s)) (unwrap_or o no_copies))
    one None is h = absurd cc
    one (Some c) is h =
        let all = told_left (both (of_session s) (in_view (InCopy s))) old.copies new.copies left k.owners k.sessions (λ t x b. is_session s t && same_view b.view (InCopy s)) are at.seats.seated agree lasts k.copies at.seats.told in
        let here = get_each (λ t copies. given (get k.sessions t) copies (λ x. detached_from (body_in k.owners (record { 0 = t }) x) (λ b. is_session s (record { 0 = t }) && same_view b.view (InCopy s)) copies)) k.copies s.0
        ∙ ap (option_map (λ copies. given (get k.sessions s.0) copies (λ x. detached_from (body_in k.owners s x) (λ b. is_session s s && same_view b.view (InCopy s)) copies))) is
        ∙ ap (λ o. Some (given o c (λ x. detached_from (body_in k.owners s x) (λ b. is_session s s && same_view b.view (InCopy s)) c))) there
        ∙ ap (λ t. Some (detached_from (body_in k.owners s session) (λ b. t && same_view b.view (InCopy s)) c)) (eq-eqb s.0 s.0 refl) in
        all.each s (detached_from (body_in k.owners s session) (λ b. same_view b.view (InCopy s)) c) here
