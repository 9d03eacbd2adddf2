-- Numbers of sessions and of entries rise over a run, and each stays with what it was given to.
use Rattle.std.proofs.Common.{arith, ◌≡◌, ℕ, ◌+◌, ◌==◌, ◌<◌, ◌≤◌, Bool, true, false, cond, List, [], ◌∷◌, ◌++◌, Option, Some, None, refl, sym, ap, ◌∙◌, subst, inl, inr}
use Rattle.std.specs.Prelude.{◌⊎◌, find, is_some, unwrap_or, nat_lt}
use Rattle.std.specs.Option.{option_map}
use Rattle.std.specs.Ordering.{nat_cmp}
use Rattle.std.specs.FinMap.{FinMap, get, insert, remove, get-empty}
use Rattle.std.proofs.lemmas.Bool.{eqb-true}
use Rattle.std.proofs.lemmas.Bool.Decides.{nat_tests}
use Rattle.pss_base.specs.declared.owner.OwnerNo.{OwnerNo}
use Rattle.pss_base.specs.declared.session.SessionNo.{SessionNo}
use Rattle.type_layout.specs.declared.schema.Schema.{Schema}
use Rattle.type_layout.specs.Schemas.{given}
use Rattle.pss_catalog.specs.Catalog.{Catalog}
use Rattle.pss_machine.specs.declared.limits.Limits.{Limits}
use Rattle.pss_machine.specs.declared.command.Command.{Command}
use Rattle.pss_machine.specs.declared.reply.Reply.{Reply}
use Rattle.pss_machine.specs.declared.session.Association.TheVariants.{Ending}
use Rattle.pss_machine.specs.Maps.{each, with_at}
use Rattle.pss_machine.specs.Owners.{Owners, net}
use Rattle.pss_machine.specs.Sessions.{Session, Sessions, with_association, without_transaction}
use Rattle.pss_machine.specs.Copies.{Entry, Copies, AllCopies, no_copies, entry_numbered, Body, body_in, detached_from, detached}
use Rattle.pss_machine.specs.Kept.{Kept, copies_of}
use Rattle.pss_machine.specs.Effects.{Effect, Stays, OpensBasic, OpensTransactional, ClosesBasic, ClosesTransactional, Begins, Associates, Ends, Holds, Steps, Commits, Flushes, RollsBack}
use Rattle.pss_machine.specs.Deciding.{decision}
use Rattle.pss_machine.specs.Moving.{seated, seen_in, owners_after, is_outdated, is_in, is_session, is_settled, without_transaction_of, settled, emptied, moved}
use Rattle.pss_machine.specs.Run.{Said, Silent, Says, Wrong, Machine, first, turn, run}
use Rattle.pss_machine.specs.Entries.{NumbersRise, AreOrderly}
use Rattle.pss_machine.specs.Numbers.{has_entry, IsSameSession, SessionsComeOnce, EntriesComeOnce, SessionsStay, EntriesStay}
use Rattle.pss_machine.proofs.Cases.{of_given}
use Rattle.pss_machine.proofs.Maps.{get_each, same_or_apart, insert_here, insert_apart, remove_here, remove_apart, with_here, with_apart}
use Rattle.pss_machine.proofs.Running.{run_append}
use Rattle.pss_machine.proofs.Growing.{Had, Grown, grown_none, grown_both, grown_detached, grown_seated}
use Rattle.pss_machine.proofs.Acting.{Known, decision_seen}
use Rattle.pss_machine.proofs.Orderly as orderly
use Rattle.pss_machine.proofs.Logic.{none_some, same_some, some_is, true_false}

-- ---- what is in a map later was in it before

pub record Was {A : Type 0} (R : A → A → Type 0) (m : FinMap nat_cmp A) (n : ℕ) (y : A) : Type 0 where
  pub x : A
  pub there : get m n ≡ Some x
  pub related : R x y

-- below a number all that is there later was there, and has gone on
abbrev pub GoesOn : {A : Type 0} → (A → A → Type 0) → ℕ → FinMap nat_cmp A → FinMap nat_cmp A → Type 0
GoesOn {A} R limit old new = (n : ℕ) → n < limit → (y : A) → get new n ≡ Some y → Was R old n y

-- they have things at the same numbers
abbrev pub SameKeys : {A B : Type 0} → FinMap nat_cmp A → FinMap nat_cmp B → Type 0
SameKeys m l = (n : ℕ) → is_some (get m n) ≡ is_some (get l n)

module _ {A : Type 0} (R : A → A → Type 0) (m : FinMap nat_cmp A) where
  was_here : (n : ℕ) (f : A → A) → ((x : A) → R x (f x)) → (o : Option A) → get m n ≡ o → (y : A) → option_map f o ≡ Some y → Was R m n y
  was_here n f h None is y there = absurd (none_some there)
  was_here n f h (Some x) is y there = (let same : f x ≡ y = cc in record { x = x; there = is; related = subst (R x) same (h x) })

  stays_on : ((x : A) → R x x) → (limit : ℕ) → GoesOn R limit m m
  stays_on h limit n below y there = record { x = y; there = there; related = h y }

  each_on : (f : ℕ → A → A) → ((n : ℕ) (x : A) → R x (f n x)) → (limit : ℕ) → GoesOn R limit m (each f m)
  each_on f h limit n below y there = was_here n (f n) (h n) (get m n) refl y (sym (get_each f m n) ∙ there)

  with_on : (i : ℕ) (f : A → A) → ((x : A) → R x x) → ((x : A) → R x (f x)) → (limit : ℕ) → GoesOn R limit m (with_at m i f)
  with_on i f same h limit n below y there = by (same_or_apart n i)
    where
      by : ((n ≡ i) ⊎ (n ≡ i → ⊥)) → Was R m n y
      by (inl e) =
          let here : get (with_at m i f) i ≡ Some y = ap (get (with_at m i f)) (sym e) ∙ there in
          subst (λ (n : ℕ). Was R m n y) (sym e) (was_here i f h (get m i) refl y (sym (with_here m i f) ∙ here))
      by (inr apart) = record { x = y; there = sym (with_apart m i f n apart) ∙ there; related = same y }

  insert_on : (i : ℕ) (z : A) → ((x : A) → R x x) → (limit : ℕ) → (i < limit → Was R m i z) → GoesOn R limit m (insert m i z)
  insert_on i z same limit was n below y there = by (same_or_apart n i)
    where
      by : ((n ≡ i) ⊎ (n ≡ i → ⊥)) → Was R m n y
      by (inl e) =
          let here : Some z ≡ Some y = sym (insert_here m i z) ∙ ap (get (insert m i z)) (sym e) ∙ there in
          let one : z ≡ y = cc in
          subst (λ (n : ℕ). Was R m n y) (sym e) (subst (Was R m i) one (was (subst (λ (n : ℕ). n < limit) e below)))
      by (inr apart) = record { x = y; there = sym (insert_apart m i z n apart) ∙ there; related = same y }

  remove_on : (i : ℕ) → ((x : A) → R x x) → (limit : ℕ) → GoesOn R limit m (remove m i)
  remove_on i same limit n below y there = by (same_or_apart n i)
    where
      by : ((n ≡ i) ⊎ (n ≡ i → ⊥)) → Was R m n y
      by (inl e) = absurd (none_some (sym (remove_here m i) ∙ ap (get (remove m i)) (sym e) ∙ there))
      by (inr apart) = record { x = y; there = sym (remove_apart m i n apart) ∙ there; related = same y }

some_map : {A B : Type 0} (f : A → B) (o : Option A) → is_some (option_map f o) ≡ is_some o
some_map f None = refl
some_map f (Some x) = refl

module _ {A : Type 0} (m : FinMap nat_cmp A) where
  each_keys : (f : ℕ → A → A) → SameKeys (each f m) m
  each_keys f n = ap is_some (get_each f m n) ∙ some_map (f n) (get m n)

  with_keys : (i : ℕ) (f : A → A) → SameKeys (with_at m i f) m
  with_keys i f n = by (same_or_apart n i)
    where
      by : ((n ≡ i) ⊎ (n ≡ i → ⊥)) → is_some (get (with_at m i f) n) ≡ is_some (get m n)
      by (inl e) = ap (λ n. is_some (get (with_at m i f) n)) e ∙ ap is_some (with_here m i f) ∙ some_map f (get m i) ∙ ap (λ n. is_some (get m n)) (sym e)
      by (inr apart) = ap is_some (with_apart m i f n apart)

-- ---- sessions and their entries

-- each session has entries and no other number has, and no number from the next one on is that of a session
pub record Paired (sessions : Sessions) (all : AllCopies) (next : ℕ) : Type 0 where
  pub same : SameKeys sessions all
  pub none : (n : ℕ) → next ≤ n → is_some (get sessions n) ≡ false

paired_keys : (sessions later : Sessions) (all others : AllCopies) (next : ℕ) → SameKeys later sessions → SameKeys others all → Paired sessions all next → Paired later others next
paired_keys sessions later all others next s c h = record { same = λ n. s n ∙ h.same n ∙ sym (c n); none = λ n le. s n ∙ h.none n le }

paired_new : (sessions : Sessions) (all : AllCopies) (next : ℕ) (x : Session) (c : Copies) → Paired sessions all next → Paired (insert sessions next x) (insert all next c) (next + 1)
paired_new sessions all next x c h = record { same = λ n. by n (same_or_apart n next); none = none }
  where
    by : (n : ℕ) → ((n ≡ next) ⊎ (n ≡ next → ⊥)) → is_some (get (insert sessions next x) n) ≡ is_some (get (insert all next c) n)
    by n (inl e) = ap (λ n. is_some (get (insert sessions next x) n)) e ∙ ap is_some (insert_here sessions next x) ∙ sym (ap is_some (insert_here all next c)) ∙ ap (λ n. is_some (get (insert all next c) n)) (sym e)
    by n (inr apart) = ap is_some (insert_apart sessions next x n apart) ∙ h.same n ∙ sym (ap is_some (insert_apart all next c n apart))

    none : (n : ℕ) → next + 1 ≤ n → is_some (get (insert sessions next x) n) ≡ false
    none n le = ap is_some (insert_apart sessions next x n (λ e. omega (arith, e, le))) ∙ h.none n (omega (arith, le))

paired_gone : (sessions : Sessions) (all : AllCopies) (next i : ℕ) → Paired sessions all next → Paired (remove sessions i) (remove all i) next
paired_gone sessions all next i h = record { same = λ n. by n (same_or_apart n i); none = λ n le. none n le (same_or_apart n i) }
  where
    by : (n : ℕ) → ((n ≡ i) ⊎ (n ≡ i → ⊥)) → is_some (get (remove sessions i) n) ≡ is_some (get (remove all i) n)
    by n (inl e) = ap (λ n. is_some (get (remove sessions i) n)) e ∙ ap is_some (remove_here sessions i) ∙ sym (ap is_some (remove_here all i)) ∙ ap (λ n. is_some (get (remove all i) n)) (sym e)
    by n (inr apart) = ap is_some (remove_apart sessions i n apart) ∙ h.same n ∙ sym (ap is_some (remove_apart all i n apart))

    none : (n : ℕ) → next ≤ n → ((n ≡ i) ⊎ (n ≡ i → ⊥)) → is_some (get (remove sessions i) n) ≡ false
    none n le (inl e) = ap (λ n. is_some (get (remove sessions i) n)) e ∙ ap is_some (remove_here sessions i)
    none n le (inr apart) = ap is_some (remove_apart sessions i n apart) ∙ h.none n le

paired_held : (sessions : Sessions) (all : AllCopies) (next i : ℕ) (x : Session) (c : Copies) → get sessions i ≡ Some x → Paired sessions all next → Paired sessions (insert all i c) next
paired_held sessions all next i x c there h = record { same = λ n. by n (same_or_apart n i); none = h.none }
  where
    by : (n : ℕ) → ((n ≡ i) ⊎ (n ≡ i → ⊥)) → is_some (get sessions n) ≡ is_some (get (insert all i c) n)
    by n (inl e) = ap (λ n. is_some (get sessions n)) e ∙ ap is_some there ∙ sym (ap is_some (insert_here all i c)) ∙ ap (λ n. is_some (get (insert all i c) n)) (sym e)
    by n (inr apart) = h.same n ∙ sym (ap is_some (insert_apart all i c n apart))

-- ---- what is kept goes on

abbrev pub PairedIn : Kept → Type 0
PairedIn k = Paired k.sessions k.copies k.next_session

pub record Goes (k j : Kept) : Type 0 where
  pub paired : PairedIn j
  pub next : k.next_session ≤ j.next_session
  pub sessions : GoesOn IsSameSession k.next_session k.sessions j.sessions
  pub copies : GoesOn Grown k.next_session k.copies j.copies

same_none : (x : Session) → IsSameSession x x
same_none x = record { name = refl; kind = refl; access = refl }

same_both : (x y z : Session) → IsSameSession x y → IsSameSession y z → IsSameSession x z
same_both x y z g h = record { name = h.name ∙ g.name; kind = h.kind ∙ g.kind; access = h.access ∙ g.access }

on_both : {A : Type 0} (R : A → A → Type 0) → ((x y z : A) → R x y → R y z → R x z) → (low high : ℕ) (a b c : FinMap nat_cmp A) → low ≤ high → GoesOn R low a b → GoesOn R high b c → GoesOn R low a c
on_both R both low high a b c le g h n below z there =
    let second : Was R b n z = h n (omega (arith, below, le)) z there in
    let one : Was R a n second.x = g n below second.x second.there in
    record { x = one.x; there = one.there; related = both one.x second.x z one.related second.related }

pub goes_both : (a b c : Kept) → Goes a b → Goes b c → Goes a c
goes_both a b c g h = record {
  paired = h.paired;
  next = omega (arith, g.next, h.next);
  sessions = on_both IsSameSession same_both a.next_session b.next_session a.sessions b.sessions c.sessions g.next g.sessions h.sessions;
  copies = on_both Grown grown_both a.next_session b.next_session a.copies b.copies c.copies g.next g.copies h.copies;
}

-- sessions and entries stay
goes_same : (k j : Kept) → j.sessions ≡ k.sessions → j.copies ≡ k.copies → j.next_session ≡ k.next_session → PairedIn k → Goes k j
goes_same k j s c n h = record {
  paired = subst (λ (next : ℕ). Paired j.sessions j.copies next) (sym n) (subst (λ (all : AllCopies). Paired j.sessions all k.next_session) (sym c) (subst (λ (sessions : Sessions). Paired sessions k.copies k.next_session) (sym s) h));
  next = omega (arith, n);
  sessions = subst (GoesOn IsSameSession k.next_session k.sessions) (sym s) (stays_on IsSameSession k.sessions same_none k.next_session);
  copies = subst (GoesOn Grown k.next_session k.copies) (sym c) (stays_on Grown k.copies grown_none k.next_session);
}

pub goes_none : (k : Kept) → PairedIn k → Goes k k
goes_none k h = goes_same k k refl refl refl h

module _ (owners : Owners) (sessions : Sessions) (test : SessionNo → Session → Body → Bool) where
  abbrev in_session : ℕ → Copies → Copies
  in_session s copies = given (get sessions s) copies (λ session. detached_from (body_in owners (record { 0 = s }) session) (test (record { 0 = s }) session) copies)

  detached_grows : (n : ℕ) (c : Copies) → Grown c (in_session n c)
  detached_grows n c = of_given (Grown c) (get sessions n) c _ (grown_none c) (λ session there. grown_detached (body_in owners (record { 0 = n }) session) (test (record { 0 = n }) session) c)

  detached_on : (all : AllCopies) (limit : ℕ) → GoesOn Grown limit all (detached owners sessions test all)
  detached_on all limit = each_on Grown all in_session detached_grows limit

  detached_keys : (all : AllCopies) → SameKeys (detached owners sessions test all) all
  detached_keys all = each_keys all in_session

goes_settled : (k : Kept) (n : OwnerNo) → PairedIn k → Goes k (settled k n)
goes_settled k n h = of_given (Goes k) (get k.owners n.0) k _ (goes_none k h) (λ owner there. record {
  paired = paired_keys k.sessions k.sessions k.copies (detached k.owners k.sessions (is_settled n (net k.catalog owner)) k.copies) k.next_session (λ n. refl) (detached_keys k.owners k.sessions (is_settled n (net k.catalog owner)) k.copies) h;
  next = omega arith;
  sessions = stays_on IsSameSession k.sessions same_none k.next_session;
  copies = detached_on k.owners k.sessions (is_settled n (net k.catalog owner)) k.copies k.next_session;
})

goes_without : (k : Kept) (n : OwnerNo) → PairedIn k → Goes k (without_transaction_of k n)
goes_without k n h = record {
  paired = paired_keys k.sessions (each (λ s session. without_transaction n session) k.sessions) k.copies (detached k.owners k.sessions (λ s session body. is_in n session) k.copies) k.next_session (each_keys k.sessions (λ s session. without_transaction n session)) (detached_keys k.owners k.sessions (λ s session body. is_in n session) k.copies) h;
  next = omega arith;
  sessions = each_on IsSameSession k.sessions (λ s session. without_transaction n session) (λ s session. record { name = refl; kind = refl; access = refl }) k.next_session;
  copies = detached_on k.owners k.sessions (λ s session body. is_in n session) k.copies k.next_session;
}

goes_opened : (k j : Kept) (x : Session) → j.sessions ≡ insert k.sessions k.next_session x → j.copies ≡ insert k.copies k.next_session no_copies → j.next_session ≡ k.next_session + 1 → PairedIn k → Goes k j
goes_opened k j x s c n h = record {
  paired = subst (λ (next : ℕ). Paired j.sessions j.copies next) (sym n) (subst (λ (all : AllCopies). Paired j.sessions all (k.next_session + 1)) (sym c) (subst (λ (sessions : Sessions). Paired sessions (insert k.copies k.next_session no_copies) (k.next_session + 1)) (sym s) (paired_new k.sessions k.copies k.next_session x no_copies h)));
  next = omega (arith, n);
  sessions = subst (GoesOn IsSameSession k.next_session k.sessions) (sym s) (insert_on IsSameSession k.sessions k.next_session x same_none k.next_session (λ below. absurd (omega (arith, below))));
  copies = subst (GoesOn Grown k.next_session k.copies) (sym c) (insert_on Grown k.copies k.next_session no_copies grown_none k.next_session (λ below. absurd (omega (arith, below))));
}

goes_closed : (k j : Kept) (s : SessionNo) → j.sessions ≡ remove k.sessions s.0 → j.copies ≡ remove k.copies s.0 → j.next_session ≡ k.next_session → PairedIn k → Goes k j
goes_closed k j i s c n h = record {
  paired = subst (λ (next : ℕ). Paired j.sessions j.copies next) (sym n) (subst (λ (all : AllCopies). Paired j.sessions all k.next_session) (sym c) (subst (λ (sessions : Sessions). Paired sessions (remove k.copies i.0) k.next_session) (sym s) (paired_gone k.sessions k.copies k.next_session i.0 h)));
  next = omega (arith, n);
  sessions = subst (GoesOn IsSameSession k.next_session k.sessions) (sym s) (remove_on IsSameSession k.sessions i.0 same_none k.next_session);
  copies = subst (GoesOn Grown k.next_session k.copies) (sym c) (remove_on Grown k.copies i.0 grown_none k.next_session);
}

goes_held : (k : Kept) (s : SessionNo) (session : Session) (copies : Copies) → get k.sessions s.0 ≡ Some session → Grown (copies_of k s) copies → PairedIn k → Goes k (record k { copies = insert k.copies s.0 copies })
goes_held k s session copies there grown h = record {
  paired = paired_held k.sessions k.copies k.next_session s.0 session copies there h;
  next = omega arith;
  sessions = stays_on IsSameSession k.sessions same_none k.next_session;
  copies = insert_on Grown k.copies s.0 copies grown_none k.next_session (λ below. by (get k.copies s.0) refl grown (sym (h.same s.0) ∙ ap is_some there));
}
  where
    by : (o : Option Copies) → get k.copies s.0 ≡ o → Grown (unwrap_or o no_copies) copies → is_some o ≡ true → Was Grown k.copies s.0 copies
    by None is grown some = absurd cc
    by (Some c) is grown some = record { x = c; there = is; related = grown }

pub moved_goes : (S : Schema) (k : Kept) (command : Command) (effect : Effect) (reply : Reply) → Known S k command effect reply → PairedIn k → Goes k (moved k effect)
moved_goes S k command Stays reply known h = goes_none k h
moved_goes S k command (OpensBasic name access) reply known h = goes_opened k (moved k (OpensBasic name access)) _ refl refl refl h
moved_goes S k command (OpensTransactional name access) reply known h = goes_opened k (moved k (OpensTransactional name access)) _ refl refl refl h
moved_goes S k command (ClosesBasic s n) reply known h = goes_closed k (moved k (ClosesBasic s n)) s refl refl refl h
moved_goes S k command (ClosesTransactional s) reply known h = goes_closed k (moved k (ClosesTransactional s)) s refl refl refl h
moved_goes S k command (Begins name level) reply known h = goes_same k (moved k (Begins name level)) refl refl refl h
moved_goes S k command (Associates s association) reply known h = record {
  paired = paired_keys k.sessions (with_at k.sessions s.0 (with_association association)) k.copies k.copies k.next_session (with_keys k.sessions s.0 (with_association association)) (λ n. refl) h;
  next = omega arith;
  sessions = with_on IsSameSession k.sessions s.0 (with_association association) same_none (λ x. record { name = refl; kind = refl; access = refl }) k.next_session;
  copies = stays_on Grown k.copies grown_none k.next_session;
}
moved_goes S k command (Ends s n failed) reply known h = record {
  paired = paired_keys k.sessions (with_at k.sessions s.0 (with_association (Ending n))) k.copies (detached k.owners k.sessions (λ t session body. is_session s t) k.copies) k.next_session (with_keys k.sessions s.0 (with_association (Ending n))) (detached_keys k.owners k.sessions (λ t session body. is_session s t) k.copies) h;
  next = omega arith;
  sessions = with_on IsSameSession k.sessions s.0 (with_association (Ending n)) same_none (λ x. record { name = refl; kind = refl; access = refl }) k.next_session;
  copies = detached_on k.owners k.sessions (λ t session body. is_session s t) k.copies k.next_session;
}
moved_goes S k command (Holds s copies) reply known h = goes_held k s known.1.session copies known.1.there known.1.grown h
moved_goes S k command (Steps n s step asked) reply known h = record {
  paired = paired_keys k.sessions k.sessions k.copies (with_at left s.0 seat) k.next_session (λ n. refl) (λ n. with_keys left s.0 seat n ∙ detached_keys k.owners k.sessions (is_outdated n' step) k.copies n) h;
  next = omega arith;
  sessions = stays_on IsSameSession k.sessions same_none k.next_session;
  copies = on_both Grown grown_both k.next_session k.next_session k.copies left (with_at left s.0 seat) (omega arith) (detached_on k.owners k.sessions (is_outdated n' step) k.copies k.next_session)
      (with_on Grown left s.0 seat grown_none (grown_seated k.catalog (seen_in (owners_after k n' step) k.sessions s) asked step.answer) k.next_session);
}
  where
    n' : OwnerNo
    n' = n

    left : AllCopies
    left = detached k.owners k.sessions (is_outdated n step) k.copies

    seat : Copies → Copies
    seat = seated k.catalog (seen_in (owners_after k n step) k.sessions s) asked step.answer
moved_goes S k command (Commits n) reply known h = (let one : Goes k (settled k n) = goes_settled k n h in goes_both k (settled k n) (without_transaction_of (settled k n) n) one (goes_without (settled k n) n one.paired))
moved_goes S k command (Flushes n) reply known h = (let one : Goes k (settled k n) = goes_settled k n h in goes_both k (settled k n) (emptied (settled k n) n) one (goes_same (settled k n) (emptied (settled k n) n) refl refl refl one.paired))
moved_goes S k command (RollsBack n) reply known h = goes_without k n h

-- ---- runs

module _ (S : Schema) (limits : Limits) where
  turn_goes : (q : Machine) (x : Said) → PairedIn q.kept → Goes q.kept (turn S limits q x).kept
  turn_goes q Silent h = goes_none q.kept h
  turn_goes q (Wrong column) h = goes_none q.kept h
  turn_goes q (Says command) h = moved_goes S q.kept command (decision S limits q.kept command).effect (decision S limits q.kept command).reply (decision_seen S limits q.kept command) h

  pub run_goes : (q : Machine) (lines : List Said) → PairedIn q.kept → Goes q.kept (run S limits q lines).kept
  run_goes q [] h = goes_none q.kept h
  run_goes q (x ∷ lines) h = (let one : Goes q.kept (turn S limits q x).kept = turn_goes q x h in goes_both q.kept (turn S limits q x).kept (run S limits q (x ∷ lines)).kept one (run_goes (turn S limits q x) lines one.paired))

  pub first_paired : (M : Catalog) (next : ℕ) → PairedIn (first M next).kept
  first_paired M next = record { same = λ n. ap is_some (get-empty {X = Session} nat_cmp n) ∙ sym (ap is_some (get-empty {X = Copies} nat_cmp n)); none = λ n le. ap is_some (get-empty {X = Session} nat_cmp n) }

  module _ (M : Catalog) (next : ℕ) (xs : List Said) where
    pub run_paired : PairedIn (run S limits (first M next) xs).kept
    run_paired = (run_goes (first M next) xs (first_paired M next)).paired

    pub moment_goes : (ys : List Said) → Goes (run S limits (first M next) xs).kept (run S limits (first M next) (xs ++ ys)).kept
    moment_goes ys = subst (λ (q : Machine). Goes (run S limits (first M next) xs).kept q.kept) (sym (run_append S limits (first M next) xs ys)) (run_goes (run S limits (first M next) xs) ys run_paired)

-- ---- what is said of runs

-- one of two numbers is below the other, or it is not
below_or_not : (a b : ℕ) → (a < b) ⊎ (b ≤ a)
below_or_not a b = by (nat_lt a b) refl
  where
    by : (t : Bool) → nat_lt a b ≡ t → (a < b) ⊎ (b ≤ a)
    by true e = inl (grind (arith, nat_tests))
    by false e = inr (grind (arith, nat_tests))

-- a session that is there has a number below the next one
there_below : (k : Kept) (n : ℕ) → PairedIn k → is_some (get k.sessions n) ≡ true → n < k.next_session
there_below k n h there = by (below_or_not n k.next_session)
  where
    by : ((n < k.next_session) ⊎ (k.next_session ≤ n)) → n < k.next_session
    by (inl below) = below
    by (inr above) = absurd (true_false there (h.none n above))

pub sessions_once : SessionsComeOnce
sessions_once S limits M next xs ys zs m n was none there = by (below_or_not n then.next_session)
  where
    before : Kept
    before = (run S limits (first M next) xs).kept

    then : Kept
    then = (run S limits (first M next) (xs ++ ys)).kept

    later : Kept
    later = (run S limits (first M next) (xs ++ ys ++ zs)).kept

    h : PairedIn before
    h = run_paired S limits M next xs

    one : Goes before then
    one = moment_goes S limits M next xs ys

    two : Goes then later
    two = moment_goes S limits M next (xs ++ ys) zs

    by : ((n < then.next_session) ⊎ (then.next_session ≤ n)) → m < n
    by (inl below) =
        let x : (y : Session) × (get later.sessions n ≡ Some y) = some_is (get later.sessions n) there in
        let w : Was IsSameSession then.sessions n x.0 = two.sessions n below x.0 x.1 in
        absurd (true_false (ap is_some w.there) none)
    by (inr above) = (let low : m < before.next_session = there_below before m h was in omega (arith, low, one.next, above))

-- ---- entries

-- a number that is found is at most the last one
at_most : (low last n : ℕ) (es : List Entry) (e : Entry) → NumbersRise low last es → find (λ e. e.number == n) es ≡ Some e → n ≤ last
at_most low last n [] e h there = absurd (none_some there)
at_most low last n (x ∷ es) e h there = by (x.number == n) refl there (at_most x.number last n es e h.2)
  where
    by : (b : Bool) → (x.number == n) ≡ b → cond b (Some x) (find (λ e. e.number == n) es) ≡ Some e → (find (λ e. e.number == n) es ≡ Some e → n ≤ last) → n ≤ last
    by true is there rest = (let same : x.number ≡ n = eqb-true x.number n is in omega (arith, same, h.1))
    by false is there rest = rest there

-- a session that has an entry has entries
record Seated (k : Kept) (s : SessionNo) (n : ℕ) (e : Entry) : Type 0 where
  copies : Copies
  there : get k.copies s.0 ≡ Some copies
  found : entry_numbered copies n ≡ Some e

seated_is : (k : Kept) (s : SessionNo) (n : ℕ) (e : Entry) → entry_numbered (copies_of k s) n ≡ Some e → Seated k s n e
seated_is k s n e found = by (get k.copies s.0) refl found
  where
    by : (o : Option Copies) → get k.copies s.0 ≡ o → entry_numbered (unwrap_or o no_copies) n ≡ Some e → Seated k s n e
    by None is found = absurd (none_some found)
    by (Some c) is found = record { copies = c; there = is; found = found }

of_session : (k : Kept) (s : SessionNo) (c : Copies) → get k.copies s.0 ≡ Some c → copies_of k s ≡ c
of_session k s c there = ap (λ o. unwrap_or o no_copies) there

-- the number of an entry at one moment, and an entry at a later one
record Since (k j : Kept) (s : SessionNo) (m n : ℕ) (e : Entry) : Type 0 where
  old : Copies
  was : get k.copies s.0 ≡ Some old
  last : m ≤ old.last
  new : Copies
  there : get j.copies s.0 ≡ Some new
  grown : Grown old new
  found : entry_numbered new n ≡ Some e

since_is : (k j : Kept) (s : SessionNo) (m n : ℕ) (x e : Entry) → PairedIn k → ((c : Copies) → get k.copies s.0 ≡ Some c → AreOrderly c) → Goes k j → entry_numbered (copies_of k s) m ≡ Some x → entry_numbered (copies_of j s) n ≡ Some e → Since k j s m n e
since_is k j s m n x e h orderly goes at_k at_j =
    let a : Seated k s m x = seated_is k s m x at_k in
    let b : Seated j s n e = seated_is j s n e at_j in
    let below : s.0 < k.next_session = there_below k s.0 h (h.same s.0 ∙ ap is_some a.there) in
    let w : Was Grown k.copies s.0 b.copies = goes.copies s.0 below b.copies b.there in
    let same : a.copies ≡ w.x = same_some (sym a.there ∙ w.there) in
    record {
      old = a.copies;
      was = a.there;
      last = at_most 0 a.copies.last m a.copies.entries x (orderly a.copies a.there).numbers a.found;
      new = b.copies;
      there = b.there;
      grown = subst (λ (c : Copies). Grown c b.copies) (sym same) w.related;
      found = b.found;
    }

-- an entry that is there later and was not at a moment has a number above all that were there by then
above_all : (k j l : Kept) (s : SessionNo) (m n : ℕ) (x e : Entry) → PairedIn k → ((c : Copies) → get k.copies s.0 ≡ Some c → AreOrderly c) → Goes k j → Goes j l
    → entry_numbered (copies_of k s) m ≡ Some x → has_entry s j n ≡ false → entry_numbered (copies_of l s) n ≡ Some e → m < n
above_all k j l s m n x e h orderly one two at_k none at_l = by (get j.copies s.0) refl (below_or_not m n)
  where
    a : Seated k s m x
    a = seated_is k s m x at_k

    b : Seated l s n e
    b = seated_is l s n e at_l

    below : s.0 < k.next_session
    below = there_below k s.0 h (h.same s.0 ∙ ap is_some a.there)

    mid : Was Grown j.copies s.0 b.copies
    mid = two.copies s.0 (omega (arith, below, one.next)) b.copies b.there

    low : Was Grown k.copies s.0 mid.x
    low = one.copies s.0 below mid.x mid.there

    last : m ≤ mid.x.last
    last =
        let same : a.copies ≡ low.x = same_some (sym a.there ∙ low.there) in
        let most : m ≤ a.copies.last = at_most 0 a.copies.last m a.copies.entries x (orderly a.copies a.there).numbers a.found in
        let more : m ≤ low.x.last = subst (λ (c : Copies). m ≤ c.last) same most in
        omega (arith, more, low.related.last)

    by : (o : Option Copies) → get j.copies s.0 ≡ o → ((m < n) ⊎ (n ≤ m)) → m < n
    by o is (inl less) = less
    by o is (inr more) =
        let had : Had mid.x n e = mid.related.had n e (omega (arith, more, last)) b.found in
        absurd (true_false (ap (λ c. is_some (entry_numbered c n)) (of_session j s mid.x mid.there) ∙ ap is_some had.there) none)

pub entries_once : EntriesComeOnce
entries_once s S limits M next xs ys zs m n was none there =
    let before : Kept = (run S limits (first M next) xs).kept in
    let then : Kept = (run S limits (first M next) (xs ++ ys)).kept in
    let later : Kept = (run S limits (first M next) (xs ++ ys ++ zs)).kept in
    let x : (x : Entry) × (entry_numbered (copies_of before s) m ≡ Some x) = some_is (entry_numbered (copies_of before s) m) was in
    let e : (e : Entry) × (entry_numbered (copies_of later s) n ≡ Some e) = some_is (entry_numbered (copies_of later s) n) there in
    above_all before then later s m n x.0 e.0 (run_paired S limits M next xs) (λ c there. orderly.entries_are_orderly S limits M next xs s.0 c there) (moment_goes S limits M next xs ys)
    (moment_goes S limits M next (xs ++ ys) zs) x.1 none e.1

pub entries_stay : EntriesStay
entries_stay S limits M next xs ys s n old new at_old at_new =
    let before : Kept = (run S limits (first M next) xs).kept in
    let since : Since before (run S limits (first M next) (xs ++ ys)).kept s n n new = since_is before (run S limits (first M next) (xs ++ ys)).kept s n n old new (run_paired S limits M next xs) (λ c there. orderly.entries_are_orderly S limits M next xs s.0 c there) (moment_goes S limits M next xs ys) at_old at_new in
    let had : Had since.old n new = since.grown.had n new since.last since.found in
    let same : had.was ≡ old = same_some (sym had.there ∙ ap (λ c. entry_numbered c n) (sym (of_session before s since.old since.was)) ∙ at_old) in
    had.pid ∙ ap (λ (e : Entry). e.pid) same

pub sessions_stay : SessionsStay
sessions_stay S limits M next xs ys n old new at_old at_new =
    let before : Kept = (run S limits (first M next) xs).kept in
    let later : Kept = (run S limits (first M next) (xs ++ ys)).kept in
    let low : n < before.next_session = there_below before n (run_paired S limits M next xs) (ap is_some at_old) in
    let w : Was IsSameSession before.sessions n new = (moment_goes S limits M next xs ys).sessions n low new at_new in
    let same : w.x ≡ old = same_some (sym w.there ∙ at_old) in
    subst (λ (x : Session). IsSameSession x new) same w.related
