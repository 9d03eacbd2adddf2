-- Where the way ends: what is kept after the step.
use Rattle.std.proofs.Common.{◌≡◌, ℕ, Bool, true, false, Option, Some, None, refl, sym, ap, ◌∙◌}
use Rattle.std.specs.Prelude.{unwrap_or, if◌then◌else◌}
use Rattle.std.specs.Ordering.{nat_cmp}
use Rattle.std.specs.Cmp.{nat_cmp_total}
use Rattle.std.specs.FinMap.{FinMap, get, insert, same_map, get-insert, nat_cmp-IsAntisymmetric}
use Rattle.std.specs.Ordering.{eq_by_cmp}
use Rattle.std.proofs.Common.{cond}
use Rattle.pss_base.specs.declared.pid.Pid.{Pid}
use Rattle.pss_base.specs.declared.owner.OwnerNo.{OwnerNo}
use Rattle.pss_base.specs.declared.session.SessionNo.{SessionNo}
use Rattle.type_layout.specs.Schemas.{given}
use Rattle.pss_catalog.specs.Catalog.{Catalog}
use Rattle.pss_machine.specs.declared.session.View.{View}
use Rattle.pss_machine.specs.Maps.{with_at}
use Rattle.pss_machine.specs.Operations.{PlainAnswer, Done, Found, IsThere, Val, Number, Listing, NotFound, Gone, Nil, Duplicate, TooLarge, Busy}
use Rattle.pss_machine.specs.Owners.{Step}
use Rattle.pss_machine.specs.Copies.{Copies, AllCopies, no_copies, number_for, obtained, at_entry, attached}
use Rattle.pss_machine.specs.Kept.{Kept, copies_of}
use Rattle.pss_machine.specs.Asking.{Asked}
use Rattle.pss_machine.specs.Moving.{is_done, with_named, with_found, seated, seen_in, after_step}
use Rattle.pss_machine.proofs.Maps.{with_at_same, insert_here}
use Rattle.pss_copies.specs.Stepped.{left_by}
use Rattle.data_calls.specs.Ways.{named_at, found_at, named_by, seated_by}

-- ---- one place of a map, twice

insert_twice : {A : Type 0} (m : FinMap nat_cmp A) (n : ℕ) (x y : A) → insert (insert m n x) n y ≡ insert m n y
insert_twice m n x y = same_map nat_cmp_total nat_cmp-IsAntisymmetric (insert (insert m n x) n y) (insert m n y) (λ q.
    get-insert nat_cmp_total (insert m n x) n y q
    ∙ ap (cond (eq_by_cmp nat_cmp q n) (Some y)) (get-insert nat_cmp_total m n x q)
    ∙ by (eq_by_cmp nat_cmp q n) (get m q)
    ∙ sym (get-insert nat_cmp_total m n y q))
  where
    by : (b : Bool) (o : Option _) → cond b (Some y) (cond b (Some x) o) ≡ cond b (Some y) o
    by true o = refl
    by false o = refl

pub with_twice : (m : AllCopies) (n : ℕ) (f g : Copies → Copies) → with_at (with_at m n f) n g ≡ with_at m n (λ c. g (f c))
with_twice m n f g = by (get m n) refl
  where
    by : (o : Option Copies) → get m n ≡ o → with_at (with_at m n f) n g ≡ with_at m n (λ c. g (f c))
    by None is =
        let same : with_at m n f ≡ m = ap (λ o. given o m (λ x. insert m n (f x))) is in
        ap (λ (k : AllCopies). with_at k n g) same ∙ ap (λ o. given o m (λ x. insert m n (g x))) is ∙ sym (ap (λ o. given o m (λ x. insert m n (g (f x)))) is)
    by (Some c) is =
        let one : with_at m n f ≡ insert m n (f c) = ap (λ o. given o m (λ x. insert m n (f x))) is in
        ap (λ (k : AllCopies). with_at k n g) one
        ∙ ap (λ o. given o (insert m n (f c)) (λ x. insert (insert m n (f c)) n (g x))) (insert_here m n (f c))
        ∙ insert_twice m n (f c) (g (f c))
        ∙ sym (ap (λ o. given o m (λ x. insert m n (g (f x)))) is)

-- it matters only what becomes of what is there
pub with_alike : (m : AllCopies) (s : SessionNo) (f g : Copies → Copies) → f (unwrap_or (get m s.0) no_copies) ≡ g (unwrap_or (get m s.0) no_copies) → with_at m s.0 f ≡ with_at m s.0 g
with_alike m s f g same = by (get m s.0) refl
  where
    by : (o : Option Copies) → get m s.0 ≡ o → with_at m s.0 f ≡ with_at m s.0 g
    by None is = ap (λ o. given o m (λ x. insert m s.0 (f x))) is ∙ sym (ap (λ o. given o m (λ x. insert m s.0 (g x))) is)
    by (Some c) is =
        let one : f c ≡ g c = sym (ap (λ (o : Option Copies). f (unwrap_or o no_copies)) is) ∙ same ∙ ap (λ (o : Option Copies). g (unwrap_or o no_copies)) is in
        ap (λ o. given o m (λ x. insert m s.0 (f x))) is ∙ ap (insert m s.0) one ∙ sym (ap (λ o. given o m (λ x. insert m s.0 (g x))) is)

-- ---- the way

module _ (k : Kept) (s : SessionNo) where
  abbrev seen : Pid → View
  seen = seen_in k.owners k.sessions s

  -- what is found
  found_copies : (obtains : Bool) (answer : PlainAnswer) → (found_at k s obtains answer).copies ≡ with_at k.copies s.0 (with_found k.catalog (seen_in k.owners k.sessions s) obtains answer)
  found_copies true (Found p) =
      with_twice k.copies s.0 (obtained p) (at_entry (number_for (copies_of k s) p) (attached k.catalog (seen_in k.owners k.sessions s)))
      ∙ with_alike k.copies s (λ c. at_entry (number_for (copies_of k s) p) (attached k.catalog (seen_in k.owners k.sessions s)) (obtained p c)) (λ c. at_entry (number_for c p) (attached k.catalog (seen_in k.owners k.sessions s)) (obtained p c)) refl
  found_copies true Done = sym (with_at_same k.copies s.0 (λ c. c) (λ x e. refl))
  found_copies true (IsThere b) = sym (with_at_same k.copies s.0 (λ c. c) (λ x e. refl))
  found_copies true (Val v) = sym (with_at_same k.copies s.0 (λ c. c) (λ x e. refl))
  found_copies true (Number n) = sym (with_at_same k.copies s.0 (λ c. c) (λ x e. refl))
  found_copies true (Listing n first) = sym (with_at_same k.copies s.0 (λ c. c) (λ x e. refl))
  found_copies true NotFound = sym (with_at_same k.copies s.0 (λ c. c) (λ x e. refl))
  found_copies true (Gone p) = sym (with_at_same k.copies s.0 (λ c. c) (λ x e. refl))
  found_copies true Nil = sym (with_at_same k.copies s.0 (λ c. c) (λ x e. refl))
  found_copies true (Duplicate key) = sym (with_at_same k.copies s.0 (λ c. c) (λ x e. refl))
  found_copies true TooLarge = sym (with_at_same k.copies s.0 (λ c. c) (λ x e. refl))
  found_copies true (Busy n) = sym (with_at_same k.copies s.0 (λ c. c) (λ x e. refl))
  found_copies false answer = sym (with_at_same k.copies s.0 (λ c. c) (λ x e. refl))

-- an answer that is not done finds nothing
undone : (M : Catalog) (seen : Pid → View) (obtains : Bool) (answer : PlainAnswer) → is_done answer ≡ false → (c : Copies) → with_found M seen obtains answer c ≡ c
undone M seen true (Found p) e c = absurd (cc)
undone M seen true Done e c = refl
undone M seen true (IsThere b) e c = refl
undone M seen true (Val v) e c = refl
undone M seen true (Number n) e c = refl
undone M seen true (Listing n first) e c = refl
undone M seen true NotFound e c = refl
undone M seen true (Gone p) e c = refl
undone M seen true Nil e c = refl
undone M seen true (Duplicate key) e c = refl
undone M seen true TooLarge e c = refl
undone M seen true (Busy n) e c = refl
undone M seen false answer e c = refl

module _ (k : Kept) (s : SessionNo) (asked : Asked) (answer : PlainAnswer) where
  -- what stays as it is
  abbrev pub StaysBut : Kept → Type 0
  StaysBut j = (j.catalog ≡ k.catalog) × (j.owners ≡ k.owners) × (j.sessions ≡ k.sessions) × (j.next_session ≡ k.next_session)

  named_stays : (entry : Option ℕ) → StaysBut (named_at k s entry)
  named_stays None = (refl, refl, refl, refl)
  named_stays (Some n) = (refl, refl, refl, refl)

  by_stays : (b : Bool) (entry : Option ℕ) → StaysBut (if b then named_at k s entry else k)
  by_stays true entry = named_stays entry
  by_stays false entry = (refl, refl, refl, refl)

  pub named_by_stays : (entry : Option ℕ) → StaysBut (named_by k s entry answer)
  named_by_stays entry = by_stays (is_done answer) entry

found_stays : (k : Kept) (s : SessionNo) (obtains : Bool) (answer : PlainAnswer) → ((found_at k s obtains answer).catalog ≡ k.catalog) × ((found_at k s obtains answer).owners ≡ k.owners) × ((found_at k s obtains answer).sessions ≡ k.sessions) × ((found_at k s obtains answer).next_session ≡ k.next_session)
found_stays k s true (Found p) = (refl, refl, refl, refl)
found_stays k s true Done = (refl, refl, refl, refl)
found_stays k s true (IsThere b) = (refl, refl, refl, refl)
found_stays k s true (Val v) = (refl, refl, refl, refl)
found_stays k s true (Number n) = (refl, refl, refl, refl)
found_stays k s true (Listing n first) = (refl, refl, refl, refl)
found_stays k s true NotFound = (refl, refl, refl, refl)
found_stays k s true (Gone p) = (refl, refl, refl, refl)
found_stays k s true Nil = (refl, refl, refl, refl)
found_stays k s true (Duplicate key) = (refl, refl, refl, refl)
found_stays k s true TooLarge = (refl, refl, refl, refl)
found_stays k s true (Busy n) = (refl, refl, refl, refl)
found_stays k s false answer = (refl, refl, refl, refl)

-- ---- its end

module _ (k : Kept) (s : SessionNo) (asked : Asked) (answer : PlainAnswer) where
  pub seated_copies : (seated_by k s asked answer).copies ≡ with_at k.copies s.0 (seated k.catalog (seen_in k.owners k.sessions s) asked answer)
  seated_copies =
      found_copies (named_by k s asked.entry answer) s asked.obtains answer
      ∙ ap (λ (M : Catalog). with_at (named_by k s asked.entry answer).copies s.0 (with_found M (seen_in (named_by k s asked.entry answer).owners (named_by k s asked.entry answer).sessions s) asked.obtains answer)) (named_by_stays k s asked answer asked.entry).0
      ∙ by (is_done answer) refl
    where
      by : (b : Bool) → is_done answer ≡ b
          → with_at (if b then named_at k s asked.entry else k).copies s.0 (with_found k.catalog (seen_in (if b then named_at k s asked.entry else k).owners (if b then named_at k s asked.entry else k).sessions s) asked.obtains answer)
          ≡ with_at k.copies s.0 (λ c. if b then with_found k.catalog (seen_in k.owners k.sessions s) asked.obtains answer (with_named k.catalog (seen_in k.owners k.sessions s) asked.entry c) else c)
      by false is = with_alike k.copies s (with_found k.catalog (seen_in k.owners k.sessions s) asked.obtains answer) (λ c. c) (undone k.catalog (seen_in k.owners k.sessions s) asked.obtains answer is _)
      by true is = by_entry asked.entry
        where
          by_entry : (entry : Option ℕ)
              → with_at (named_at k s entry).copies s.0 (with_found k.catalog (seen_in (named_at k s entry).owners (named_at k s entry).sessions s) asked.obtains answer)
              ≡ with_at k.copies s.0 (λ c. with_found k.catalog (seen_in k.owners k.sessions s) asked.obtains answer (with_named k.catalog (seen_in k.owners k.sessions s) entry c))
          by_entry None = refl
          by_entry (Some n) = with_twice k.copies s.0 (at_entry n (attached k.catalog (seen_in k.owners k.sessions s))) (with_found k.catalog (seen_in k.owners k.sessions s) asked.obtains answer)

  pub seated_next : (seated_by k s asked answer).next_session ≡ k.next_session
  seated_next = (found_stays (named_by k s asked.entry answer) s asked.obtains answer).3 ∙ (named_by_stays k s asked answer asked.entry).3

-- the entries that a step leaves and seats are those after it
pub way_ends : (k : Kept) (n : OwnerNo) (s : SessionNo) (step : Step) (asked : Asked) → (seated_by (left_by k n step) s asked step.answer).copies ≡ (after_step k n s step asked).copies
way_ends k n s step asked = seated_copies (left_by k n step) s asked step.answer
