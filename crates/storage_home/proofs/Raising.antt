-- The numbers of homes, raised and lowered.
use Rattle.std.proofs.Common.{ℕ, zero, suc, ◌+◌, ◌-◌, ◌≡◌, ◌<◌, ◌≤◌, ◌==◌, List, [], ◌∷◌, length, Some, None, Bool, true, false, cond, inl, inr, set, get_or, refl, sym, ap, subst, ◌∙◌, arith}
use Rattle.std.specs.List.{slice_get}
use Rattle.std.proofs.lemmas.Option.{slice_get-get_or}
use Rattle.type_layout.specs.Schemas.{given, nth}
use Rattle.pss_catalog.proofs.Forest.{Compared, compared, same_place, other_place}
use Rattle.storage_home.specs.Counts.{number_at, IsRaised}
use Rattle.storage_home.proofs.Places.{by_test, same_number}

less_one : (h : ℕ) → suc h - 1 ≡ h
less_one h = omega arith

get_other : {A : Type 0} (xs : List A) (i j : ℕ) (x : A) → (i ≡ j → ⊥) → slice_get (set xs i x) j ≡ slice_get xs j
get_other [] i j x never = refl
get_other (y ∷ ys) zero zero x never = absurd (never refl)
get_other (y ∷ ys) zero (suc j) x never = refl
get_other (y ∷ ys) (suc i) zero x never = refl
get_other (y ∷ ys) (suc i) (suc j) x never = get_other ys i j x (λ e. never (ap (λ (k : ℕ). suc k) e))

get_same : {A : Type 0} (xs : List A) (i : ℕ) (x : A) → i < length xs → slice_get (set xs i x) i ≡ Some x
get_same [] i x within = absurd (omega (arith, within))
get_same (y ∷ ys) zero x within = refl
get_same (y ∷ ys) (suc i) x within = get_same ys i x (omega (arith, within))

pub get_set : {A : Type 0} (xs : List A) (i j : ℕ) (x : A) → i < length xs → slice_get (set xs i x) j ≡ cond (i == j) (Some x) (slice_get xs j)
get_set {A} xs i j x within = by (compared i j)
  where
    other : (i ≡ j → ⊥) → slice_get (set xs i x) j ≡ cond (i == j) (Some x) (slice_get xs j)
    other never = get_other xs i j x never ∙ sym (other_place j i (Some x) (slice_get xs j) never)

    by : Compared i j → slice_get (set xs i x) j ≡ cond (i == j) (Some x) (slice_get xs j)
    by (inl less) = other (λ e. omega (arith, e, less))
    by (inr (inl is)) = subst (λ (k : ℕ). slice_get (set xs i x) k ≡ cond (i == k) (Some x) (slice_get xs k)) is (get_same xs i x within ∙ sym (same_place i i (Some x) (slice_get xs i) refl))
    by (inr (inr more)) = other (λ e. omega (arith, e, more))

pub nth_set : {A : Type 0} (xs : List A) (home to : ℕ) (x : A) → 0 < home → home ≤ length xs → nth (set xs (home - 1) x) to ≡ cond (home == to) (Some x) (nth xs to)
nth_set xs zero to x pos there = absurd (omega (arith, pos))
nth_set {A} xs (suc h) zero x pos there = sym (other_place 0 (suc h) (Some x) None (λ e. omega (arith, e)))
nth_set {A} xs (suc h) (suc t) x pos there =
    ap (λ (k : ℕ). slice_get (set xs k x) t) (less_one h) ∙ get_set xs h t x (omega (arith, there)) ∙ by (compared h t)
  where
    other : (h ≡ t → ⊥) → cond (h == t) (Some x) (slice_get xs t) ≡ cond (suc h == suc t) (Some x) (slice_get xs t)
    other never = other_place t h (Some x) (slice_get xs t) never ∙ sym (other_place (suc t) (suc h) (Some x) (slice_get xs t) (λ e. never (omega (arith, e))))

    by : Compared h t → cond (h == t) (Some x) (slice_get xs t) ≡ cond (suc h == suc t) (Some x) (slice_get xs t)
    by (inl less) = other (λ e. omega (arith, e, less))
    by (inr (inl is)) = same_place t h (Some x) (slice_get xs t) is ∙ sym (same_place (suc t) (suc h) (Some x) (slice_get xs t) (ap (λ (k : ℕ). suc k) is))
    by (inr (inr more)) = other (λ e. omega (arith, e, more))

pub nth_here : {A : Type 0} (xs : List A) (home : ℕ) (d : A) → 0 < home → home ≤ length xs → nth xs home ≡ Some (get_or xs (home - 1) d)
nth_here xs zero d pos there = absurd (omega (arith, pos))
nth_here xs (suc h) d pos there = slice_get-get_or xs h d (omega (arith, there)) ∙ ap (λ (k : ℕ). Some (get_or xs k d)) (sym (less_one h))

module _ (counts : List ℕ) (home : ℕ) (pos : 0 < home) (there : home ≤ length counts) where
  number_here : get_or counts (home - 1) 0 ≡ number_at counts home
  number_here = ap (λ o. given o 0 (λ n. n)) (sym (nth_here counts home 0 pos there))

  number_written : (v to : ℕ) → number_at (set counts (home - 1) v) to ≡ cond (home == to) v (number_at counts to)
  number_written v to = ap (λ o. given o 0 (λ n. n)) (nth_set counts home to v pos there) ∙ by_test (λ b. given (cond b (Some v) (nth counts to)) 0 (λ n. n) ≡ cond b v (number_at counts to)) (home == to) (λ _. refl) (λ _. refl)

  one_more : (to : ℕ) (b : Bool) → (home == to) ≡ b → cond b (number_at counts home + 1) (number_at counts to) ≡ number_at counts to + cond b 1 0
  one_more to true here = ap (λ (k : ℕ). number_at counts k + 1) (same_number home to here)
  one_more to false other = omega arith

  pub raised : IsRaised counts (set counts (home - 1) (get_or counts (home - 1) 0 + 1)) home
  raised to = ap (λ (n : ℕ). number_at (set counts (home - 1) (n + 1)) to) number_here ∙ number_written (number_at counts home + 1) to ∙ one_more to (home == to) refl

  one_less : 0 < number_at counts home → (to : ℕ) (b : Bool) → (home == to) ≡ b → cond b (number_at counts home - 1) (number_at counts to) + cond b 1 0 ≡ number_at counts to
  one_less some to true here = let same : number_at counts home ≡ number_at counts to = ap (number_at counts) (same_number home to here) in omega (arith, some, same)
  one_less some to false other = omega arith

  pub lowered : 0 < number_at counts home → IsRaised (set counts (home - 1) (get_or counts (home - 1) 0 - 1)) counts home
  lowered some to =
      sym (ap (λ (n : ℕ). number_at (set counts (home - 1) (n - 1)) to + cond (home == to) 1 0) number_here ∙ ap (λ (n : ℕ). n + cond (home == to) 1 0) (number_written (number_at counts home - 1) to) ∙ one_less some to (home == to) refl)

pub number_some : (counts : List ℕ) (home : ℕ) → 0 < number_at counts home → 0 < home
number_some counts zero some = some
number_some counts (suc h) some = omega arith
