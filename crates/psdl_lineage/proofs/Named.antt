-- What a definition names, by place.
use Rattle.std.proofs.Common.{◌≡◌, ℕ, zero, suc, ◌≤◌, ◌<◌, List, [], ◌∷◌, true, ◌==◌, length, get_or, Option, Some, None, sym, arith}
use Rattle.std.specs.List.{slice_get}
use Rattle.std.specs.Option.{IfSome}
use Rattle.std.proofs.lemmas.Bool.{eq-eqb}
use Rattle.std.proofs.lemmas.List.Folds.{list_any_at}
use Rattle.std.proofs.lemmas.Option.{slice_get_within, get_or_from_slice_get}
use Rattle.psdl_lineage.specs.Descent.{has}

pub has_at : (xs : List ℕ) (i p : ℕ) → slice_get xs i ≡ Some p → has xs p ≡ true
has_at xs i p h = list_any_at (λ m. m == p) xs i p (slice_get_within xs i p h) (eq-eqb (get_or xs i p) p (get_or_from_slice_get xs i p p h))

pub below_at : (o : Option ℕ) (xs : List ℕ) (i limit : ℕ) → o ≡ slice_get xs i → ((p : ℕ) → has xs p ≡ true → p < limit) → IfSome o (λ p. p < limit)
below_at None xs i limit e h = tt
below_at (Some p) xs i limit e h = h p (has_at xs i p (sym e))

pub past_all : (xs : List ℕ) (i : ℕ) → slice_get xs i ≡ None → length xs ≤ i
past_all [] i h = omega arith
past_all (x ∷ xs) zero h = absurd (cc)
past_all (x ∷ xs) (suc i) h = omega (arith, past_all xs i h)
