-- The first of a list that passes a test, by its place.
use Rattle.std.proofs.Common.{ℕ, ◌≡◌, ◌+◌, List, [], ◌∷◌, Bool, true, false, Some, refl}
use Rattle.std.specs.Prelude.{cond, is_some, ◌||◌}
use Rattle.std.specs.List.{list_any, position_from}

pub any_by_place : {X : Type 0} (test : X → Bool) (i : ℕ) (xs : List X) → is_some (position_from test i xs) ≡ list_any test xs
any_by_place test i [] = refl
any_by_place {X} test i (x ∷ xs) = by (test x) (any_by_place test (i + 1) xs)
  where
    by : (b : Bool) → is_some (position_from test (i + 1) xs) ≡ list_any test xs → is_some (cond b (Some i) (position_from test (i + 1) xs)) ≡ (b || list_any test xs)
    by true h = refl
    by false h = h
