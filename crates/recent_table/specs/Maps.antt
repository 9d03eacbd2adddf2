-- Finite maps: another thing in each place, and how many pass a test.
use Rattle.std.specs.Prelude.{ℕ, ◌≡◌, map, filter, length, Bool}
use Rattle.std.specs.Prelude.{IsSomeAnd}
use Rattle.std.specs.declared.cmp.Ordering.{Ordering}
use Rattle.std.specs.FinMap.{FinMap, entries, from_sorted, get, insert}

module _ {K X : Type 0} {R : K → K → Ordering} where
  -- a map with another thing in each place
  abbrev pub each : {Y : Type 0} → (X → Y) → FinMap R X → FinMap R Y
  each f m = from_sorted (map (λ e. (e.0, f e.1)) (entries m))

  -- how many of its entries pass a test
  abbrev pub count : (K × X → Bool) → FinMap R X → ℕ
  count test m = length (filter test (entries m))

  -- what a map has at a key is another
  abbrev pub IsWith : FinMap R X → FinMap R X → K → (X → X) → Type 0
  IsWith old new k f = IsSomeAnd (get old k) (λ x. new ≡ insert old k (f x))
