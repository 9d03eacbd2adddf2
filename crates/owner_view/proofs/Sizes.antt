-- How large values are, and what they refer to.
use Rattle.std.proofs.Common.{◌≡◌, ℕ, ◌+◌, List, [], ◌∷◌, ◌++◌, refl, ap}
use Rattle.std.specs.List.{flat_map}
use Rattle.type_layout.specs.Types.{PlainValue, Items, Parts, PlainValues, no_values, value_and, values_of}
use Rattle.pss_catalog.specs.Catalog.{references, all_references}

abbrev mutual
  pub size : PlainValue → ℕ
  size (Items vs) = 1 + sizes vs
  size (Parts vs) = 1 + sizes vs
  size _ = 0

  pub sizes : PlainValues → ℕ
  sizes no_values = 0
  sizes (value_and v vs) = 1 + size v + sizes vs

pub all_of_them : (vs : List PlainValue) → all_references (values_of vs) ≡ flat_map references vs
all_of_them [] = refl
all_of_them (v ∷ vs) = ap (λ l. references v ++ l) (all_of_them vs)
