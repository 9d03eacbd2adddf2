-- How large values are.
use Rattle.std.proofs.Common.{ℕ, ◌+◌}
use Rattle.type_layout.specs.Types.{PlainValue, Items, Parts, PlainValues, no_values, value_and}

abbrev mutual
  pub size : PlainValue → ℕ
  size (Items vs) = 1 + sizes vs
  size (Parts vs) = 1 + sizes vs
  size _ = 0

  pub sizes : PlainValues → ℕ
  sizes no_values = 0
  sizes (value_and v vs) = 1 + size v + sizes vs
