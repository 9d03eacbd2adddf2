-- What a buffer has.
use Rattle.std.specs.Prelude.{ℕ, List}

-- the octets that were put into it, and how many there is room for
pub record Filled : Type 0 where
  pub size : ℕ
  pub octets : List ℕ
