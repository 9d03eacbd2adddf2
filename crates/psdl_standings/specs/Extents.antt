-- How many octets the defaults of types take from the places where they begin. All that is over the limit of a record counts as one octet over it.
use Rattle.std.specs.Prelude.{ℕ, zero, suc, ◌+◌, ◌%◌, length, min}
use Rattle.std.proofs.Common.{get_or}
use Rattle.type_layout.specs.Types.{PlainType}
use Rattle.type_layout.specs.Defaults.{default}
use Rattle.type_layout.specs.Spelling.{spelling}
use Rattle.psdl_standings.specs.declared.extent.Extent.{Extent as ExtentNode}

-- from a place to the octets that are taken from there on
abbrev pub Extent : Type 0
Extent = ℕ → ℕ

abbrev pub cut : ℕ → ℕ
cut n = min n 8001

abbrev pub nothing : Extent
nothing at = 0

-- one behind the other
abbrev pub followed : Extent → Extent → Extent
followed f g at = cut (f at + g (at + f at))

-- so many times, one behind the other
abbrev pub repeated : Extent → ℕ → Extent
repeated f zero = nothing
repeated f (suc n) = followed f (repeated f n)

-- of the default of a type
abbrev pub extent : PlainType → Extent
extent type at = cut (length (spelling type (default type) at))

-- by the eight places up to the greatest alignment
abbrev pub extent_view : ExtentNode → Extent
extent_view e at = get_or e.0 (at % 8) 0
