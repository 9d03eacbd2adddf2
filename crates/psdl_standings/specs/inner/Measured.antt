-- What is kept of types by their numbers.
use Rattle.std.specs.Prelude.{◌≡◌, ℕ, ◌<◌, List, length, min}
use Rattle.std.proofs.Common.{get_or}
use Rattle.type_layout.specs.Types.{PlainType}
use Rattle.psdl_standings.specs.declared.extent.Extent.{Extent as ExtentNode}
use Rattle.psdl_standings.specs.Extents.{extent, extent_view}
use Rattle.psdl_standings.specs.Nesting.{nesting}
use Rattle.psdl_standings.specs.inner.TypeNodes.{type_at}

-- what the defaults of the first so many types take
abbrev pub AreExtents : List PlainType → List ExtentNode → Type 0
AreExtents types extents = (n : ℕ) (d : ExtentNode) → n < length extents → extent_view (get_or extents n d) ≡ extent (type_at types n)

pub record IsMeasured (types : List PlainType) (extents : List ExtentNode) : Type 0 where
  pub many : length extents ≡ length types
  pub are : AreExtents types extents

-- one more than the limit stands for all nestings beyond it
abbrev pub cut : ℕ → ℕ
cut k = min k 33

abbrev pub AreLevels : List PlainType → List ℕ → Type 0
AreLevels types levels = (n d : ℕ) → n < length levels → get_or levels n d ≡ cut (nesting (type_at types n))

pub record IsLevelled (types : List PlainType) (levels : List ℕ) : Type 0 where
  pub many : length levels ≡ length types
  pub are : AreLevels types levels
