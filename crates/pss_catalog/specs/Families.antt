-- Storage homes by what they derive from.
use Rattle.std.specs.Prelude.{ℕ, ◌≡◌, List, map, Some, None, IsSome}
use Rattle.std.specs.List.{slice_get}
use Rattle.type_layout.specs.declared.home.HomeNo.{HomeNo}
use Rattle.type_layout.specs.declared.schema.Schema.{Schema}
use Rattle.type_layout.specs.Schemas.{home_at, base_of, DescendsFrom}
use Rattle.type_layout.specs.ShapeText.{base_number}
use Rattle.type_layout.specs.Sound.{IsSoundSchema}

-- for each home the number of its base, or 0
abbrev pub bases_of : Schema → List ℕ
bases_of S = map (λ home. base_number home.base) S.homes

-- what holds of each sound schema whose homes have these bases
abbrev pub WithBases : List ℕ → (Schema → Type 0) → Type 0
WithBases bases P = (S : Schema) → IsSoundSchema S → bases ≡ bases_of S → P S

-- the home without base from which a home derives, or itself
pub record IsRootOf (S : Schema) (home root : HomeNo) : Type 0 where
  pub derives : DescendsFrom S home root
  pub first : base_of S root ≡ None

-- the homes that derive from a home, and itself where it is there: each of them once, itself first, and no others
pub record AreHeirs (S : Schema) (of : HomeNo) (heirs : List HomeNo) : Type 0 where
  pub derive : (i : ℕ) (h : HomeNo) → slice_get heirs i ≡ Some h → IsSome (home_at S h) × DescendsFrom S h of
  pub all : (h : HomeNo) → IsSome (home_at S h) → DescendsFrom S h of → (i : ℕ) × (slice_get heirs i ≡ Some h)
  pub once : (i j : ℕ) (h : HomeNo) → slice_get heirs i ≡ Some h → slice_get heirs j ≡ Some h → i ≡ j
  pub first : IsSome (home_at S of) → slice_get heirs 0 ≡ Some of
