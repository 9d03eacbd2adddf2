-- The declarators of a typedef one behind the other.
use Rattle.std.specs.Prelude.{◌≡◌, ℕ, suc, ◌+◌, ◌-◌, ◌<◌, List, length, Option, Some, None}
use Rattle.psdl_tree.specs.Trees.{TypeSpec}
use Rattle.type_layout.specs.Types.{PlainType}
use Rattle.psdl_directory.specs.Declarations.{Path, What, IsAlias, Declaration}
use Rattle.psdl_directory.specs.Lookup.{at}
use Rattle.psdl_standings.specs.Standings.{Standing, sight, spec_by}

-- the declarators of its typedef that stand in front
abbrev pub before_of : What → ℕ
before_of (IsAlias before spec dimensions) = before
before_of _ = 0

abbrev pub spec_of : What → Option TypeSpec
spec_of (IsAlias before spec dimensions) = Some spec
spec_of _ = None

-- behind another declarator of its typedef
pub record Follows (d e : Declaration) (others : ℕ) : Type 0 where
  pub before : before_of d.what ≡ others
  pub spec : spec_of e.what ≡ spec_of d.what
  pub path : e.path ≡ d.path

-- a declarator with others in front stands right behind one of them
pub record AreInTurn (all : List Declaration) : Type 0 where
  pub first : before_of (at all 0).what ≡ 0
  pub others : (n before : ℕ) → n + 1 < length all → before_of (at all (n + 1)).what ≡ suc before → Follows (at all n) (at all (n + 1)) before

-- the type of a typedef by what stood in front of it
abbrev pub alias_type : List Declaration → List Standing → ℕ → Path → What → Option PlainType
alias_type all done n path (IsAlias before spec dimensions) = spec_by (sight all done (n - before) path) spec
alias_type all done n path _ = None
