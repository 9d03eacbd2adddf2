-- The types of members, as the program keeps them.
use Rattle.std.specs.Prelude.{◌≡◌, ℕ, List, [], ◌∷◌, map, Option, Some, None, Bool, false, nat_lt}
use Rattle.std.specs.Option.{option_map}
use Rattle.type_layout.specs.declared.home.HomeNo.{HomeNo}
use Rattle.type_layout.specs.Schemas.{given}
use Rattle.type_layout.specs.Types.{PlainType, Octet}
use Rattle.psdl_directory.specs.Declarations.{Declaration}
use Rattle.psdl_lineage.specs.Descent.{StateMember}
use Rattle.psdl_lineage.specs.Graph.{graph_of}
use Rattle.psdl_lineage.specs.Sources.{Inheritance}
use Rattle.psdl_members.specs.inner.Numbered.{AreOwners}
use Rattle.psdl_standings.specs.declared.state_entry.StateEntry.{StateEntry}
use Rattle.psdl_standings.specs.Extents.{Extent, followed, extent}
use Rattle.psdl_standings.specs.Standings.{standings}
use Rattle.psdl_standings.specs.States.{type_kept}
use Rattle.psdl_rules.specs.Layouts.{member_type}

-- the types of members, whatever homes references may have
abbrev pub AreTypes : List Declaration → List PlainType → List StateMember → List StateEntry → Type 0
AreTypes all types ms kept = (homes : ℕ → List HomeNo) → map (type_kept types homes) kept ≡ map (member_type all (standings all) homes) ms

-- the declarations that have members in their bodies, along the lines of descent
pub record HaveMembers (all : List Declaration) (s : Inheritance) : Type 0 where
  pub graphed : s.graph ≡ graph_of all
  pub owned : AreOwners all s.own

-- the types by which defaults go: a reference's is nil, whatever homes it may have
abbrev pub default_types : List PlainType → List StateEntry → List (Option PlainType)
default_types types kept = map (type_kept types (λ _. [])) kept

-- the octets of defaults behind what stands in front, where all types are there
abbrev pub defaults_extent : List (Option PlainType) → Extent → Option Extent
defaults_extent [] front = Some front
defaults_extent (o ∷ os) front = given (option_map extent o) None (λ f. defaults_extent os (followed front f))

-- the default record is too long; it begins with an octet for the order of octets
abbrev pub are_long : List (Option PlainType) → Bool
are_long os = given (defaults_extent os (extent Octet)) false (λ f. nat_lt 8000 (f 0))
