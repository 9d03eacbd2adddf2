-- A home that introduces keys.
use Rattle.std.specs.Prelude.{◌≡◌, ◌≤◌, List, [], ◌∷◌, length, map, Bool, true, false}
use Rattle.psdl_directory.specs.Declarations.{Declaration}
use Rattle.psdl_lineage.specs.Descent.{Listed}
use Rattle.psdl_rules.specs.Faults.Limit.{most_members}
use Rattle.psdl_standings.specs.Standings.{standings}
use Rattle.psdl_check.specs.Schemas.{Introduced, home_no, home_layout}
use Rattle.psdl_check.specs.declared.keys.Introducing.{Introducing}
use Rattle.psdl_check.specs.inner.TypedMembers.{typed_names}

-- a key that it introduces
abbrev pub introduction : Introducing → Listed → Introduced
introduction home l = record { home = home.home; listed = l }

-- its number and the names of its members are those of its declaration
pub record HasLayout (all : List Declaration) (home : Introducing) : Type 0 where
  pub number : home.number ≡ home_no all home.home
  pub members : typed_names home.members.now ≡ map (λ m. m.name) (home_layout all (standings all) home.home)

-- it has no more members than a type may have
abbrev pub HasFew : Introducing → Type 0
HasFew home = length home.members.now ≤ most_members

-- what a home introduces for a key: nothing where its base has it
abbrev pub new_one : Bool → Introducing → Listed → List Introduced
new_one true home l = []
new_one false home l = introduction home l ∷ []
