-- Factories as they are declared.
use Rattle.std.specs.Prelude.{◌≡◌, ℕ, List, map}
use Rattle.type_layout.specs.declared.factories.DeclaredFactory.{DeclaredFactory}
use Rattle.type_layout.specs.Factories.{FactoryLines, declared_by}
use Rattle.psdl_directory.specs.Declarations.{Declaration}
use Rattle.psdl_lineage.specs.Descent.{Listed}
use Rattle.psdl_lineage.specs.Graph.{graph_of}
use Rattle.psdl_members.specs.declared.list_kind.ListKind.TheVariants as kinds
use Rattle.psdl_members.specs.inner.Listing.{own_lists}

abbrev pub declared_as : Listed → DeclaredFactory
declared_as l = record { name = l.name; members = l.members }

-- what each declaration of a text derives from, and what it declares
pub record AreDeclared (all : List Declaration) (lines : FactoryLines) : Type 0 where
  pub bases : lines.bases ≡ graph_of all
  pub each : (n : ℕ) → declared_by lines n ≡ map declared_as (own_lists kinds.Factory all n)
