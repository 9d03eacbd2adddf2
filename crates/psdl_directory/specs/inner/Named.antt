-- What tables of declarations hold.
use Rattle.std.specs.Prelude.{◌≡◌, ℕ, List, Option, None, Bool, ◌==◌, ◌&&◌}
use Rattle.std.specs.List.{position_from}
use Rattle.std.specs.BTreeMap.{BTreeMap}
use Rattle.std.specs.Str.{bytes_eq}
use Rattle.type_layout.specs.Schemas.{given}
use Rattle.psdl_directory.specs.declared.kind.KindNo.{KindNo}
use Rattle.psdl_directory.specs.declared.scoped.Scoped.{Scoped}
use Rattle.psdl_directory.specs.declared.declaration.Declaration.{Declaration as DeclarationNode}
use Rattle.psdl_directory.specs.declared.spellings.Spellings.{Spellings}
use Rattle.psdl_directory.specs.declared.tables.Keys.{Keys}
use Rattle.psdl_directory.specs.declared.tables.Firsts.{Firsts}
use Rattle.psdl_directory.specs.Declarations.{Path, What}
use Rattle.psdl_directory.specs.Lookup.{as_is, lower}
use Rattle.psdl_directory.specs.Spelled.{number_of}
use Rattle.psdl_directory.specs.inner.Keys.{plain, whole, AreKeys}
use Rattle.psdl_directory.specs.inner.Nodes.{what_view}
use Rattle.psdl_directory.specs.inner.Placed.{ArePlaced}
use Rattle.psdl_directory.specs.inner.Scopes.{AreDistinct}
use Rattle.psdl_directory.specs.inner.Tables.{same_kinds, found}

-- a declaration has that name in that scope, and that kind
abbrev pub has_key : (List ℕ → List ℕ) → (What → Option KindNo) → ℕ → Option KindNo → List ℕ → DeclarationNode → Bool
has_key spelled kinds scope kind name d = (scope == d.scope) && (same_kinds kind (kinds (what_view d.what)) && bytes_eq name (spelled d.name.now))

-- what a table has of a name that may have a number
abbrev pub found_in : BTreeMap Scoped ℕ → ℕ → Option KindNo → Option ℕ → Option ℕ
found_in table scope kind number = given number None (λ n. found table (record { scope = scope; kind = kind; spelling = n }))

-- the first that has it
abbrev pub Indexes : (List ℕ → List ℕ) → (What → Option KindNo) → Spellings → BTreeMap Scoped ℕ → List DeclarationNode → Type 0
Indexes spelled kinds s table ds = (scope : ℕ) (kind : Option KindNo) (name : List ℕ) → found_in table scope kind (number_of s name) ≡ position_from (has_key spelled kinds scope kind name) 0 ds

-- all that a directory knows
pub record AreNamed (paths : List Path) (ds : List DeclarationNode) (keys : Keys) (firsts : Firsts) : Type 0 where
  pub distinct : AreDistinct paths
  pub placed : ArePlaced paths ds
  pub exact : AreKeys as_is plain keys.spellings keys.exact.items ds
  pub small : AreKeys lower plain keys.spellings keys.small.items ds
  pub exactly : Indexes as_is plain keys.spellings firsts.exact ds
  pub but_for_case : Indexes lower plain keys.spellings firsts.small ds
  pub defined : Indexes as_is whole keys.spellings firsts.wholes ds
