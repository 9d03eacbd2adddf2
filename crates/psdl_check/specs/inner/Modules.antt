-- The modules of a text as scopes, and what is provided by them.
use Rattle.std.specs.Prelude.{ℕ, ◌≡◌, ◌+◌, ◌<◌, List, ◌∷◌, ◌++◌, Option, Some, map, length}
use Rattle.std.specs.List.{slice_get}
use Rattle.std.specs.Option.{option_map, option_and_then, option_to_list}
use Rattle.type_layout.specs.declared.provided.Provision.{Provision}
use Rattle.type_layout.specs.declared.scopes.ScopeNo.{ScopeNo}
use Rattle.type_layout.specs.Scopes.{provided_in}
use Rattle.psdl_tree.specs.Trees as tree
use Rattle.psdl_directory.specs.declared.directory.Directory.{Directory}
use Rattle.psdl_directory.specs.Declarations.{Path, Declaration}
use Rattle.psdl_directory.specs.Directories.{paths_of, path_of}
use Rattle.psdl_directory.specs.Lookup.{at, defined}
use Rattle.psdl_lineage.specs.Descent.{provider}
use Rattle.psdl_check.specs.Schemas.{scoped, home_no, provided_homes}

-- a module is the scope with its number
abbrev pub scope_in : Option ℕ → Option ScopeNo
scope_in number = option_map (λ n. record { 0 = n }) number

-- the scope with this number has the module's scoped name
abbrev pub IsModule : Directory → List (List ℕ) → ℕ → Type 0
IsModule d names n = (name : List ℕ) × (path : Path) × (path_of d (Some n) ≡ name ∷ path) × (slice_get names n ≡ Some (scoped path name))

-- each of the first so many has
abbrev pub AreModulesTo : ℕ → Directory → List (List ℕ) → Type 0
AreModulesTo count d names = (n : ℕ) → n < count → IsModule d names n

-- all of them have
abbrev pub AreModules : Directory → List (List ℕ) → Type 0
AreModules d names = (n : ℕ) → n + 1 < length (paths_of d) → IsModule d names n

-- what a provision of the catalog, which is the scope with this number, provides
abbrev pub provision_of : List Declaration → ScopeNo → ℕ → tree.Provision → List Provision
provision_of all number n p = map (λ h. record { catalog = number; name = p.name.name; home = home_no all h }) (option_to_list (option_and_then (provider all) (defined all n p.home)))

-- what a declaration provides has come behind what was there: its scope behind the scopes where it is a catalog
abbrev pub IsCatalogAdded : List Declaration → ℕ → List (List ℕ) → List (List ℕ) → List Provision → List Provision → Type 0
IsCatalogAdded all n old new before after =
    (added : List (List ℕ)) × (new ≡ old ++ added)
    × ((more : List (List ℕ)) → map (provided_in (new ++ more)) after ≡ map (provided_in (new ++ more)) before ++ provided_homes all (n, at all n))
