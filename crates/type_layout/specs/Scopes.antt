-- The scoped names of modules and catalogs, and what catalogs provide.
use Rattle.std.specs.Prelude.{ℕ, ◌≡◌, ◌<◌, List, [], ◌∷◌, ◌++◌, Option, Some, None, codes, IfSome}
use Rattle.std.specs.List.{slice_get}
use Rattle.std.specs.Option.{option_map, option_and_then}
use Rattle.std.proofs.Common.{get_or}
use Rattle.type_layout.specs.declared.home.HomeNo.{HomeNo}
use Rattle.type_layout.specs.declared.provided.Provision.{Provision}
use Rattle.type_layout.specs.declared.scopes.Scope.{Scope}
use Rattle.type_layout.specs.declared.scopes.ScopeNo.{ScopeNo}

-- ---- scopes

-- a name behind that of the scope round it, `::` between them
abbrev pub behind : Option (List ℕ) → List ℕ → List ℕ
behind None name = name
behind (Some outer) name = outer ++ codes "::" ++ name

-- the name of a scope with this number, none where the scope is not there
abbrev pub name_at : List (List ℕ) → ScopeNo → List ℕ
name_at names n = get_or names n.0 []

-- the names of these, behind those that are there: each stands in one before it
abbrev pub names_after : List (List ℕ) → List Scope → List (List ℕ)
names_after names [] = names
names_after names (s ∷ rest) = names_after (names ++ behind (option_and_then (λ o. slice_get names o.0) s.outer) s.name ∷ []) rest

-- the scoped name of each
unfoldable pub scoped_names : List Scope → List (List ℕ)
scoped_names scopes = names_after [] scopes

-- a scope's name by that of the scope round it, which stands before it
pub record IsBehind (names : List (List ℕ)) (n : ScopeNo) (outer : Option ScopeNo) (name : List ℕ) : Type 0 where
  pub is : slice_get names n.0 ≡ Some (behind (option_map (name_at names) outer) name)
  pub before : IfSome outer (λ o. o.0 < n.0)

-- ---- what is provided

-- a storage home that a catalog provides under a name
pub record Provided : Type 0 where
  pub catalog : List ℕ
  pub name : List ℕ
  pub home : HomeNo

-- a provision of a catalog that is one of these scopes
abbrev pub provided_in : List (List ℕ) → Provision → Provided
provided_in names p = record { catalog = name_at names p.catalog; name = p.name; home = p.home }

-- the catalog's scoped name, `.`, and the name of what it provides
abbrev pub full_name : Provided → List ℕ
full_name p = p.catalog ++ 46 ∷ p.name
