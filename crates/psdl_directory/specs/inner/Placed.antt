-- Declarations in scopes.
use Rattle.std.specs.Prelude.{◌≡◌, ◌<◌, ◌∷◌, ℕ, List, length}
use Rattle.std.proofs.Common.{get_or}
use Rattle.psdl_directory.specs.declared.declaration.Declaration.{Declaration as DeclarationNode}
use Rattle.psdl_directory.specs.declared.declaration.What.TheVariants as nodes
use Rattle.psdl_directory.specs.Declarations.{Path}
use Rattle.psdl_directory.specs.inner.Scopes.{path_at}

-- a declaration stands in a scope, and a module has the scope inside it
pub record IsPlaced (paths : List Path) (d : DeclarationNode) : Type 0 where
  pub within : d.scope < length paths
  pub inside : (n : ℕ) → d.what ≡ nodes.Module n → (n < length paths) × (path_at paths n ≡ d.name.now ∷ path_at paths d.scope)

abbrev pub ArePlaced : List Path → List DeclarationNode → Type 0
ArePlaced paths ds = (i : ℕ) (d : DeclarationNode) → i < length ds → IsPlaced paths (get_or ds i d)
