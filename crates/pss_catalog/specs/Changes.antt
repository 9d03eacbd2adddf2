-- What changes make of a catalog.
use Rattle.std.specs.Prelude.{ℕ, ◌==◌, List, [], ◌∷◌, Option, Some, None, if◌then◌else◌}
use Rattle.std.specs.FinMap.{insert, remove}
use Rattle.type_layout.specs.Schemas.{given}
use Rattle.pss_catalog.specs.Catalog.{Object, Catalog}

-- the state that a serial has from now on, or that it has none any more
pub record Change : Type 0 where
  pub serial : ℕ
  pub state : Option Object

abbrev pub with_state : Catalog → ℕ → Option Object → Catalog
with_state M s None = remove M s
with_state M s (Some object) = insert M s object

-- the catalog with each change made, one after the other
abbrev pub over : Catalog → List Change → Catalog
over M [] = M
over M (c ∷ cs) = over (with_state M c.serial c.state) cs

-- what the last change of a serial makes of it, where there is one
abbrev pub last_state : List Change → ℕ → Option (Option Object)
last_state [] s = None
last_state (c ∷ cs) s = given (last_state cs s) (if c.serial == s then Some c.state else None) Some
