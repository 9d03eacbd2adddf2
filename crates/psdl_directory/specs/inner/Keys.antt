-- The keys of declarations.
use Rattle.std.specs.Prelude.{◌≡◌, ℕ, List, map, Option, Some, None, if◌then◌else◌}
use Rattle.psdl_directory.specs.declared.kind.KindNo.{KindNo}
use Rattle.psdl_directory.specs.declared.scoped.Scoped.{Scoped}
use Rattle.psdl_directory.specs.declared.declaration.Declaration.{Declaration as DeclarationNode}
use Rattle.psdl_directory.specs.declared.spellings.Spellings.{Spellings}
use Rattle.psdl_directory.specs.Declarations.{What}
use Rattle.psdl_directory.specs.Parts.{kind, is_forward}
use Rattle.psdl_directory.specs.Spelled.{number_of}
use Rattle.psdl_directory.specs.inner.Nodes.{what_view}

-- kinds are not told apart
abbrev pub plain : What → Option KindNo
plain what = None

-- a forward declaration has none: so it is never looked up
abbrev pub whole : What → Option KindNo
whole what = if is_forward what then None else Some (record { 0 = kind what })

abbrev pub parts : Scoped → ℕ × Option KindNo × Option ℕ
parts k = (k.scope, k.kind, Some k.spelling)

abbrev pub parts_of : (List ℕ → List ℕ) → (What → Option KindNo) → Spellings → DeclarationNode → ℕ × Option KindNo × Option ℕ
parts_of spelled kinds s d = (d.scope, kinds (what_view d.what), number_of s (spelled d.name.now))

-- each is that of the declaration at its place
abbrev pub AreKeys : (List ℕ → List ℕ) → (What → Option KindNo) → Spellings → List Scoped → List DeclarationNode → Type 0
AreKeys spelled kinds s keys ds = map parts keys ≡ map (parts_of spelled kinds s) ds
