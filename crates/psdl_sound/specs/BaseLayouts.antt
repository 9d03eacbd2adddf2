-- The layouts of homes and of their bases, in the schema of a text without a fault.
use Rattle.std.specs.Prelude.{◌≡◌, ℕ, List, ◌++◌, None, Some, IsTrue}
use Rattle.std.specs.List.{slice_get}
use Rattle.psdl_tree.specs.Trees.{Definitions}
use Rattle.psdl_syntax.specs.Syntax.{IsTextOf}
use Rattle.type_layout.specs.declared.home.HomeNo.{HomeNo}
use Rattle.type_layout.specs.declared.schema.Schema.{Schema}
use Rattle.type_layout.specs.Types.{PlainMember}
use Rattle.type_layout.specs.Schemas.{members_at, has_key}
use Rattle.type_layout.specs.Sound.{EachHome, EachKey}
use Rattle.psdl_directory.specs.Declarations.{all_declarations}
use Rattle.psdl_check.specs.Faults.{first_fault}
use Rattle.psdl_check.specs.Schemas.{schema}

-- the members of a home that has a base begin with those of the base
abbrev pub BeginWithBases : Schema → Type 0
BeginWithBases S = EachHome S (λ h home. (b : HomeNo) → home.base ≡ Some b → (more : List PlainMember) × (home.layout.members ≡ members_at S b ++ more))

-- a key's members are those of the home that introduces it, in each home that has it
abbrev pub KeepKeyMembers : Schema → Type 0
KeepKeyMembers S =
    EachKey S
    (λ k key.
    EachHome S
    (λ h home. IsTrue (has_key home k) → (j i : ℕ) → slice_get key.members j ≡ Some i → (m : PlainMember) × (slice_get (members_at S key.home) i ≡ Some m) × (slice_get home.layout.members i ≡ Some m)))

-- of each text that has a tree and no fault
abbrev pub LayoutsBeginWithBases : Type 0
LayoutsBeginWithBases = (tree : Definitions) (text : List ℕ) → IsTextOf tree text → first_fault (all_declarations tree) ≡ None → BeginWithBases (schema (all_declarations tree))

abbrev pub KeysKeepMembers : Type 0
KeysKeepMembers = (tree : Definitions) (text : List ℕ) → IsTextOf tree text → first_fault (all_declarations tree) ≡ None → KeepKeyMembers (schema (all_declarations tree))
