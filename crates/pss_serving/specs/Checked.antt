-- What a text comes to by its tree and its checks.
use Rattle.std.specs.Prelude.{ℕ, ◌≡◌, List, [], ◌∷◌, ◌++◌, codes}
use Rattle.std.specs.declared.option.Option.TheVariants.{Some, None}
use Rattle.psdl_tree.specs.Trees.{Definitions}
use Rattle.psdl_syntax.specs.Syntax.{IsTextOf, IsFault}
use Rattle.psdl_syntax.specs.Canonical.{canonical}
use Rattle.psdl_directory.specs.Declarations.{all_declarations}
use Rattle.psdl_check.specs.Faults.{first_fault}
use Rattle.psdl_check.specs.Schemas.{schema}
use Rattle.type_layout.specs.declared.schema.Schema.{Schema}
use Rattle.type_layout.specs.ShapeText.{shape_text}
use Rattle.pss_serving.specs.declared.schema_fault.SchemaFault.{SchemaFault}
use Rattle.pss_serving.specs.declared.schema_fault.SchemaFault.TheVariants.{Syntax, Check}

-- a text that the tree stands for, in which nothing is wrong
abbrev pub IsSound : List ℕ → Definitions → Type 0
IsSound text tree = IsTextOf tree text × (first_fault (all_declarations tree) ≡ None)

-- the fault of a text
abbrev pub HasFault : List ℕ → SchemaFault → Type 0
HasFault text (Syntax fault) = IsFault text fault.place fault.kind
HasFault text (Check fault) = (tree : Definitions) × IsTextOf tree text × (first_fault (all_declarations tree) ≡ Some fault)

-- A text has one tree at most, and where something is wrong with it, none that is sound.
pub record IsOneThing (text : List ℕ) : Type 0 where
  pub one_tree : (one other : Definitions) → IsTextOf one text → IsTextOf other text → one ≡ other
  pub never_both : (fault : SchemaFault) (tree : Definitions) → HasFault text fault → IsSound text tree → ⊥

-- what is spoken of a tree and a schema: the canonical text, a line between, and the shape of the records
abbrev pub spoken_of : Definitions → Schema → List ℕ
spoken_of tree schema = canonical tree ++ codes "--" ++ 10 ∷ [] ++ shape_text schema

-- what is spoken of a text in which nothing is wrong
abbrev pub checked_text : Definitions → List ℕ
checked_text tree = spoken_of tree (schema (all_declarations tree))
