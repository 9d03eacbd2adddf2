-- The schema of a text without a fault is sound.
use Rattle.std.specs.Prelude.{◌≡◌, List, None}
use Rattle.psdl_tree.specs.Trees.{Definitions}
use Rattle.type_layout.specs.Sound.{IsSoundSchema}
use Rattle.psdl_directory.specs.Declarations.{Declaration, all_declarations}
use Rattle.psdl_check.specs.Faults.{first_fault}
use Rattle.psdl_check.specs.Schemas.{schema}
use Rattle.psdl_check.specs.TextNames.{AreNames}
use Rattle.psdl_sound.specs.SmallLiterals.{AreSmall}

-- of each text without a fault, whose identifiers are names and whose integer literals are below 2^127
abbrev pub SchemasAreSound : Type 0
SchemasAreSound = (tree : Definitions) (all : List Declaration) → all ≡ all_declarations tree → first_fault all ≡ None → AreNames all → AreSmall all → IsSoundSchema (schema all)
