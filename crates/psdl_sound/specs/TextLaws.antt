-- What holds of each text that has a tree.
use Rattle.std.specs.Prelude.{◌≡◌, ℕ, List, None}
use Rattle.psdl_tree.specs.Trees.{Definitions}
use Rattle.psdl_syntax.specs.Syntax.{IsTextOf}
use Rattle.type_layout.specs.Names.{IsNamedSchema}
use Rattle.type_layout.specs.Sound.{IsSoundSchema}
use Rattle.psdl_directory.specs.Declarations.{all_declarations}
use Rattle.psdl_check.specs.Faults.{first_fault}
use Rattle.psdl_check.specs.Schemas.{schema}
use Rattle.psdl_check.specs.TextNames.{AreNames}
use Rattle.psdl_sound.specs.SmallLiterals.{AreSmall}

-- its identifiers are names
abbrev pub TextsHaveNames : Type 0
TextsHaveNames = (tree : Definitions) (text : List ℕ) → IsTextOf tree text → AreNames (all_declarations tree)

-- the integer literals of its expressions are below 2^127
abbrev pub TextsAreSmall : Type 0
TextsAreSmall = (tree : Definitions) (text : List ℕ) → IsTextOf tree text → AreSmall (all_declarations tree)

-- the names in its schema are identifiers, those of homes and catalogs with the modules round them
abbrev pub TextsAreNamed : Type 0
TextsAreNamed = (tree : Definitions) (text : List ℕ) → IsTextOf tree text → IsNamedSchema (schema (all_declarations tree))

-- without a fault its schema is sound
abbrev pub TextsAreSound : Type 0
TextsAreSound = (tree : Definitions) (text : List ℕ) → IsTextOf tree text → first_fault (all_declarations tree) ≡ None → IsSoundSchema (schema (all_declarations tree))
