-- What reading the schema's text gives.
use Rattle.std.specs.Prelude.{ℕ, ◌≡◌, List, Bool, true, false, IfSome, Result, Ok, Err}
use Rattle.std.specs.declared.option.Option.{Option}
use Rattle.psdl_tree.specs.Trees.{Definitions}
use Rattle.psdl_tree.specs.Views.{tree_view}
use Rattle.psdl_directory.specs.Declarations.{all_declarations}
use Rattle.psdl_check.specs.Schemas.{schema}
use Rattle.pss_serving.specs.Checked.{HasFault, IsOneThing, IsSound}
use Rattle.pss_serving.specs.declared.reading.SoundText.{SoundText}
use Rattle.pss_serving.specs.declared.reading.Unread.{Unread}
use Rattle.pss_serving.specs.declared.reading.Unread.TheVariants.{Refused, ReadFault, NoMemory}

-- the tree of the text that came, in which nothing is wrong
abbrev pub IsSoundTree : Definitions → Option (List ℕ) → Type 0
IsSoundTree tree source = (text : List ℕ) × IsSound text tree × IfSome source (λ came. text ≡ came)

-- what was found of a text is so
abbrev pub IsFound : Result SoundText Unread → Option (List ℕ) → Type 0
IsFound (Ok sound) source = IsSoundTree (tree_view sound.tree) source × (sound.schema ≡ schema (all_declarations (tree_view sound.tree)))
IsFound (Err (Refused fault)) source = IfSome source (λ text. HasFault text fault)
IsFound (Err ReadFault) source = Unit {0}
IsFound (Err NoMemory) source = Unit {0}

-- the text that came is one thing, where it was found what it is
abbrev pub IsOne : Result SoundText Unread → Option (List ℕ) → Type 0
IsOne (Ok sound) source = IfSome source IsOneThing
IsOne (Err (Refused fault)) source = IfSome source IsOneThing
IsOne (Err ReadFault) source = Unit {0}
IsOne (Err NoMemory) source = Unit {0}

-- the source failed
abbrev pub has_failed : Result SoundText Unread → Bool
has_failed (Ok sound) = false
has_failed (Err (Refused fault)) = false
has_failed (Err ReadFault) = true
has_failed (Err NoMemory) = false
