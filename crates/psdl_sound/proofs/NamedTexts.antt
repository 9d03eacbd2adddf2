-- Each text that has a tree has names for its identifiers, small literals and identifiers for the names in its schema, and without a fault a sound schema.
use Rattle.std.proofs.Common.{List, ℕ, subst, refl}
use Rattle.psdl_tree.specs.Trees.{Definitions}
use Rattle.psdl_syntax.specs.Syntax.{IsTextOf}
use Rattle.psdl_syntax.specs.Grammar.{definitions}
use Rattle.psdl_directory.specs.Declarations.{all_declarations}
use Rattle.psdl_sound.specs.TextLaws.{TextsHaveNames, TextsAreNamed, TextsAreSmall, TextsAreSound}
use Rattle.psdl_sound.proofs.TokenWords.{AreFit, words_fit}
use Rattle.psdl_sound.proofs.BodyNames.{tree_inside}
use Rattle.psdl_sound.proofs.NamedSchemas.{named_schema}
use Rattle.psdl_sound.proofs.DeclaredNames.{tree_named}
use Rattle.psdl_sound.proofs.SmallTrees.{tree_small}
use Rattle.psdl_sound.proofs.SoundSchemas.{sound_schema}

-- the tokens that spell the tree of a text
tree_fits : (tree : Definitions) (text : List ℕ) → IsTextOf tree text → AreFit (definitions tree)
tree_fits tree text is = subst AreFit is.spelled (words_fit text)

-- a text that has a tree has names
pub texts_have_names : TextsHaveNames
texts_have_names tree text is = tree_named tree (tree_fits tree text is)

-- and a schema whose names are identifiers
pub texts_are_named : TextsAreNamed
texts_are_named tree text is =
    let fits = tree_fits tree text is in
    named_schema tree (all_declarations tree) refl (tree_named tree fits) (tree_inside tree fits)

-- and small literals
pub texts_are_small : TextsAreSmall
texts_are_small tree text is = tree_small tree (tree_fits tree text is)

-- a text without a fault is sound
pub texts_are_sound : TextsAreSound
texts_are_sound tree text is none = sound_schema tree (all_declarations tree) refl none (texts_have_names tree text is) (texts_are_small tree text is)
