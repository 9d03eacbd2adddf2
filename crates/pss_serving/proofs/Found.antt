-- What was found of a text, by what came of the source.
use Rattle.std.proofs.Common.{◌≡◌, List, ℕ, Some, None, IfSome, Ok, ap, subst}
use Rattle.std.specs.declared.option.Option.{Option}
use Rattle.psdl_tree.specs.Views.{tree_view}
use Rattle.type_layout.specs.declared.schema.Schema.{Schema as LayoutSchema}
use Rattle.pss_serving.specs.Checked.{IsSound, spoken_of, checked_text}
use Rattle.pss_serving.specs.Found.{IsFound}
use Rattle.pss_serving.specs.declared.reading.SoundText.{SoundText}

-- what holds of what was read holds of what came
pub told : (P : List ℕ → Type 0) (bytes : List ℕ) (source : Option (List ℕ)) → P bytes → IfSome source (λ text. bytes ≡ text) → IfSome source P
told P bytes None p is = tt
told P bytes (Some text) p is = subst P is p

-- nothing is wrong in the text that came
pub sound_of : (source : Option (List ℕ)) (sound : SoundText) → IsFound (Ok sound) source → IfSome source (λ text. IsSound text (tree_view sound.tree))
sound_of source sound found = told (λ text. IsSound text (tree_view sound.tree)) found.0.0 source found.0.1 found.0.2

pub text_of : (source : Option (List ℕ)) (sound : SoundText) → IsFound (Ok sound) source → spoken_of (tree_view sound.tree) sound.schema ≡ checked_text (tree_view sound.tree)
text_of source sound found = ap (λ (s : LayoutSchema). spoken_of (tree_view sound.tree) s) found.1
