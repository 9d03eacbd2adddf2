-- The homes and layouts of the schema of a text without a fault are sound.
use Rattle.std.proofs.Common.{◌≡◌, List, None}
use Rattle.psdl_tree.specs.Trees.{Definitions}
use Rattle.psdl_directory.specs.Declarations.{Declaration, all_declarations}
use Rattle.psdl_check.specs.Faults.{first_fault}
use Rattle.psdl_check.specs.Schemas.{schema}
use Rattle.psdl_sound.specs.SoundHomes.{HasSoundHomes}
use Rattle.psdl_check.specs.TextNames.{AreNames}
use Rattle.psdl_sound.proofs.Bases.{base_lower}
use Rattle.psdl_sound.proofs.Homes.{each_home, few_homes}
use Rattle.psdl_sound.proofs.ScopedNames.{home_names}
use Rattle.psdl_sound.proofs.SoundLayouts.{sound_layouts, references_stay}
use Rattle.psdl_sound.proofs.Layouts.{few_members, member_names}
use Rattle.psdl_sound.proofs.ShapeTexts.{short_shape}
use Rattle.psdl_sound.proofs.DefaultRecords.{short_defaults}

-- what a sound schema says of homes and layouts, field by field
pub sound_homes : (tree : Definitions) (all : List Declaration) → all ≡ all_declarations tree → first_fault all ≡ None → AreNames all → HasSoundHomes (schema all)
sound_homes tree all is none names =
    record {
      few_homes = few_homes all none;
      home_names = home_names tree all is none names;
      few_members = each_home all _ (λ k n home. few_members all none n);
      layouts = each_home all _ (λ k n home. sound_layouts tree all is none names k n home);
      references = each_home all _ (λ k n home. references_stay tree all is none names n);
      defaults = each_home all _ (λ k n home. short_defaults all none k n home);
      bases = each_home all _ (λ k n home. base_lower all none k n home);
      member_names = each_home all _ (λ k n home. member_names all none n);
      short_shape = short_shape all none;
    }
