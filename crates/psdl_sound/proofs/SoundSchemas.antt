-- The schema of a text without a fault, whose identifiers are names and whose literals are small, is sound.
use Rattle.std.proofs.Common.{◌≡◌, List, None}
use Rattle.psdl_tree.specs.Trees.{Definitions}
use Rattle.type_layout.specs.Sound.{IsSoundSchema}
use Rattle.psdl_directory.specs.Declarations.{Declaration, all_declarations}
use Rattle.psdl_check.specs.Faults.{first_fault}
use Rattle.psdl_check.specs.Schemas.{schema}
use Rattle.psdl_check.specs.TextNames.{AreNames}
use Rattle.psdl_sound.specs.SmallLiterals.{AreSmall}
use Rattle.psdl_sound.proofs.BaseLines.{home_concrete}
use Rattle.psdl_sound.proofs.Homes.{each_home}
use Rattle.psdl_sound.proofs.KeyNames.{each_key}
use Rattle.psdl_sound.proofs.KeyTypes.{key_types}
use Rattle.psdl_sound.proofs.SoundCatalogs.{sound_catalogs}
use Rattle.psdl_sound.proofs.SoundHomes.{sound_homes}
use Rattle.psdl_sound.proofs.CompleteLayouts.{all_laid}
use Rattle.psdl_sound.proofs.Expressions.{small_at}

-- all that a sound schema says
pub sound_schema : (tree : Definitions) (all : List Declaration) → all ≡ all_declarations tree → first_fault all ≡ None → AreNames all → AreSmall all → IsSoundSchema (schema all)
sound_schema tree all is none names small =
    let homes = sound_homes tree all is none names in
    let catalogs = sound_catalogs tree all is none names in
    record {
      few_homes = homes.few_homes;
      home_names = homes.home_names;
      few_members = homes.few_members;
      layouts = homes.layouts;
      references = homes.references;
      defaults = homes.defaults;
      bases = homes.bases;
      member_names = homes.member_names;
      key_names = catalogs.key_names;
      factory_names = catalogs.factory_names;
      keys_there = catalogs.keys_there;
      key_homes = catalogs.key_homes;
      keyed = catalogs.keyed;
      key_members = catalogs.key_members;
      key_types = each_key all _ (λ n i key. each_home all _ (λ k h home on. key_types all none n i key k h home (all_laid tree all is none (small_at all small) h (home_concrete all k h home)) on));
      factories = catalogs.factories;
      provided_there = catalogs.provided_there;
      provided_names = catalogs.provided_names;
      short_shape = homes.short_shape;
    }
