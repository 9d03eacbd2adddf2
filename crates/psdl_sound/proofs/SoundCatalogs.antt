-- The keys, factories and catalogs of the schema of a text without a fault are sound.
use Rattle.std.proofs.Common.{◌≡◌, List, None}
use Rattle.psdl_tree.specs.Trees.{Definitions}
use Rattle.psdl_directory.specs.Declarations.{Declaration, all_declarations}
use Rattle.psdl_check.specs.Faults.{first_fault}
use Rattle.psdl_check.specs.Schemas.{schema}
use Rattle.psdl_sound.specs.SoundCatalogs.{HasSoundCatalogs}
use Rattle.psdl_check.specs.TextNames.{AreNames}
use Rattle.psdl_sound.proofs.MemberLists.{key_members, factories_sound}
use Rattle.psdl_sound.proofs.KeyHolders.{keyed}
use Rattle.psdl_sound.proofs.Homes.{each_home}
use Rattle.psdl_sound.proofs.Catalogs.{home_there, provided_there, provided_names}
use Rattle.psdl_sound.proofs.KeyNames.{each_key, key_names, factory_names, keys_there}

-- what a sound schema says of keys, factories and catalogs, field by field
pub sound_catalogs : (tree : Definitions) (all : List Declaration) → all ≡ all_declarations tree → first_fault all ≡ None → AreNames all → HasSoundCatalogs (schema all)
sound_catalogs tree all is none names =
    record {
      key_names = each_home all _ (λ k n home. key_names all none k n home);
      factory_names = each_home all _ (λ k n home. factory_names all none k n home);
      keys_there = each_home all _ (λ k n home. keys_there all n);
      key_homes = each_key all _ (λ n i key. home_there all i.home key.is_home);
      keyed = each_key all _ (λ n i key. each_home all _ (λ k h home. keyed all none n i key k h home));
      key_members = each_key all _ (λ n i key. key_members all none n i key);
      factories = each_home all _ (λ k n home. factories_sound all none k n home);
      provided_there = provided_there all;
      provided_names = provided_names tree all is none names;
    }
