-- What holds of the keys, factories and catalogs of the schema of a text without a fault.
use Rattle.std.specs.Prelude.{ℕ, ◌+◌, ◌≡◌, ◌↔◌, List, length, map, None, Some, IsTrue, IsSome, nat_le}
use Rattle.std.specs.List.{slice_get, list_all}
use Rattle.std.specs.Str.{bytes_eq}
use Rattle.psdl_tree.specs.Trees.{Definitions}
use Rattle.type_layout.specs.declared.schema.Factory.{Factory}
use Rattle.type_layout.specs.Scopes.{Provided}
use Rattle.type_layout.specs.declared.schema.Schema.{Schema}
use Rattle.type_layout.specs.Schemas.{home_at, members_at, descends, has_key}
use Rattle.type_layout.specs.Sound.{EachHome, EachKey, AreMembers, key_name, same_provided, are_distinct}
use Rattle.psdl_directory.specs.Declarations.{Declaration, all_declarations}
use Rattle.psdl_check.specs.Faults.{first_fault}
use Rattle.psdl_check.specs.Schemas.{schema}
use Rattle.psdl_check.specs.TextNames.{AreNames}

-- what a sound schema says of keys, factories and catalogs, field by field as there
pub record HasSoundCatalogs (S : Schema) : Type 0 where
  pub key_names : EachHome S (λ h home. IsTrue (are_distinct bytes_eq (map (key_name S) home.keys)))
  pub factory_names : EachHome S (λ h home. IsTrue (are_distinct bytes_eq (map (λ f. f.name) home.factories)))
  pub keys_there : EachHome S (λ h home. IsTrue (list_all (λ k. nat_le (k.0 + 1) (length S.keys)) home.keys))
  pub key_homes : EachKey S (λ k key. IsSome (home_at S key.home))
  pub keyed : EachKey S (λ k key. EachHome S (λ h home. IsTrue (has_key home k) ↔ IsTrue (descends S h key.home)))
  pub key_members : EachKey S (λ k key. AreMembers key.members (members_at S key.home))
  pub factories : EachHome S (λ h home. (j : ℕ) (f : Factory) → slice_get home.factories j ≡ Some f → AreMembers f.members home.layout.members)
  pub provided_there : (j : ℕ) (p : Provided) → slice_get S.provided j ≡ Some p → IsSome (home_at S p.home)
  pub provided_names : IsTrue (are_distinct same_provided S.provided)

-- of each text without a fault, whose identifiers are names
abbrev pub SchemasHaveSoundCatalogs : Type 0
SchemasHaveSoundCatalogs = (tree : Definitions) (all : List Declaration) → all ≡ all_declarations tree → first_fault all ≡ None → AreNames all → HasSoundCatalogs (schema all)
