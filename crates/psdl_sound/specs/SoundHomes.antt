-- What holds of the homes and layouts of the schema of a text without a fault.
use Rattle.std.specs.Prelude.{◌≤◌, ◌≡◌, List, length, map, None, IsTrue}
use Rattle.std.specs.Str.{bytes_eq}
use Rattle.psdl_tree.specs.Trees.{Definitions}
use Rattle.type_layout.specs.declared.schema.Schema.{Schema}
use Rattle.type_layout.specs.Defaults.{default_record}
use Rattle.type_layout.specs.ShapeText.{shape_text}
use Rattle.type_layout.specs.Sound.{EachHome, EachMember, IsLower, IsSoundLayout, StaysWithin, are_distinct}
use Rattle.type_layout.specs.Spelling.{record_spelling}
use Rattle.psdl_directory.specs.Declarations.{Declaration, all_declarations}
use Rattle.psdl_check.specs.Faults.{first_fault}
use Rattle.psdl_check.specs.Schemas.{schema}
use Rattle.psdl_check.specs.TextNames.{AreNames}

-- what a sound schema says of homes and layouts, field by field as there
pub record HasSoundHomes (S : Schema) : Type 0 where
  pub few_homes : length S.homes ≤ 4096
  pub home_names : IsTrue (are_distinct bytes_eq (map (λ home. home.name) S.homes))
  pub few_members : EachHome S (λ h home. length home.layout.members ≤ 255)
  pub layouts : EachHome S (λ h home. IsSoundLayout home.layout.members)
  pub references : EachHome S (λ h home. EachMember home.layout.members (λ m. StaysWithin (length S.homes) m.type))
  pub defaults : EachHome S (λ h home. length (record_spelling home.layout.members (default_record home.layout.members)) ≤ 8000)
  pub bases : EachHome S (λ h home. IsLower home.base h)
  pub member_names : EachHome S (λ h home. IsTrue (are_distinct bytes_eq (map (λ m. m.name) home.layout.members)))
  pub short_shape : length (shape_text S) ≤ 65536

-- of each text without a fault, whose identifiers are names
abbrev pub SchemasHaveSoundHomes : Type 0
SchemasHaveSoundHomes = (tree : Definitions) (all : List Declaration) → all ≡ all_declarations tree → first_fault all ≡ None → AreNames all → HasSoundHomes (schema all)
