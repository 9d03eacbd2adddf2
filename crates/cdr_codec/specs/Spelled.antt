-- Octets that are known to spell a record.
use Rattle.std.specs.Prelude.{◌≡◌, ℕ, List, Some, IsTrue}
use Rattle.type_layout.specs.declared.home.HomeNo.{HomeNo}
use Rattle.type_layout.specs.declared.key.KeyNo.{KeyNo}
use Rattle.type_layout.specs.declared.schema.Home.{Home}
use Rattle.type_layout.specs.declared.schema.Schema.{Schema}
use Rattle.type_layout.specs.Types.{PlainValue, PlainMember}
use Rattle.type_layout.specs.Values.{IsRecord}
use Rattle.type_layout.specs.Schemas.{home_at, has_key}
use Rattle.type_layout.specs.Spelling.{record_spelling}

-- the octets spell a record of the layout
pub record SpellsRecord (members : List PlainMember) (bytes : List ℕ) : Type 0 where
  pub values : List PlainValue
  pub is_record : IsRecord members values
  pub spelled : bytes ≡ record_spelling members values

-- the octets spell a record of the home, which has the key
pub record SpellsRecordWith (S : Schema) (k : KeyNo) (number : HomeNo) (bytes : List ℕ) : Type 0 where
  pub home : Home
  pub there : home_at S number ≡ Some home
  pub keyed : IsTrue (has_key home k)
  pub whole : SpellsRecord home.layout.members bytes
