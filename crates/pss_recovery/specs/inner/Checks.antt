-- One row of a store's pages, by itself.
use Rattle.std.specs.Prelude.{ℕ, ◌≡◌, ◌⊎◌, List, None, Some, IsSome, ⊤}
use Rattle.pss_base.specs.declared.put.Put.{Put}
use Rattle.pss_base.specs.declared.damage.DamageKind.{DamageKind}
use Rattle.pss_base.specs.declared.damage.DamageKind.TheVariants as kind
use Rattle.type_layout.specs.declared.key.KeyNo.{KeyNo}
use Rattle.type_layout.specs.declared.schema.Schema.{Schema}
use Rattle.type_layout.specs.Types.{PlainMember, PlainValue}
use Rattle.type_layout.specs.Schemas.{home_at}
use Rattle.type_layout.specs.ShapeText.{shape_text}
use Rattle.type_layout.specs.Spelling.{record_spelling}
use Rattle.type_layout.specs.Values.{IsRecord}
use Rattle.pss_catalog.specs.Catalog.{Object}
use Rattle.storage_home.specs.Applied.{AreKeysOf}
use Rattle.pss_recovery.specs.declared.fault.MountFault.{MountFault}
use Rattle.pss_recovery.specs.declared.fault.MountFault.TheVariants as fault
use Rattle.pss_recovery.specs.Loading.{IsStored, RefersBelow}
use Rattle.pss_recovery.specs.Shapes.{DifferAt}

-- the shape of a root is refused with this fault
abbrev pub IsShapeRefusal : Schema → List ℕ → MountFault → Type 0
IsShapeRefusal S shape (fault.ShapeDiffers home) = DifferAt (shape_text S) shape home.0
IsShapeRefusal S shape fault.NoMemory = ⊤
IsShapeRefusal S shape _ = ⊥

-- the octets are no record of the layout
abbrev pub AreNoRecord : List PlainMember → List ℕ → Type 0
AreNoRecord members octets = (values : List PlainValue) → IsRecord members values → octets ≡ record_spelling members values → ⊥

-- the object of a row whose record has these values
abbrev pub object_of : Put → List PlainValue → Object
object_of row values = record { home = record { 0 = row.home }; values = values }

-- a row is right without regard to others, and its object holds these keys
pub record IsRightAlone (S : Schema) (next : ℕ) (row : Put) (keys : List (KeyNo × List ℕ)) : Type 0 where
  pub object : Object
  pub stored : IsStored S row object
  pub refers : RefersBelow next object
  pub keys_ : AreKeysOf S (Some object) keys

-- what is wrong with a row without regard to others
abbrev pub IsWrongAlone : Schema → ℕ → Put → DamageKind → Type 0
IsWrongAlone S next row k =
    ((k ≡ kind.Entry) × (home_at S (record { 0 = row.home }) ≡ None))
    ⊎ ((k ≡ kind.Record) × IsSome (home_at S (record { 0 = row.home })) × ((object : Object) → IsStored S row object → ⊥))
    ⊎ ((k ≡ kind.Ref) × ((object : Object) × IsStored S row object × (RefersBelow next object → ⊥)))
