-- Objects that are added, and changes that are made of objects.
use Rattle.std.specs.Prelude.{ℕ, ◌≡◌, ◌+◌, ◌≤◌, List, [], length, None, Some}
use Rattle.std.specs.FinMap.{get, insert}
use Rattle.pss_base.specs.declared.damage.DamageKind.{DamageKind}
use Rattle.pss_base.specs.declared.damage.DamageKind.TheVariants as kind
use Rattle.pss_base.specs.declared.put.Put.{Put}
use Rattle.type_layout.specs.declared.key.KeyNo.{KeyNo}
use Rattle.type_layout.specs.declared.schema.Schema.{Schema}
use Rattle.pss_catalog.specs.Catalog.{Catalog, IsUnique, Object, total, weight}
use Rattle.pss_catalog.specs.Changes.{Change as Step, over}
use Rattle.storage_home.specs.declared.change.Change.{Change}
use Rattle.storage_home.specs.declared.homes.Homes.{Homes}
use Rattle.storage_home.specs.Applied.{AreChanges, AreKeysOf, AreNamed}
use Rattle.storage_home.specs.Kept.{IsKept, most}
use Rattle.page_format.specs.Objects.{octets_left}
use Rattle.pss_recovery.specs.Loading.{IsFree, IsRow, IsStored, RefersBelow}

-- the change that adds an object which holds these keys
abbrev pub addition : Put → List (KeyNo × List ℕ) → Change
addition put keys = record { put = put; old_keys = []; new_keys = keys }

-- changes may be made of a catalog that is kept: they leave keys unique, and the sum within its limit
pub record MayMake (homes : Homes) (changes : List Change) : Type 0 where
  pub schema : Schema
  pub catalog : Catalog
  pub steps : List Step
  pub kept : IsKept schema catalog homes
  pub named : AreNamed schema changes
  pub are : AreChanges schema catalog changes steps
  pub unique : IsUnique schema (over catalog steps)
  pub bounded : total schema (over catalog steps) ≤ most

-- the object of a row may be added
pub record MayAdd (homes : Homes) (row : Put) (keys : List (KeyNo × List ℕ)) : Type 0 where
  pub schema : Schema
  pub catalog : Catalog
  pub object : Object
  pub kept : IsKept schema catalog homes
  pub stored : IsStored schema row object
  pub none : get catalog row.serial ≡ None
  pub keys_ : AreKeysOf schema (Some object) keys
  pub free : IsFree schema catalog object
  pub unique : IsUnique schema catalog
  pub bounded : total schema catalog + weight schema object ≤ most

-- a catalog is kept to which a row with this serial and so many octets may come
pub record MayCome (S : Schema) (M : Catalog) (homes : Homes) (row : Put) : Type 0 where
  pub kept : IsKept S M homes
  pub none : get M row.serial ≡ None
  pub unique : IsUnique S M
  pub bounded : total S M + (16 + length (octets_left row.bytes)) ≤ most

-- the row has an object that may come behind those that are there, and holds these keys
pub record IsAddable (S : Schema) (next : ℕ) (M : Catalog) (row : Put) (keys : List (KeyNo × List ℕ)) : Type 0 where
  pub object : Object
  pub stored : IsStored S row object
  pub refers : RefersBelow next object
  pub keys_ : AreKeysOf S (Some object) keys
  pub free : IsFree S M object

-- an object that is there holds a key of the row's
pub record HasHeld (S : Schema) (next : ℕ) (M : Catalog) (row : Put) (k : DamageKind) : Type 0 where
  pub kind_ : k ≡ kind.Key
  pub object : Object
  pub stored : IsStored S row object
  pub refers : RefersBelow next object
  pub held : IsFree S M object → ⊥

-- the row was loaded
pub record IsOneMore (S : Schema) (next : ℕ) (M : Catalog) (row : Put) (homes : Homes) : Type 0 where
  pub object : Object
  pub is_row : IsRow S next M row object
  pub kept : IsKept S (insert M row.serial object) homes
