-- The objects in the pages of a store: which rows are right, one behind the other, and which is the first that is wrong.
use Rattle.std.specs.Prelude.{ℕ, zero, suc, ◌≡◌, ◌⊎◌, ◌+◌, ◌<◌, List, [], ◌∷◌, ◌++◌, take, slice_index, Some, None, IsSome, IsTrue}
use Rattle.std.specs.List.{flat_map, slice_get}
use Rattle.std.specs.FinMap.{get, insert, empty}
use Rattle.pss_base.specs.declared.put.Put.{Put}
use Rattle.pss_base.specs.declared.damage.DamageKind.{DamageKind}
use Rattle.pss_base.specs.declared.damage.DamageKind.TheVariants as kind
use Rattle.type_layout.specs.declared.key.KeyNo.{KeyNo}
use Rattle.type_layout.specs.declared.schema.Schema.{Schema}
use Rattle.type_layout.specs.Schemas.{home_at}
use Rattle.pss_catalog.specs.Catalog.{Object, Catalog, AreGiven, holds, references, total}
use Rattle.storage_home.specs.Applied.{IsState}
use Rattle.redo_journal.specs.Journal.{journal_end}
use Rattle.page_format.specs.Pages.{behind_entry, entries_start, entry_count}
use Rattle.page_format.specs.Places.{slot_start}

-- the greatest sum over the objects of 16 and the length of the record
abbrev pub most_octets : ℕ
most_octets = 67108864

-- ---- places

-- the places of so many entries, one behind the other
abbrev pub places_from : ℕ → List ℕ → ℕ → List ℕ
places_from zero image at = []
places_from (suc k) image at = at ∷ places_from k image (behind_entry image at)

-- the places of the entries in the pages of these slots
abbrev pub entry_places : List ℕ → List ℕ → List ℕ
entry_places image [] = []
entry_places image (slot ∷ slots) = places_from (entry_count image (slot_start slot)) image (entries_start (slot_start slot)) ++ entry_places image slots

-- ---- right rows

-- the row has the record of this object
abbrev pub IsStored : Schema → Put → Object → Type 0
IsStored S row object = IsState S row.home row.bytes (Some object)

-- what the object refers to was given before the next serial
abbrev pub RefersBelow : ℕ → Object → Type 0
RefersBelow next object = AreGiven next (flat_map references object.values)

-- no object that is there holds a key that this one holds
abbrev pub IsFree : Schema → Catalog → Object → Type 0
IsFree S M object =
    (key : KeyNo) (bytes : List ℕ) (serial : ℕ) (other : Object) → get M serial ≡ Some other → IsTrue (holds S key bytes other) → IsTrue (holds S key bytes object) → ⊥

-- the row is that of this object, and may come behind those that are there
pub record IsRow (S : Schema) (next : ℕ) (M : Catalog) (row : Put) (object : Object) : Type 0 where
  pub stored : IsStored S row object
  pub refers : RefersBelow next object
  pub free : IsFree S M object

-- with these rows, one behind the other, a catalog becomes another
abbrev pub AreLoaded : Schema → ℕ → Catalog → List Put → Catalog → Type 0
AreLoaded S next M [] N = N ≡ M
AreLoaded S next M (row ∷ rows) N = (object : Object) × IsRow S next M row object × AreLoaded S next (insert M row.serial object) rows N

-- ---- wrong rows

-- the home of the row is not there
pub record HasNoHome (S : Schema) (row : Put) (place at : ℕ) (k : DamageKind) : Type 0 where
  pub kind_ : k ≡ kind.Entry
  pub place_ : at ≡ place
  pub none : home_at S (record { 0 = row.home }) ≡ None

-- it is there, and the octets are no record of it
pub record HasNoRecord (S : Schema) (row : Put) (place at : ℕ) (k : DamageKind) : Type 0 where
  pub kind_ : k ≡ kind.Record
  pub place_ : at ≡ place + 16
  pub home : IsSome (home_at S (record { 0 = row.home }))
  pub none : (object : Object) → IsStored S row object → ⊥

-- the record refers to a serial that was not given
pub record RefersAbove (S : Schema) (next : ℕ) (row : Put) (place at : ℕ) (k : DamageKind) : Type 0 where
  pub kind_ : k ≡ kind.Ref
  pub place_ : at ≡ place
  pub object : Object
  pub stored : IsStored S row object
  pub above : RefersBelow next object → ⊥

-- an object that is there holds one of its keys
pub record HasHeldKey (S : Schema) (next : ℕ) (M : Catalog) (row : Put) (place at : ℕ) (k : DamageKind) : Type 0 where
  pub kind_ : k ≡ kind.Key
  pub place_ : at ≡ place
  pub object : Object
  pub stored : IsStored S row object
  pub refers : RefersBelow next object
  pub held : IsFree S M object → ⊥

-- of the row of the entry at a place this is wrong
abbrev pub IsWrongRow : Schema → ℕ → Catalog → Put → ℕ → ℕ → DamageKind → Type 0
IsWrongRow S next M row place at k = HasNoHome S row place at k ⊎ HasNoRecord S row place at k ⊎ RefersAbove S next row place at k ⊎ HasHeldKey S next M row place at k

-- of these rows, with the places of their entries, this is wrong first
pub record IsRowDamage (S : Schema) (next : ℕ) (rows : List Put) (places : List ℕ) (at : ℕ) (k : DamageKind) : Type 0 where
  pub index : ℕ
  pub row : Put
  pub there : slice_get rows index ≡ Some row
  pub before : Catalog
  pub loaded : AreLoaded S next empty (take index rows) before
  pub wrong : IsWrongRow S next before row (slice_index places index) at k

-- all rows are right, and their sum passes its limit
pub record IsTotalDamage (S : Schema) (next : ℕ) (rows : List Put) (at : ℕ) (k : DamageKind) : Type 0 where
  pub kind_ : k ≡ kind.Total
  pub place_ : at ≡ journal_end
  pub all : Catalog
  pub loaded : AreLoaded S next empty rows all
  pub over : most_octets < total S all
