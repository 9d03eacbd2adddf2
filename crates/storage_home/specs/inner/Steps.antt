-- What may be done with one object, and with one change after the other.
use Rattle.std.specs.Prelude.{ℕ, ◌≡◌, ◌≤◌, List, [], ◌∷◌, length, None, Some, IsSome}
use Rattle.std.specs.FinMap.{get, insert, remove}
use Rattle.pss_base.specs.declared.put.Put.{Put}
use Rattle.type_layout.specs.declared.home.HomeNo.{HomeNo}
use Rattle.type_layout.specs.declared.key.KeyNo.{KeyNo}
use Rattle.type_layout.specs.declared.schema.Schema.{Schema}
use Rattle.pss_catalog.specs.Catalog.{Object, Catalog, total, IsUnique}
use Rattle.pss_catalog.specs.Changes.{Change as Step, over, with_state}
use Rattle.storage_home.specs.declared.change.Change.{Change}
use Rattle.storage_home.specs.declared.parts.Parts.{Parts}
use Rattle.storage_home.specs.declared.rows.Stored.{Stored}
use Rattle.storage_home.specs.Indexes.{AreKeysReserved}
use Rattle.storage_home.specs.Kept.{most, IsSound, IsKept, IsReserved, stored}
use Rattle.storage_home.specs.Applied.{IsNew, AreKeysOf, AreChanges, AreReserved, AreNamed, AreRows}

-- ---- what is reserved

-- changes whose homes and keys are of the schema
pub record MayReserve (homes : Parts) (changes : List Change) : Type 0 where
  pub schema : Schema
  pub catalog : Catalog
  pub kept : IsKept schema catalog homes
  pub named : AreNamed schema changes

-- ---- one object

-- the object with a serial, where there is one, may be taken out with its keys
pub record MayTake (homes : Parts) (serial : ℕ) (pairs : List (KeyNo × List ℕ)) : Type 0 where
  pub schema : Schema
  pub catalog : Catalog
  pub kept : IsKept schema catalog homes
  pub keys : AreKeysOf schema (get catalog serial) pairs

-- an object may be put with its keys
pub record MayPutObject (homes : Parts) (serial : ℕ) (row : Stored) (pairs : List (KeyNo × List ℕ)) : Type 0 where
  pub schema : Schema
  pub catalog : Catalog
  pub object : Object
  pub kept : IsKept schema catalog homes
  pub is_sound : IsSound schema object
  pub is : row ≡ stored schema object
  pub none : get catalog serial ≡ None
  pub keys : AreKeysOf schema (Some object) pairs
  pub unique : IsUnique schema (insert catalog serial object)
  pub bounded : total schema (insert catalog serial object) ≤ most
  pub reserved : IsReserved homes object.home serial
  pub keys_reserved : AreKeysReserved homes.keys pairs

-- what is reserved for other serials stays so
abbrev pub OthersStay : Parts → Parts → ℕ → Type 0
OthersStay old new serial = (home : HomeNo) (s : ℕ) → (s ≡ serial → ⊥) → IsReserved old home s → IsReserved new home s

-- the home of a change that has a record is there
abbrev pub IsPlaced : Parts → Change → Type 0
IsPlaced homes change = IsSome change.put.bytes → (1 ≤ change.put.home) × (change.put.home ≤ length homes.extents.items)

-- ---- changes, one after the other

-- no two are of one serial
abbrev pub AreApart : List Step → Type 0
AreApart [] = Unit {0}
AreApart (step ∷ steps) = IsNew step.serial steps × AreApart steps

-- the catalog without the objects of these serials
abbrev pub bare : Catalog → List Step → Catalog
bare M [] = M
bare M (step ∷ steps) = bare (remove M step.serial) steps

-- what is found at their serials is the same in both
abbrev pub AgreeAt : Catalog → Catalog → List Step → Type 0
AgreeAt N M [] = Unit {0}
AgreeAt N M (step ∷ steps) = (get N step.serial ≡ get M step.serial) × AgreeAt N M steps

-- each comes to a serial at which nothing is
abbrev pub AreFresh : Catalog → List Step → Type 0
AreFresh N [] = Unit {0}
AreFresh N (step ∷ steps) = (get N step.serial ≡ None) × AreFresh (with_state N step.serial step.state) steps

-- once the objects of these changes are taken out, the catalog F is kept
pub record MayTakeAll (S : Schema) (F : Catalog) (homes : Parts) (changes : List Change) : Type 0 where
  pub original : Catalog
  pub catalog : Catalog
  pub steps : List Step
  pub kept : IsKept S catalog homes
  pub are : AreChanges S original changes steps
  pub apart : AreApart steps
  pub same : AgreeAt catalog original steps
  pub ends : bare catalog steps ≡ F

abbrev pub AnyTakeAll : Parts → List Change → Type 0
AnyTakeAll homes changes = (S : Schema) × (F : Catalog) × MayTakeAll S F homes changes

-- once the records of these changes are put, the catalog F is kept
pub record MayPutAll (S : Schema) (F : Catalog) (homes : Parts) (changes : List Change) : Type 0 where
  pub original : Catalog
  pub catalog : Catalog
  pub steps : List Step
  pub kept : IsKept S catalog homes
  pub are : AreChanges S original changes steps
  pub apart : AreApart steps
  pub fresh : AreFresh catalog steps
  pub unique : IsUnique S F
  pub bounded : total S F ≤ most
  pub reserved : AreReserved homes changes
  pub ends : over catalog steps ≡ F

abbrev pub AnyPutAll : Parts → List Change → Type 0
AnyPutAll homes changes = (S : Schema) × (F : Catalog) × MayPutAll S F homes changes

-- ---- rows, one after the other

-- an object may be loaded
pub record MayLoadOne (S : Schema) (homes : Parts) (serial : ℕ) (row : Stored) : Type 0 where
  pub catalog : Catalog
  pub object : Object
  pub kept : IsKept S catalog homes
  pub is_sound : IsSound S object
  pub is : row ≡ stored S object
  pub none : get catalog serial ≡ None
  pub unique : IsUnique S (insert catalog serial object)
  pub bounded : total S (insert catalog serial object) ≤ most

-- once these rows are loaded, the catalog F is kept
pub record MayLoadAll (S : Schema) (F : Catalog) (homes : Parts) (rows : List Put) : Type 0 where
  pub catalog : Catalog
  pub steps : List Step
  pub kept : IsKept S catalog homes
  pub are : AreRows S rows steps
  pub fresh : AreFresh catalog steps
  pub unique : IsUnique S F
  pub bounded : total S F ≤ most
  pub ends : over catalog steps ≡ F

abbrev pub AnyLoadAll : Schema → Parts → List Put → Type 0
AnyLoadAll S homes rows = (F : Catalog) × MayLoadAll S F homes rows
