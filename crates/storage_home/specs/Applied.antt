-- Changes of a catalog that is kept, and rows of which one is made.
use Rattle.std.specs.Prelude.{ℕ, ◌≡◌, ◌≤◌, List, [], ◌∷◌, Option, None, Some, false, IsSome}
use Rattle.std.specs.FinMap.{get, empty}
use Rattle.pss_base.specs.declared.put.Put.{Put}
use Rattle.type_layout.specs.declared.home.HomeNo.{HomeNo}
use Rattle.type_layout.specs.declared.key.KeyNo.{KeyNo}
use Rattle.type_layout.specs.declared.schema.Schema.{Schema}
use Rattle.type_layout.specs.Schemas.{given, home_at}
use Rattle.type_layout.specs.Types.{PlainValue}
use Rattle.pss_catalog.specs.Catalog.{Object, Catalog, holds, object_spelling, total, IsUnique}
use Rattle.pss_catalog.specs.Changes.{Change as Step, over}
use Rattle.storage_home.specs.declared.change.Change.{Change}
use Rattle.storage_home.specs.declared.parts.Parts.{Parts}
use Rattle.storage_home.specs.Indexes.{lists, AreKeysReserved, IsOnce}
use Rattle.storage_home.specs.Kept.{most, IsSound, IsKept, IsReserved}

-- ---- one change

-- octets, where there are some, spell the record of an object of this home
abbrev pub IsState : Schema → ℕ → Option (List ℕ) → Option Object → Type 0
IsState S home None None = Unit {0}
IsState S home (Some bytes) (Some object) = (object.home.0 ≡ home) × IsSound S object × (bytes ≡ object_spelling S object)
IsState S home _ _ = ⊥

-- what a put says of its serial
abbrev pub IsStep : Schema → Put → Step → Type 0
IsStep S put step = (put.serial ≡ step.serial) × IsState S put.home put.bytes step.state

-- the pairs are the keys that the object holds, where there is one, each once
pub record AreKeysOf (S : Schema) (object : Option Object) (pairs : List (KeyNo × List ℕ)) : Type 0 where
  pub listed : (key : KeyNo) (bytes : List ℕ) → lists pairs key.0 bytes ≡ given object false (holds S key bytes)
  pub once : IsOnce pairs

-- octets that spell the record of an object of a home
pub record SpellsObject (S : Schema) (home : HomeNo) (bytes : List ℕ) : Type 0 where
  pub values : List PlainValue
  pub is_sound : IsSound S (record { home = home; values = values })
  pub spelled : bytes ≡ object_spelling S (record { home = home; values = values })

abbrev pub object_of : {S : Schema} {home : HomeNo} {bytes : List ℕ} → SpellsObject S home bytes → Object
object_of {home = home} spells = record { home = home; values = spells.values }

-- a change says what becomes of the object with its serial, and which keys this one holds before and after
pub record IsChange (S : Schema) (M : Catalog) (change : Change) (step : Step) : Type 0 where
  pub step_is : IsStep S change.put step
  pub old_keys : AreKeysOf S (get M step.serial) change.old_keys
  pub new_keys : AreKeysOf S step.state change.new_keys

abbrev pub AreChanges : Schema → Catalog → List Change → List Step → Type 0
AreChanges S M [] [] = Unit {0}
AreChanges S M (c ∷ cs) (d ∷ ds) = IsChange S M c d × AreChanges S M cs ds
AreChanges S M _ _ = ⊥

-- ---- what is reserved

-- the serial of a new record is reserved for its home, and the new keys are
abbrev pub IsChangeReserved : Parts → Change → Type 0
IsChangeReserved homes change = (IsSome change.put.bytes → IsReserved homes (record { 0 = change.put.home }) change.put.serial) × AreKeysReserved homes.keys change.new_keys

abbrev pub AreReserved : Parts → List Change → Type 0
AreReserved homes [] = Unit {0}
AreReserved homes (c ∷ cs) = IsChangeReserved homes c × AreReserved homes cs

-- all that was reserved stays so
abbrev pub AllStay : Parts → Parts → Type 0
AllStay old new = (home : HomeNo) (s : ℕ) → IsReserved old home s → IsReserved new home s

-- the home of a new record is there
abbrev pub IsNamed : Schema → Change → Type 0
IsNamed S change = IsSome change.put.bytes → IsSome (home_at S (record { 0 = change.put.home }))

abbrev pub AreNamed : Schema → List Change → Type 0
AreNamed S [] = Unit {0}
AreNamed S (c ∷ cs) = IsNamed S c × AreNamed S cs

-- changes for which all is reserved may be made of a catalog that is kept: they leave keys unique, and the sum within its limit
pub record MayApply (homes : Parts) (changes : List Change) : Type 0 where
  pub schema : Schema
  pub catalog : Catalog
  pub steps : List Step
  pub kept : IsKept schema catalog homes
  pub are : AreChanges schema catalog changes steps
  pub unique : IsUnique schema (over catalog steps)
  pub bounded : total schema (over catalog steps) ≤ most
  pub reserved : AreReserved homes changes

-- ---- rows

-- each row is an object's, of another serial than those behind it
abbrev pub IsNew : ℕ → List Step → Type 0
IsNew serial [] = Unit {0}
IsNew serial (step ∷ steps) = (serial ≡ step.serial → ⊥) × IsNew serial steps

abbrev pub AreRows : Schema → List Put → List Step → Type 0
AreRows S [] [] = Unit {0}
AreRows S (p ∷ ps) (d ∷ ds) = IsStep S p d × IsSome d.state × IsNew d.serial ds × AreRows S ps ds
AreRows S _ _ = ⊥

-- rows of which a catalog may be made: no key is held twice, and the sum is within its limit
pub record MayLoad (S : Schema) (rows : List Put) : Type 0 where
  pub steps : List Step
  pub are : AreRows S rows steps
  pub unique : IsUnique S (over empty steps)
  pub bounded : total S (over empty steps) ≤ most
