-- What is kept of a catalog.
use Rattle.std.specs.Prelude.{ℕ, ◌≡◌, ◌≤◌, ◌↔◌, ◌==◌, List, length, Option, Some, Bool, true, false, IsSome}
use Rattle.std.specs.Option.{option_map}
use Rattle.std.specs.FinMap.{get, entries}
use Rattle.type_layout.specs.declared.home.HomeNo.{HomeNo}
use Rattle.type_layout.specs.declared.key.KeyNo.{KeyNo}
use Rattle.type_layout.specs.declared.schema.Schema.{Schema}
use Rattle.type_layout.specs.Schemas.{given, home_at, members_at, descends}
use Rattle.type_layout.specs.Sound.{IsSoundSchema}
use Rattle.type_layout.specs.Values.{IsRecord}
use Rattle.pss_catalog.specs.Catalog.{Object, Catalog, holds, pids_where, object_spelling, total, EachObject}
use Rattle.pss_catalog.specs.Families.{bases_of}
use Rattle.storage_home.specs.declared.rows.Stored.{Stored}
use Rattle.storage_home.specs.declared.parts.Parts.{Parts}
use Rattle.storage_home.specs.Rows.{object_at, is_reserved_at}
use Rattle.storage_home.specs.Extents.{is_held_in, is_entered_in}
use Rattle.storage_home.specs.Counts.{number_at}
use Rattle.storage_home.specs.Indexes.{found_at}

-- the greatest sum that is kept
abbrev pub most : ℕ
most = 18446744073709551615

-- an object of a home that is there, with a record of the home's layout
abbrev pub IsSound : Schema → Object → Type 0
IsSound S object = IsSome (home_at S object.home) × IsRecord (members_at S object.home) object.values

-- an object as it is stored
abbrev pub stored : Schema → Object → Stored
stored S object = record { home = object.home; bytes = object_spelling S object }

-- an object is of a home or of one that derives from it
abbrev pub is_of : Schema → HomeNo → Object → Bool
is_of S home object = descends S object.home home

-- an object is of a home itself
abbrev pub is_own : ℕ → Object → Bool
is_own home object = object.home.0 == home

-- the object with this serial holds the key with these bytes
abbrev pub IsHolder : Schema → Catalog → KeyNo → List ℕ → ℕ → Type 0
IsHolder S M key bytes serial = (object : Object) × (get M serial ≡ Some object) × (holds S key bytes object ≡ true)

-- an object is there, and is of this home
abbrev pub is_object_of : ℕ → Option Object → Bool
is_object_of home object = given object false (is_own home)

-- these homes keep the catalog: each object with the octets of its record, the sum and the number of all, for each home its
-- own objects by serial and how many they are, and for each key its holders
pub record IsKept (S : Schema) (M : Catalog) (homes : Parts) : Type 0 where
  pub sound : IsSoundSchema S
  pub each : EachObject M (λ serial object. IsSound S object)
  pub families : homes.families ≡ bases_of S
  pub objects : (serial : ℕ) → object_at serial homes.rows.chunks ≡ option_map (stored S) (get M serial)
  pub total_is : homes.total ≡ total S M
  pub bounded : total S M ≤ most
  pub count_is : homes.objects ≡ length (entries M)
  pub extents : (home serial : ℕ) → is_held_in homes.extents.items home serial ≡ is_object_of home (get M serial)
  pub extents_size : length homes.extents.items ≡ length S.homes
  pub counts : (home : ℕ) → number_at homes.counts.items home ≡ length (pids_where (is_own home) M)
  pub counts_size : length homes.counts.items ≡ length S.homes
  pub keys : (key : KeyNo) (bytes : List ℕ) (serial : ℕ) → (found_at homes.keys key.0 bytes ≡ Some serial) ↔ IsHolder S M key bytes serial

-- room is kept for an object of this home with this serial
abbrev pub IsReserved : Parts → HomeNo → ℕ → Type 0
IsReserved homes home serial = (is_reserved_at serial homes.rows.chunks ≡ true) × (is_entered_in homes.extents.items home.0 serial ≡ true)

-- what holds of each catalog that these homes keep
abbrev pub Keeping : Parts → (Schema → Catalog → Type 0) → Type 0
Keeping homes P = (S : Schema) (M : Catalog) → IsKept S M homes → P S M

-- these homes keep a catalog
abbrev pub AnyKept : Parts → Type 0
AnyKept homes = (S : Schema) × (M : Catalog) × IsKept S M homes
