-- The rows that were loaded so far.
use Rattle.std.specs.Prelude.{ℕ, ◌≡◌, ◌⊎◌, ◌+◌, ◌<◌, ◌≤◌, List, ◌++◌, length, take, None, Some, IsSome}
use Rattle.std.specs.List.{AllByRecursion, slice_get}
use Rattle.std.specs.FinMap.{empty, get}
use Rattle.pss_base.specs.declared.put.Put.{Put}
use Rattle.pss_base.specs.declared.damage.DamageKind.{DamageKind}
use Rattle.type_layout.specs.declared.schema.Schema.{Schema}
use Rattle.pss_catalog.specs.Catalog.{Catalog, IsUnique, total}
use Rattle.storage_home.specs.declared.homes.Homes.{Homes}
use Rattle.storage_home.specs.Kept.{IsKept, most}
use Rattle.page_format.specs.Rows.{AreApart, weights}
use Rattle.pss_recovery.specs.Loading.{AreLoaded, most_octets}
use Rattle.pss_recovery.specs.declared.loading.LoadStop.{LoadStop}
use Rattle.pss_recovery.specs.declared.loading.LoadStop.TheVariants as load
use Rattle.pss_recovery.specs.declared.checking.RowStop.{RowStop}
use Rattle.pss_recovery.specs.declared.checking.RowStop.TheVariants as row_stop
use Rattle.pss_recovery.specs.inner.Adding.{HasHeld}
use Rattle.pss_recovery.specs.inner.Checks.{IsWrongAlone}

-- these rows may come behind those that are there
pub record MayComeAll (M : Catalog) (rows : List Put) : Type 0 where
  pub some : AllByRecursion (λ row. IsSome row.bytes) rows
  pub new : AllByRecursion (λ row. get M row.serial ≡ None) rows
  pub apart : AreApart rows

-- of all rows some front was loaded, and these are left
pub record AreSoFar (S : Schema) (next : ℕ) (all rest : List Put) (index : ℕ) (homes : Homes) : Type 0 where
  pub front : List Put
  pub split : front ++ rest ≡ all
  pub count : length front ≡ index
  pub catalog : Catalog
  pub loaded : AreLoaded S next empty front catalog
  pub kept : IsKept S catalog homes
  pub unique : IsUnique S catalog
  pub sum_is : total S catalog ≡ weights front
  pub bounded : weights all ≤ most
  pub may : MayComeAll catalog rest

-- all were loaded
pub record AreAll (S : Schema) (next : ℕ) (rows : List Put) (homes : Homes) : Type 0 where
  pub catalog : Catalog
  pub loaded : AreLoaded S next empty rows catalog
  pub kept : IsKept S catalog homes

-- the row with this index is the first that is wrong
pub record IsWrongAt (S : Schema) (next : ℕ) (rows : List Put) (index : ℕ) (k : DamageKind) : Type 0 where
  pub row : Put
  pub there : slice_get rows index ≡ Some row
  pub before : Catalog
  pub loaded : AreLoaded S next empty (take index rows) before
  pub wrong : IsWrongAlone S next row k ⊎ HasHeld S next before row k

-- why a row is not right, with its index
abbrev pub at_row : ℕ → RowStop → LoadStop
at_row index (row_stop.Wrong k) = load.Wrong index k
at_row index row_stop.NoMemory = load.NoMemory

-- all were loaded, and their sum is within its limit
pub record AreWithin (S : Schema) (next : ℕ) (rows : List Put) (homes : Homes) : Type 0 where
  pub catalog : Catalog
  pub loaded : AreLoaded S next empty rows catalog
  pub bounded : total S catalog ≤ most_octets
  pub kept : IsKept S catalog homes

-- all are right, and their sum passes its limit
pub record AreOver (S : Schema) (next : ℕ) (rows : List Put) : Type 0 where
  pub catalog : Catalog
  pub loaded : AreLoaded S next empty rows catalog
  pub over : most_octets < total S catalog
