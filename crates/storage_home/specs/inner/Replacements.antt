-- A record that takes the place of another.
use Rattle.std.specs.Prelude.{ℕ, ◌≡◌, ◌≤◌, List, [], ◌∷◌, Some, true, IsSome}
use Rattle.std.specs.FinMap.{get, insert}
use Rattle.pss_base.specs.declared.put.Put.{Put}
use Rattle.type_layout.specs.declared.key.KeyNo.{KeyNo}
use Rattle.type_layout.specs.declared.schema.Schema.{Schema}
use Rattle.pss_catalog.specs.Catalog.{Object, Catalog, total, IsUnique}
use Rattle.storage_home.specs.declared.change.Change.{Change}
use Rattle.storage_home.specs.declared.parts.Parts.{Parts}
use Rattle.storage_home.specs.declared.rows.Stored.{Stored}
use Rattle.storage_home.specs.Indexes.{AreKeysReserved}
use Rattle.storage_home.specs.Rows.{object_at, is_reserved_at}
use Rattle.storage_home.specs.Kept.{most, IsSound, IsKept, stored}
use Rattle.storage_home.specs.Applied.{AreKeysOf}

-- a record is put, and an object of its home is there
pub record Replaces (homes : Parts) (put : Put) : Type 0 where
  pub some : IsSome put.bytes
  pub row : Stored
  pub there : object_at put.serial homes.rows.chunks ≡ Some row
  pub of_home : row.home.0 ≡ put.home

abbrev pub alone : Change → List Change
alone change = change ∷ []

abbrev pub ReplacesOne : Parts → List Change → Type 0
ReplacesOne homes (change ∷ []) = Replaces homes change.put
ReplacesOne homes _ = ⊥

-- an object may take the place of one of its home, with its keys
pub record MayReplace (homes : Parts) (serial : ℕ) (row : Stored) (old_pairs new_pairs : List (KeyNo × List ℕ)) : Type 0 where
  pub schema : Schema
  pub catalog : Catalog
  pub before : Object
  pub object : Object
  pub kept : IsKept schema catalog homes
  pub there : get catalog serial ≡ Some before
  pub of_home : before.home ≡ object.home
  pub is_sound : IsSound schema object
  pub is : row ≡ stored schema object
  pub old_keys : AreKeysOf schema (Some before) old_pairs
  pub new_keys : AreKeysOf schema (Some object) new_pairs
  pub unique : IsUnique schema (insert catalog serial object)
  pub bounded : total schema (insert catalog serial object) ≤ most
  pub reserved : is_reserved_at serial homes.rows.chunks ≡ true
  pub keys_reserved : AreKeysReserved homes.keys new_pairs
