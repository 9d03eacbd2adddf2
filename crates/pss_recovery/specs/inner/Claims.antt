-- Keys that changes give up, and keys that they take.
use Rattle.std.specs.Prelude.{ℕ, ◌≡◌, ◌||◌, ◌++◌, ◌^◌, ◌<◌, is_some, Bool, true, false, List, [], ◌∷◌}
use Rattle.std.specs.FinMap as map
use Rattle.std.specs.Int.{to_be_bytes, w32}
use Rattle.std.specs.List.{AllByRecursion, list_any}
use Rattle.type_layout.specs.declared.key.KeyNo.{KeyNo}
use Rattle.type_layout.specs.declared.schema.Schema.{Schema}
use Rattle.pss_catalog.specs.Catalog.{Catalog}
use Rattle.key_index.specs.Index.{Index}
use Rattle.storage_home.specs.declared.change.Change.{Change}
use Rattle.storage_home.specs.Indexes.{lists}
use Rattle.pss_recovery.specs.inner.Held.{IsHeld}

-- the number of a key in front of its bytes
abbrev pub tagged : ℕ → List ℕ → List ℕ
tagged key bytes = to_be_bytes w32 key ++ bytes

-- a key with these bytes is in a set of such
abbrev pub is_in : Index → ℕ → List ℕ → Bool
is_in set key bytes = is_some (map.get set.held (tagged key bytes))

-- a set of keys, each by its number and its bytes
abbrev pub Keys : Type 0
Keys = ℕ → List ℕ → Bool

abbrev pub no_keys : Keys
no_keys key bytes = false

-- a table has the keys of this set, but for numbers that no key has
abbrev pub Agrees : Index → Keys → Type 0
Agrees table set = (key : ℕ) (bytes : List ℕ) → key < 2 ^ 32 → is_in table key bytes ≡ set key bytes

-- an object that changes held the key
abbrev pub releases : List Change → Keys
releases changes key bytes = list_any (λ change. lists change.old_keys key bytes) changes

-- these keys, and those that were claimed before
abbrev pub with_pairs : List (KeyNo × List ℕ) → Keys → Keys
with_pairs pairs claimed key bytes = lists pairs key bytes || claimed key bytes

-- a change may take the key: none before it did, and an object holds it only if it gives it up
pub record IsOpen (S : Schema) (M : Catalog) (released claimed : Keys) (key : KeyNo) (bytes : List ℕ) : Type 0 where
  pub free : claimed key.0 bytes ≡ false
  pub held : IsHeld S M key bytes → released key.0 bytes ≡ true

-- it may take each of these keys
abbrev pub AreOpen : Schema → Catalog → Keys → Keys → List (KeyNo × List ℕ) → Type 0
AreOpen S M released claimed pairs = AllByRecursion (λ pair. IsOpen S M released claimed pair.0 pair.1) pairs

-- one after the other, the changes may take their keys
abbrev pub ComeApart : Schema → Catalog → Keys → Keys → List Change → Type 0
ComeApart S M released claimed [] = Unit {0}
ComeApart S M released claimed (change ∷ changes) = AreOpen S M released claimed change.new_keys × ComeApart S M released (with_pairs change.new_keys claimed) changes
