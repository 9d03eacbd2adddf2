-- What an owner's changes stand for, and what becomes of them.
use Rattle.std.specs.Prelude.{ℕ, ◌≡◌, List, Some, None, true, cond, IsSome, IsTrue}
use Rattle.type_layout.specs.declared.key.KeyNo.{KeyNo}
use Rattle.type_layout.specs.declared.schema.Schema.{Schema}
use Rattle.pss_machine.specs.Changes.{Changes}
use Rattle.owner_view.specs.declared.overlay.Overlay.{Overlay}
use Rattle.owner_view.specs.declared.states.Slot.{Slot}
use Rattle.owner_view.specs.States.{slot_at, changes_of}
use Rattle.storage_home.specs.Indexes.{KeyIndexes, found_at, is_key_reserved, lists}
use Rattle.owner_view.specs.Keyed.{Pair}
use Rattle.owner_view.specs.Views.{IsOwnHolder}

abbrev pub slots_in : Overlay → List (ℕ × Slot)
slots_in overlay = overlay.states

abbrev pub changes_in : Overlay → Changes
changes_in overlay = changes_of (slots_in overlay)

abbrev pub indexes_in : Overlay → KeyIndexes
indexes_in overlay = overlay.indexes

-- a state may be put at the serial, and each of the keys
pub record IsReady (serial : ℕ) (pairs : List Pair) (overlay : Overlay) : Type 0 where
  pub there : IsSome (slot_at serial overlay.states)
  pub reserved : (key : ℕ) (bytes : List ℕ) → IsTrue (lists pairs key bytes) → is_key_reserved (indexes_in overlay) key bytes ≡ true

-- the keys that an object had have no holder, but those that it has have it
abbrev pub FoundAfter : KeyIndexes → KeyIndexes → ℕ → List Pair → List Pair → Type 0
FoundAfter old new serial had has = (key : ℕ) (bytes : List ℕ) → found_at new key bytes ≡ cond (lists has key bytes) (Some serial) (cond (lists had key bytes) None (found_at old key bytes))

-- under a schema, the indexes have the holders of keys among the changed objects
abbrev pub HasHolders : Schema → Changes → KeyIndexes → Type 0
HasHolders S changes indexes = (k : KeyNo) (bytes : List ℕ) → IsOwnHolder S changes k bytes (found_at indexes k.0 bytes)
