-- The serials of a home whose objects are there, and those that are entered.
use Rattle.std.specs.Prelude.{ℕ, ◌≡◌, ◌<◌, ◌≤◌, ◌-◌, ◌/◌, ◌%◌, List, Option, None, Some, Bool, true, false, cond, slice_get, ◌==◌, ◌&&◌}
use Rattle.std.specs.BTreeMap.{BTreeMap, keys, btree_map_len}
use Rattle.type_layout.specs.Schemas.{given, nth}
use Rattle.storage_home.specs.declared.extents.Block.{Block}
use Rattle.storage_home.specs.Blocks.{Blocks, block_at, holds_in, enters_in}

abbrev pub is_held_at : ℕ → Blocks → Bool
is_held_at s es = holds_in (block_at (s / 64) es) (s % 64)

abbrev pub is_entered_at : ℕ → Blocks → Bool
is_entered_at s es = enters_in (block_at (s / 64) es) (s % 64)

-- the least serial from this one on whose object is there, or that there is none
abbrev pub IsNext : Blocks → ℕ → Option ℕ → Type 0
IsNext es from None = (t : ℕ) → from ≤ t → is_held_at t es ≡ false
IsNext es from (Some s) = (from ≤ s) × (is_held_at s es ≡ true) × ((t : ℕ) → from ≤ t → t < s → is_held_at t es ≡ false)

-- the number of the last block
abbrev pub last_number : BTreeMap ℕ Block → Option ℕ
last_number extent = slice_get (keys extent) (btree_map_len extent - 1)

-- what the entries of one extent become
abbrev pub TurnsHeld : Blocks → Blocks → ℕ → Bool → Type 0
TurnsHeld old new s b = (q : ℕ) → is_held_at q new ≡ cond (s == q) b (is_held_at q old)

abbrev pub KeepsHeld : Blocks → Blocks → Type 0
KeepsHeld old new = (q : ℕ) → is_held_at q new ≡ is_held_at q old

abbrev pub TurnsEntered : Blocks → Blocks → ℕ → Bool → Type 0
TurnsEntered old new s b = (q : ℕ) → is_entered_at q new ≡ cond (s == q) b (is_entered_at q old)

abbrev pub KeepsEntered : Blocks → Blocks → Type 0
KeepsEntered old new = (q : ℕ) → is_entered_at q new ≡ is_entered_at q old

-- ---- the extents of all homes, from number 1

abbrev pub is_held_in : List (BTreeMap ℕ Block) → ℕ → ℕ → Bool
is_held_in extents home serial = given (nth extents home) false (λ e. is_held_at serial e.entries)

abbrev pub is_entered_in : List (BTreeMap ℕ Block) → ℕ → ℕ → Bool
is_entered_in extents home serial = given (nth extents home) false (λ e. is_entered_at serial e.entries)

abbrev pub TurnsHeldIn : List (BTreeMap ℕ Block) → List (BTreeMap ℕ Block) → ℕ → ℕ → Bool → Type 0
TurnsHeldIn old new home serial b = (h s : ℕ) → is_held_in new h s ≡ cond ((home == h) && (serial == s)) b (is_held_in old h s)

abbrev pub KeepsHeldIn : List (BTreeMap ℕ Block) → List (BTreeMap ℕ Block) → Type 0
KeepsHeldIn old new = (h s : ℕ) → is_held_in new h s ≡ is_held_in old h s

abbrev pub TurnsEnteredIn : List (BTreeMap ℕ Block) → List (BTreeMap ℕ Block) → ℕ → ℕ → Bool → Type 0
TurnsEnteredIn old new home serial b = (h s : ℕ) → is_entered_in new h s ≡ cond ((home == h) && (serial == s)) b (is_entered_in old h s)

abbrev pub KeepsEnteredIn : List (BTreeMap ℕ Block) → List (BTreeMap ℕ Block) → Type 0
KeepsEnteredIn old new = (h s : ℕ) → is_entered_in new h s ≡ is_entered_in old h s

-- the least serial of a home from this one on whose object is there, or that there is none
abbrev pub IsNextIn : List (BTreeMap ℕ Block) → ℕ → ℕ → Option ℕ → Type 0
IsNextIn extents home from None = (t : ℕ) → from ≤ t → is_held_in extents home t ≡ false
IsNextIn extents home from (Some s) = (from ≤ s) × (is_held_in extents home s ≡ true) × ((t : ℕ) → from ≤ t → t < s → is_held_in extents home t ≡ false)

-- the same among the serials of one block
abbrev pub IsNear : Blocks → ℕ → Option ℕ → Type 0
IsNear es from None = (t : ℕ) → from ≤ t → t / 64 ≡ from / 64 → is_held_at t es ≡ false
IsNear es from (Some s) = IsNext es from (Some s)
