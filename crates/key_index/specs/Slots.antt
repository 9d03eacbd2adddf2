-- What the slots of an index stand for.
use Rattle.std.specs.Prelude.{ℕ, ◌≡◌, List, [], ◌∷◌, ◌++◌, Option, Some, None, Bool, true, false, cond, not, nat_le, length, slice_get}
use Rattle.std.specs.List.{filter}
use Rattle.std.specs.Option.{option_map}
use Rattle.std.specs.Ordering.{nat_cmp}
use Rattle.std.specs.Cmp.Lexicographic.{slice_cmp}
use Rattle.std.specs.Str.{bytes_eq}
use Rattle.std.specs.Map.{lookup}
use Rattle.std.specs.declared.vec.Vec.{Vec}
use Rattle.std.specs.FinMap as map
use Rattle.std.specs.FinSet as set
use Rattle.key_index.specs.declared.slots.Slot.{Slot}
use Rattle.key_index.specs.declared.slots.Slots.{Slots}
use Rattle.key_index.specs.declared.slots.Slot.TheVariants.{Held, Reserved, Both}

-- the map with this serial at a key, or without the key
abbrev pub with_held : Option ℕ → List ℕ → map.FinMap (slice_cmp nat_cmp) ℕ → map.FinMap (slice_cmp nat_cmp) ℕ
with_held None key m = map.remove m key
with_held (Some serial) key m = map.insert m key serial

-- the set with a key, or without it
abbrev pub with_reserved : Bool → List ℕ → set.FinSet (slice_cmp nat_cmp) → set.FinSet (slice_cmp nat_cmp)
with_reserved true key s = set.insert s key
with_reserved false key s = set.remove s key

-- the serial that a slot holds its key with
abbrev pub serial_of : Slot → Option ℕ
serial_of (Held serial) = Some serial
serial_of Reserved = None
serial_of (Both serial) = Some serial

-- a slot says that its key is reserved
abbrev pub is_reserved : Slot → Bool
is_reserved (Held serial) = false
is_reserved Reserved = true
is_reserved (Both serial) = true

-- the serial behind a key
abbrev pub serial_at : Option Slot → Option ℕ
serial_at None = None
serial_at (Some slot) = serial_of slot

-- a key is reserved
abbrev pub is_reserved_at : Option Slot → Bool
is_reserved_at None = false
is_reserved_at (Some slot) = is_reserved slot

-- a key that lies in its table
abbrev pub is_short : List ℕ → Bool
is_short key = nat_le (length key) 24

-- the slot of a key
abbrev pub slot_at : List ℕ → List (List ℕ × Slot) → Option Slot
slot_at key es = lookup (bytes_eq key) es

-- the key at a place
abbrev pub key_at : ℕ → List (List ℕ × Slot) → Option (List ℕ)
key_at place es = option_map (λ e. e.0) (slice_get es place)

-- the slot of this key is another one, and all others stay
abbrev pub Turns : List (List ℕ × Slot) → List (List ℕ × Slot) → List ℕ → Option Slot → Type 0
Turns old new key slot = (q : List ℕ) → slot_at q new ≡ cond (bytes_eq q key) slot (slot_at q old)

-- slots with the bytes of their keys
abbrev pub bytes_of : {Z : Type 0} → List (Vec ℕ Z × Slot) → List (List ℕ × Slot)
bytes_of [] = []
bytes_of (e ∷ es) = (e.0.items, e.1) ∷ bytes_of es

-- the slot of a key in a table of longer keys
abbrev pub long_slot : {Z : Type 0} → List ℕ → List (Vec ℕ Z × Slot) → Option Slot
long_slot key es = lookup (λ k. bytes_eq key k.items) es

-- the slots of short keys from one table, and those of longer keys from another
abbrev pub joined : List (List ℕ × Slot) → List (List ℕ × Slot) → List (List ℕ × Slot)
joined short long = filter (λ e. is_short e.0) short ++ filter (λ e. not (is_short e.0)) long

-- all slots, each with its key
abbrev pub slots_of : Slots → List (List ℕ × Slot)
slots_of s = joined s.short.entries (bytes_of s.long.entries)

-- the map that the slots have written: of two for one key the first counts
abbrev pub held_of : List (List ℕ × Slot) → map.FinMap (slice_cmp nat_cmp) ℕ
held_of [] = map.empty
held_of (e ∷ es) = with_held (serial_of e.1) e.0 (held_of es)

-- the set likewise
abbrev pub reserved_of : List (List ℕ × Slot) → set.FinSet (slice_cmp nat_cmp)
reserved_of [] = set.empty
reserved_of (e ∷ es) = with_reserved (is_reserved e.1) e.0 (reserved_of es)
