-- Changed objects by the lengths of their records.
use Rattle.std.specs.Prelude.{ℕ, ◌≡◌, ◌-◌, ◌^◌, List, length, min, Option, Some}
use Rattle.type_layout.specs.declared.schema.Schema.{Schema}
use Rattle.pss_catalog.specs.Catalog.{object_spelling}
use Rattle.owner_view.specs.declared.object.Changed.{Changed}
use Rattle.owner_view.specs.declared.states.Slot.{Slot}
use Rattle.owner_view.specs.declared.states.Slot.TheVariants as slot
use Rattle.owner_view.specs.declared.states.Told.{Told}
use Rattle.owner_view.specs.declared.states.Told.TheVariants as told
use Rattle.owner_view.specs.Seen.{plain_object}
use Rattle.owner_view.specs.States.{slot_at}

-- the length is that of the object's record under the schema, or 2^64 - 1 in its place where that is less
abbrev pub IsSized : Schema → Changed → Type 0
IsSized S changed = changed.len ≡ min (length (object_spelling S (plain_object changed))) (2 ^ 64 - 1)

-- so is that of the object in a slot, where one is there
abbrev pub IsSlotSized : Schema → Option Slot → Type 0
IsSlotSized S (Some (slot.There changed)) = IsSized S changed
IsSlotSized S _ = Unit {0}

-- of all objects in slots
abbrev pub AreSized : Schema → List (ℕ × Slot) → Type 0
AreSized S es = (q : ℕ) → IsSlotSized S (slot_at q es)

-- and of one that is told of
abbrev pub IsToldSized : Schema → Told → Type 0
IsToldSized S (told.There changed) = IsSized S changed.now
IsToldSized S _ = Unit {0}
