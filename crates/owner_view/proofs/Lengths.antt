-- Lengths of records in slots, as slots come and change.
use Rattle.std.proofs.Common.{ℕ, ◌≡◌, ◌==◌, Bool, true, false, cond, List, Some, sym, subst}
use Rattle.type_layout.specs.declared.schema.Schema.{Schema}
use Rattle.owner_view.specs.declared.states.Slot.{Slot}
use Rattle.owner_view.specs.Sized.{IsSlotSized, AreSized}
use Rattle.owner_view.specs.States.{slot_at}

-- with another slot whose length is known all are known
pub sized_turned : (S : Schema) (old new : List (ℕ × Slot)) (s : ℕ) (slot : Slot) → ((q : ℕ) → slot_at q new ≡ cond (s == q) (Some slot) (slot_at q old)) → AreSized S old → IsSlotSized S (Some slot) → AreSized S new
sized_turned S old new s slot turned all here q = subst (IsSlotSized S) (sym (turned q)) (by (s == q))
  where
    by : (b : Bool) → IsSlotSized S (cond b (Some slot) (slot_at q old))
    by true = here
    by false = all q
