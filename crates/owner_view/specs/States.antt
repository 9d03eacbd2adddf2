-- The states of objects by what stands at their serials.
use Rattle.std.specs.Prelude.{ℕ, ◌≡◌, ◌≤◌, ◌+◌, ◌++◌, List, [], ◌∷◌, Option, Some, None, is_some, IsTrue, Bool, false, cond, ◌==◌}
use Rattle.std.specs.List.{list_any, slice_get}
use Rattle.std.specs.Map.{lookup}
use Rattle.std.specs.Option.{option_to_list}
use Rattle.std.specs.FinMap.{get, insert, remove, empty}
use Rattle.pss_base.specs.declared.pid.Pid.{Pid}
use Rattle.type_layout.specs.Schemas.{given}
use Rattle.type_layout.specs.Sound.{are_distinct}
use Rattle.pss_catalog.specs.Catalog.{Object, pid_of}
use Rattle.pss_machine.specs.Changes.{Changes}
use Rattle.pss_machine.specs.Same.{same_pid}
use Rattle.owner_view.specs.declared.states.Slot.{Slot}
use Rattle.owner_view.specs.declared.states.Slot.TheVariants as slot
use Rattle.owner_view.specs.declared.states.Told.{Told}
use Rattle.owner_view.specs.declared.states.Told.TheVariants as told
use Rattle.owner_view.specs.Seen.{plain_object}

-- the state to which an object was changed, none where it was not
abbrev pub slot_state : Slot → Option (Option Object)
slot_state slot.Reserved = None
slot_state slot.Gone = Some None
slot_state (slot.There object) = Some (Some (plain_object object))

abbrev pub told_state : Told → Option (Option Object)
told_state told.Untouched = None
told_state told.Gone = Some None
told_state (told.There object) = Some (Some (plain_object object.now))

abbrev pub slot_at : ℕ → List (ℕ × Slot) → Option Slot
slot_at s es = lookup (λ t. s == t) es

abbrev pub state_at : ℕ → List (ℕ × Slot) → Option (Option Object)
state_at s es = given (slot_at s es) None slot_state

-- all states stay
abbrev pub KeepsStates : List (ℕ × Slot) → List (ℕ × Slot) → Type 0
KeepsStates old new = (q : ℕ) → state_at q new ≡ state_at q old

-- at this serial stands this state, and all others stay
abbrev pub TurnsState : List (ℕ × Slot) → List (ℕ × Slot) → ℕ → Option (Option Object) → Type 0
TurnsState old new s state = (q : ℕ) → state_at q new ≡ cond (s == q) state (state_at q old)

-- the slot at a place has this serial, and this state stands in it
pub record IsSlot (es : List (ℕ × Slot)) (place s : ℕ) (state : Option (Option Object)) : Type 0 where
  pub slot : Slot
  pub there : slice_get es place ≡ Some (s, slot)
  pub stands : slot_state slot ≡ state

-- the changes with this state at a serial, or without the serial
abbrev pub with_told : Option (Option Object) → ℕ → Changes → Changes
with_told None s changes = remove changes s
with_told (Some state) s changes = insert changes s state

-- the changes that slots stand for
abbrev pub changes_of : List (ℕ × Slot) → Changes
changes_of [] = empty
changes_of (e ∷ es) = with_told (slot_state e.1) e.0 (changes_of es)

-- numbers rise, from this one on
abbrev pub Rise : ℕ → List ℕ → Type 0
Rise least [] = Unit {0}
Rise least (s ∷ ss) = (least ≤ s) × Rise (s + 1) ss

-- these are the serials at which something stands, in their order
pub record AreInOrder (es : List (ℕ × Slot)) (ss : List ℕ) : Type 0 where
  pub rise : Rise 0 ss
  pub all : (q : ℕ) → list_any (λ t. q == t) ss ≡ is_some (slot_at q es)

-- ---- objects that have a value

-- the changes give the object with this pid a value
abbrev pub has_value : Changes → Pid → Bool
has_value changes pid = given (get changes pid.serial) false (λ state. given state false (λ x. x.home.0 == pid.home))

-- these are the pids of the objects to which the changes give a value, each once
pub record AreValued (changes : Changes) (pids : List Pid) : Type 0 where
  pub all : (pid : Pid) → list_any (λ p. same_pid p pid) pids ≡ has_value changes pid
  pub once : IsTrue (are_distinct same_pid pids)

-- the pid of the object that stands in the slot of a serial
abbrev pub slot_pid : ℕ → Slot → Option Pid
slot_pid s slot.Reserved = None
slot_pid s slot.Gone = None
slot_pid s (slot.There object) = Some (pid_of (s, plain_object object))

abbrev pub pids_in : List (ℕ × Slot) → List Pid
pids_in [] = []
pids_in (e ∷ es) = option_to_list (slot_pid e.0 e.1) ++ pids_in es
