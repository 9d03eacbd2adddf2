-- What an operation comes to on a view.
use Rattle.std.specs.Prelude.{ℕ, ◌≡◌, ◌++◌, List, [], ◌∷◌, Option, Some, None, not, if◌then◌else◌}
use Rattle.std.specs.FinMap.{get}
use Rattle.std.specs.Str.{bytes_eq}
use Rattle.type_layout.specs.declared.home.HomeNo.{HomeNo}
use Rattle.type_layout.specs.declared.schema.Schema.{Schema}
use Rattle.pss_catalog.specs.Catalog.{Object, Catalog}
use Rattle.pss_catalog.specs.Changes.{Change}
use Rattle.pss_machine.specs.declared.level.Level.{Level}
use Rattle.pss_machine.specs.declared.level.Level.TheVariants.{Serializable, ReadCommitted, Basic}
use Rattle.pss_machine.specs.declared.lock.Need.{Need}
use Rattle.pss_machine.specs.declared.lock.Mode.TheVariants.{S as Read, M as Many, X as Write}
use Rattle.pss_machine.specs.Operations.{PlainOp, PlainAnswer, Gone, Done, plain_answer}
use Rattle.pss_machine.specs.Alone.{Outcome, alone, first_taken, unless_gone, stored}
use Rattle.pss_machine.specs.Needs.{needs, object_need, extent_need, targets}
use Rattle.owner_view.specs.declared.step.Step.{Step}
use Rattle.owner_view.specs.declared.step.NewState.{NewState}
use Rattle.owner_view.specs.declared.draft.Draft.{Draft}
use Rattle.owner_view.specs.Refusal.{unless_refused}
use Rattle.pss_base.specs.declared.pid.Pid.{Pid}
use Rattle.owner_view.specs.declared.states.Slot.{Slot}
use Rattle.owner_view.specs.declared.states.Slot.TheVariants as slot
use Rattle.owner_view.specs.Keyed.{Pair, key_needs, all_keyed, keys_of}
use Rattle.owner_view.specs.Seen.{Fits, plain_object}
use Rattle.owner_view.specs.Sized.{IsSized}

-- ---- needs

-- what is read is needed by a serializable owner alone
abbrev pub with_reads : Level → List Need → List Need → List Need
with_reads Serializable written read = written ++ read
with_reads ReadCommitted written read = written
with_reads Basic written read = written

-- an object that comes to be or goes, with its keys
abbrev pub whole_needs : ℕ → HomeNo → List Pair → List Need
whole_needs serial home pairs = object_need Write serial ∷ (key_needs pairs ++ extent_need Many home ∷ [])

-- the pairs whose bytes are others in the other list
abbrev pub differing : List Pair → List Pair → List Pair
differing (p ∷ ps) (q ∷ qs) = if not (bytes_eq p.1 q.1) then p ∷ differing ps qs else differing ps qs
differing _ _ = []

-- an object that is set, with the keys whose bytes change
abbrev pub set_needs : ℕ → List Pair → List Pair → List Need
set_needs serial had has = object_need Write serial ∷ (key_needs (differing had has) ++ key_needs (differing has had))

-- ---- changes

-- the state of an object that is put
abbrev pub state_put : Slot → Option Object
state_put slot.Reserved = None
state_put slot.Gone = None
state_put (slot.There object) = Some (plain_object object)

abbrev pub changes_put : Option NewState → List Change
changes_put None = []
changes_put (Some put) = record { serial = put.serial; state = state_put put.slot } ∷ []

-- an object that fits the schema, whose keys no other holds, and the length of whose record is known
abbrev pub MayStand : Schema → Catalog → ℕ → Slot → Type 0
MayStand S V serial slot.Reserved = ⊥
MayStand S V serial slot.Gone = Unit {0}
MayStand S V serial (slot.There object) = Fits S (plain_object object) × (first_taken S V serial (plain_object object) ≡ None) × IsSized S object

-- the keys that the object had in the view, and those that it has
pub record IsPut (S : Schema) (V : Catalog) (put : NewState) : Type 0 where
  pub may : MayStand S V put.serial put.slot
  pub had : put.pairs.had.items ≡ keys_of S (get V put.serial)
  pub has : put.pairs.has.items ≡ keys_of S (state_put put.slot)

abbrev pub MayBePut : Schema → Catalog → Option NewState → Type 0
MayBePut S V None = Unit {0}
MayBePut S V (Some put) = IsPut S V put

-- ---- objects that come to be, or become others

-- what is needed, why the object is refused where it is, and the keys that there were and are
pub record IsDraft (S : Schema) (V : Catalog) (serial : ℕ) (object : Object) (needed : List Need) (outcome : PlainAnswer → Outcome) (draft : Draft) : Type 0 where
  pub needs : draft.needs ≡ needed
  pub refusal : (done : PlainAnswer) → unless_refused draft.refusal serial object done ≡ outcome done
  pub had : draft.pairs.had.items ≡ keys_of S (get V serial)
  pub has : draft.pairs.has.items ≡ all_keyed S object

-- what an object that would refer to others comes to
abbrev pub stored_unless : Schema → Catalog → ℕ → Object → List Pid → PlainAnswer → Outcome
stored_unless S V serial object references done = unless_gone V references (stored S V serial object done)

-- a step that needs this and comes to this outcome
pub record ComesTo (S : Schema) (V : Catalog) (needed : List Need) (outcome : Outcome) (step : Step) : Type 0 where
  pub needs : step.needs ≡ needed
  pub answer : plain_answer step.answer ≡ outcome.answer
  pub changes : changes_put step.put ≡ outcome.changes
  pub put : MayBePut S V step.put

-- the needs, the answer and the changes of an operation on what is seen
abbrev pub IsStep : Schema → Level → Catalog → PlainOp → Step → Type 0
IsStep S level V op step = ComesTo S V (needs S level V op) (alone S V op) step

-- the step of an operation that would write an object which is not there
pub record IsGone (level : Level) (p : Pid) (references : List Pid) (step : Step) : Type 0 where
  pub needs : step.needs ≡ with_reads level (object_need Write p.serial ∷ []) (targets references)
  pub answer : plain_answer step.answer ≡ Gone p
  pub put : step.put ≡ None

-- the step that removes the object at a serial
pub record IsRemoval (S : Schema) (V : Catalog) (serial : ℕ) (home : HomeNo) (step : Step) : Type 0 where
  pub needs : step.needs ≡ whole_needs serial home (keys_of S (get V serial))
  pub answer : plain_answer step.answer ≡ Done
  pub changes : changes_put step.put ≡ record { serial = serial; state = None } ∷ []
  pub put : MayBePut S V step.put

-- the step that would read an object which is not there
pub record IsNowhere (level : Level) (p : Pid) (step : Step) : Type 0 where
  pub needs : step.needs ≡ with_reads level [] (object_need Read p.serial ∷ [])
  pub answer : plain_answer step.answer ≡ Gone p
  pub put : step.put ≡ None
