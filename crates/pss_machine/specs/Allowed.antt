-- Which effects a command may have, by what is kept.
use Rattle.std.specs.Prelude.{ℕ, ◌≡◌, ◌≤◌, ◌⊎◌, IsTrue, Some, None, Ok, false}
use Rattle.std.specs.FinMap.{get}
use Rattle.pss_base.specs.declared.owner.OwnerNo.{OwnerNo}
use Rattle.pss_base.specs.declared.session.SessionNo.{SessionNo}
use Rattle.type_layout.specs.declared.schema.Schema.{Schema}
use Rattle.pss_catalog.specs.Catalog.{Catalog, total}
use Rattle.pss_machine.specs.declared.limits.Limits.{Limits}
use Rattle.pss_machine.specs.declared.command.Command.{Command}
use Rattle.pss_machine.specs.Operations.{Question, PlainOp, Create, Ask}
use Rattle.pss_catalog.specs.Changes.{over}
use Rattle.pss_machine.specs.Owners.{Owner, is_basic, net, blocker, Step, step_on_view}
use Rattle.pss_machine.specs.Copies.{Copies}
use Rattle.pss_machine.specs.Kept.{Kept, copies_of}
use Rattle.pss_machine.specs.Asking.{Asked}
use Rattle.pss_machine.specs.Effects.{Effect, Begins, Steps, Commits, Flushes}
use Rattle.pss_machine.specs.Stepping.{within, step_on_copy, step_of}
use Rattle.pss_machine.specs.Deciding.{decision}

-- a create carries the next serial
abbrev pub TakesNext : ℕ → PlainOp → Type 0
TakesNext next (Create serial object) = serial ≡ next
TakesNext next _ = Unit {0}

-- an owner takes the step of what was asked, which is within the limits, and no other holds it up
pub record MayStep (S : Schema) (limits : Limits) (k : Kept) (n : OwnerNo) (s : SessionNo) (step : Step) (asked : Asked) : Type 0 where
  pub owner : Owner
  pub there : get k.owners n.0 ≡ Some owner
  pub limited : within limits k.next owner (copies_of k s) asked ≡ Ok asked
  pub taken : step ≡ step_of S k.catalog owner (copies_of k s) asked
  pub free : blocker k.owners n step.needs ≡ None
  pub serial : TakesNext k.next asked.op

-- an owner commits what there is room for
pub record MaySettle (S : Schema) (limits : Limits) (k : Kept) (n : OwnerNo) : Type 0 where
  pub owner : Owner
  pub there : get k.owners n.0 ≡ Some owner
  pub room : total S (over k.catalog (net k.catalog owner)) ≤ limits.total

abbrev pub May : Schema → Limits → Kept → Effect → Type 0
May S limits k (Steps n s step asked) = MayStep S limits k n s step asked
May S limits k (Commits n) = MaySettle S limits k n
May S limits k (Flushes n) = MaySettle S limits k n
May S limits k (Begins name level) = is_basic level ≡ false
May S limits k _ = Unit {0}

-- each command has an effect that it may have
abbrev pub EffectsAreAllowed : Type 0
EffectsAreAllowed = (S : Schema) (limits : Limits) (k : Kept) (command : Command) → May S limits k (decision S limits k command).effect

-- a question that a copy answers: nothing is needed, and nothing changes
abbrev pub IsFromCopy : Step → Type 0
IsFromCopy step = (question : Question) × (step ≡ step_on_copy (Ask question) step.answer)

-- the step of an operation on the owner's view, or of a basic owner's question on a copy
abbrev pub IsStepOf : Schema → Catalog → Owner → Step → Type 0
IsStepOf S M owner step = (step ≡ step_on_view S M owner step.op) ⊎ (IsTrue (is_basic owner.level) × IsFromCopy step)

-- each step is one of these, of the operation that was asked
abbrev pub StepsAreOfOwners : Type 0
StepsAreOfOwners = (S : Schema) (M : Catalog) (owner : Owner) (copies : Copies) (asked : Asked) → IsStepOf S M owner (step_of S M owner copies asked) × ((step_of S M owner copies asked).op ≡ asked.op)
