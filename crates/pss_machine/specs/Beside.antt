-- What grows beside what is kept, and on which no reply rests: the steps of each owner, the history of commits, and
-- the trace of data commands.
use Rattle.std.specs.Prelude.{ℕ, List, [], ◌∷◌, ◌++◌, map, length, if◌then◌else◌, unwrap_or}
use Rattle.std.specs.Ordering.{nat_cmp}
use Rattle.std.specs.FinMap.{FinMap, get, insert, remove, empty}
use Rattle.pss_base.specs.declared.owner.OwnerNo.{OwnerNo}
use Rattle.type_layout.specs.Schemas.{given}
use Rattle.pss_machine.specs.declared.level.Level.{Level}
use Rattle.pss_machine.specs.Operations.{PlainOp, PlainAnswer}
use Rattle.pss_catalog.specs.Changes.{Change}
use Rattle.pss_machine.specs.Changes.{listed}
use Rattle.pss_machine.specs.Owners.{Owner, Step, net}
use Rattle.pss_machine.specs.Kept.{Kept, name_of}
use Rattle.pss_machine.specs.Effects.{Effect, Stays, OpensBasic, OpensTransactional, ClosesBasic, ClosesTransactional, Begins, Associates, Ends, Holds, Steps, Commits, Flushes, RollsBack}
use Rattle.pss_machine.specs.Moving.{joins}

-- an operation, and what it answered
pub record Answered : Type 0 where
  pub op : PlainOp
  pub answer : PlainAnswer

-- of the history: who committed, what it had asked and been answered, and what it changed
pub record Member : Type 0 where
  pub name : List ℕ
  pub level : Level
  pub done : List Answered
  pub changes : List Change

-- of the trace: who was answered what, after how many commits, and over which changes of its own
pub record Traced : Type 0 where
  pub owner : OwnerNo
  pub level : Level
  pub op : PlainOp
  pub answer : PlainAnswer
  pub commits : ℕ
  pub before : List Change

pub record Lists : Type 0 where
  pub steps : FinMap nat_cmp (List Step)
  pub history : List Member
  pub trace : List Traced

abbrev pub no_lists : Lists
no_lists = record { steps = empty; history = []; trace = [] }

-- the steps of an owner, in order
abbrev pub steps_of : Lists → ℕ → List Step
steps_of lists n = unwrap_or (get lists.steps n) []

abbrev pub answered_in : Step → Answered
answered_in step = record { op = step.op; answer = step.answer }

abbrev pub member_of : Kept → Lists → OwnerNo → Owner → Member
member_of k lists n owner = record { name = name_of k n; level = owner.level; done = map answered_in (steps_of lists n.0); changes = net k.catalog owner }

abbrev pub with_member : List Member → Member → List Member
with_member history x = if joins x.level x.changes then history ++ x ∷ [] else history

abbrev pub traced : Lists → OwnerNo → Owner → Step → Traced
traced lists n owner step = record { owner = n; level = owner.level; op = step.op; answer = step.answer; commits = length lists.history; before = listed owner.changes }

-- an owner's steps are gone
abbrev pub without_steps : Lists → OwnerNo → Lists
without_steps lists n = record { steps = remove lists.steps n.0; history = lists.history; trace = lists.trace }

-- a step of an owner
abbrev pub with_step : Kept → Lists → OwnerNo → Step → Lists
with_step k lists n step = given (get k.owners n.0) lists (λ owner. record {
  steps = insert lists.steps n.0 (steps_of lists n.0 ++ step ∷ []);
  history = lists.history;
  trace = lists.trace ++ traced lists n owner step ∷ [];
})

-- a commit of an owner
abbrev pub with_settled : Kept → Lists → OwnerNo → Lists
with_settled k lists n = given (get k.owners n.0) lists (λ owner. record {
  steps = remove lists.steps n.0;
  history = with_member lists.history (member_of k lists n owner);
  trace = lists.trace;
})

-- what an effect adds, by what was kept before it
abbrev pub grown : Kept → Lists → Effect → Lists
grown k lists Stays = lists
grown k lists (OpensBasic name access) = lists
grown k lists (OpensTransactional name access) = lists
grown k lists (ClosesBasic s n) = without_steps lists n
grown k lists (ClosesTransactional s) = lists
grown k lists (Begins name level) = lists
grown k lists (Associates s association) = lists
grown k lists (Ends s n failed) = lists
grown k lists (Holds s copies) = lists
grown k lists (Steps n s step asked) = with_step k lists n step
grown k lists (Commits n) = with_settled k lists n
grown k lists (Flushes n) = with_settled k lists n
grown k lists (RollsBack n) = without_steps lists n
