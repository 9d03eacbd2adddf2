-- What a data command asks, and that it may be done.
use Rattle.std.specs.Prelude.{ℕ, ◌-◌, ◌^◌, ◌<◌, ◌≡◌, Result, Ok, Option, Some, None, IsSomeAnd}
use Rattle.pss_base.specs.declared.pid.Pid.{Pid}
use Rattle.type_layout.specs.declared.schema.Schema.{Schema}
use Rattle.pss_machine.specs.declared.command.Command.{Command}
use Rattle.pss_machine.specs.declared.reply.Reply.{Reply}
use Rattle.pss_machine.specs.declared.limits.Limits.{Limits}
use Rattle.pss_machine.specs.Operations.{Get, Follow, PlainOp, Create, Set, Destroy, Ask, PlainAnswer}
use Rattle.pss_machine.specs.Owners.{Step}
use Rattle.pss_machine.specs.Copies.{Copies, entry_numbered}
use Rattle.pss_machine.specs.Kept.{Kept, copies_of}
use Rattle.pss_machine.specs.Asking.{Asked}
use Rattle.pss_machine.specs.Stepping.{within, step_of, data_command, reply_to}
use Rattle.pss_machine.specs.Effects.{Decision, Steps, does}
use Rattle.pss_machine.specs.Deciding.{decision}
use Rattle.pss_machine.specs.Moving.{moved, after_step}
use Rattle.pss_machine.specs.Allowed.{TakesNext}
use Rattle.owner_view.specs.Fitting.{FitsOp}
use Rattle.owner_accounts.specs.Accounts.{AreAccounts}
use Rattle.owner_accounts.specs.Steps.{HasSerial}
use Rattle.owner_accounts.specs.Reached.{IsReached}
use Rattle.pss_copies.specs.Seats.{Attends}
use Rattle.connector_parts.specs.declared.parts.Parts.{Parts}
use Rattle.connector_parts.specs.Few.{AreWithin, AreFew}
use Rattle.connector_parts.specs.Stands.{Stands, IsAt, StayAs}
use Rattle.data_calls.specs.declared.acting.Acting.{Acting}
use Rattle.data_calls.specs.declared.granting.Grant.{Grant}
use Rattle.data_calls.specs.declared.granting.Grant.TheVariants.{Taken, Refused}
use Rattle.pss_machine.specs.Operations.{plain_answer}
use Rattle.pss_asking.specs.declared.asked.Asked.{Asked as AskedHere}
use Rattle.pss_asking.specs.declared.asked.AskFault.{AskFault}
use Rattle.pss_asking.specs.Telling.{Tells, plain_asked}
use Rattle.data_calls.specs.Acting.{IsActing}

-- ---- what a command comes to

-- the reply is the decision's, and the parts stand for what it makes of what was kept, under the same schema and limits
pub record Follows (old : Parts) (k : Kept) (d : Decision) (reply : Reply) (new : Parts) : Type 0 where
  pub reply_is : reply ≡ d.reply
  pub stay : StayAs old new
  pub stands : Stands new (moved k d.effect)

-- ---- what is asked

-- the serial of the object that an operation changes, where it changes one
abbrev pub changed_in : PlainOp → Option ℕ
changed_in (Create serial object) = Some serial
changed_in (Set p member value) = Some p.serial
changed_in (Destroy p) = Some p.serial
changed_in (Ask question) = None

-- the object that an operation of a named entry is about
abbrev pub object_in : PlainOp → Option Pid
object_in (Set p member value) = Some p
object_in (Ask (Get p member)) = Some p
object_in (Ask (Follow p member)) = Some p
object_in _ = None

-- the session's entry of the number is for the operation's object
abbrev pub NamesObject : Copies → Asked → Type 0
NamesObject copies asked = (n : ℕ) → asked.entry ≡ Some n → IsSomeAnd (entry_numbered copies n) (λ e. object_in asked.op ≡ Some e.pid)

-- what is asked fits the schema, takes the next serial where it makes an object, and is about the object of the entry that
-- it names
pub record IsFair (S : Schema) (k : Kept) (copies : Copies) (asked : Asked) : Type 0 where
  pub fits : FitsOp S asked.op
  pub serial : TakesNext k.next asked.op
  pub named : NamesObject copies asked

-- this is told of what a command asks
pub record Asks (c : Parts) (acting : Acting) (told : Result Asked Reply) : Type 0 where
  pub kept : Kept
  pub at : IsAt c kept
  pub is : IsActing kept acting
  pub command : Command
  pub decides : decision c.schema c.limits kept command ≡ data_command c.schema c.limits kept acting.session is.session told
  pub fair : (asked : Asked) → told ≡ Ok asked → within c.limits kept.next is.owner (copies_of kept acting.session) asked ≡ Ok asked → IsFair c.schema kept (copies_of kept acting.session) asked

pub record AnyAsks (c : Parts) (acting : Acting) (result : Result AskedHere AskFault) : Type 0 where
  pub told : Result Asked Reply
  pub asks : Asks c acting told
  pub tells : Tells plain_asked result told

-- what it comes to
abbrev pub decision_on : {c : Parts} {acting : Acting} {told : Result Asked Reply} → Asks c acting told → Decision
decision_on {c = c} {acting = acting} {told = told} a = data_command c.schema c.limits a.kept acting.session a.is.session told

-- what is asked is within the limits, or is not
abbrev pub limited_as : {c : Parts} {acting : Acting} {told : Result Asked Reply} → Asks c acting told → Asked → Result Asked Reply
limited_as {c = c} {acting = acting} a asked = within c.limits a.kept.next a.is.owner (copies_of a.kept acting.session) asked

-- it may be done
pub record MayTake (c : Parts) (acting : Acting) (asked : Asked) : Type 0 where
  pub asks : Asks c acting (Ok asked)
  pub within_them : limited_as asks asked ≡ Ok asked
  pub serials : HasSerial asks.kept.next asked.op

-- ---- steps

-- the step of what is asked, and its answer
pub record IsStep (S : Schema) (limits : Limits) (k : Kept) (acting : Acting) (asked : Asked) (answer : PlainAnswer) : Type 0 where
  pub reached : IsReached S limits k
  pub limited : AreWithin limits
  pub performed : ℕ
  pub left : performed < 2 ^ 32 - 1
  pub few : AreFew performed k
  pub is : IsActing k acting
  pub fair : IsFair S k (copies_of k acting.session) asked
  pub within_them : within limits k.next is.owner (copies_of k acting.session) asked ≡ Ok asked
  pub step : Step
  pub step_is : step ≡ step_of S k.catalog is.owner (copies_of k acting.session) asked
  pub answer_is : step.answer ≡ answer
  pub reaches : IsReached S limits (after_step k acting.owner acting.session step asked)

-- what is kept after it
abbrev pub after : {S : Schema} {limits : Limits} {k : Kept} {acting : Acting} {asked : Asked} {answer : PlainAnswer} → IsStep S limits k acting asked answer → Kept
after {k = k} {acting = acting} {asked = asked} s = after_step k acting.owner acting.session s.step asked

-- it was taken by the owner; the sessions and their entries are still as before it
pub record IsTaken (S : Schema) (limits : Limits) (c : Parts) (k : Kept) (acting : Acting) (asked : Asked) (answer : PlainAnswer) : Type 0 where
  pub schema_is : c.schema ≡ S
  pub limits_is : c.limits ≡ limits
  pub step : IsStep S limits k acting asked answer
  pub accounts : AreAccounts S c.accounts (after step)
  pub attended : Attends k c.attended

-- ---- what is granted

-- the step was taken, and the command comes to it
pub record Takes (old : Parts) (k : Kept) (d : Decision) (acting : Acting) (asked : Asked) (answer : PlainAnswer) (new : Parts) : Type 0 where
  pub taken : IsTaken old.schema old.limits new k acting asked answer
  pub comes : d ≡ does (Steps acting.owner acting.session taken.step.step asked) (reply_to old.schema k (copies_of k acting.session) asked answer)

abbrev pub IsGranted : Parts → Kept → Decision → Acting → Asked → Grant → Parts → Type 0
IsGranted old k d acting asked (Taken answer) new = Takes old k d acting asked (plain_answer answer) new
IsGranted old k d acting asked (Refused reply) new = Follows old k d reply new
