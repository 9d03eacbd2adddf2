-- Steps that were taken, and what is replied to them.
use Rattle.std.specs.Prelude.{ℕ, ◌≡◌, List, [], Option, Some, None}
use Rattle.type_layout.specs.declared.schema.Schema.{Schema}
use Rattle.type_layout.specs.Types.{PlainValue}
use Rattle.pss_machine.specs.declared.limits.Limits.{Limits}
use Rattle.pss_machine.specs.declared.reply.Reply.{Reply}
use Rattle.pss_machine.specs.Operations.{PlainOp, Create, PlainAnswer}
use Rattle.pss_machine.specs.Kept.{Kept, copies_of}
use Rattle.pss_machine.specs.Asking.{Asked}
use Rattle.pss_machine.specs.Stepping.{reply_to}
use Rattle.pss_copies.specs.Stepped.{left_by}
use Rattle.connector_parts.specs.declared.parts.Parts.{Parts}
use Rattle.connector_parts.specs.Stands.{Stands}
use Rattle.data_calls.specs.declared.acting.Acting.{Acting}
use Rattle.data_calls.specs.Asking.{IsTaken, after}
use Rattle.data_calls.specs.Ways.{IsOnWay, seated_by, entry_found}

-- the values of the object that an operation makes, where it makes one
abbrev pub made_in : PlainOp → Option (List PlainValue)
made_in (Create serial object) = Some object.values
made_in _ = None

-- the operation once they are taken out of it
abbrev pub without_record : PlainOp → PlainOp
without_record (Create serial object) = Create serial (record object { values = [] })
without_record op = op

-- and what is asked then
abbrev pub asked_without : Asked → Asked
asked_without asked = record asked { op = without_record asked.op }

-- a step was taken
pub record AnyTaken (c : Parts) (acting : Acting) (asked : Asked) (answer : PlainAnswer) : Type 0 where
  pub schema : Schema
  pub limits : Limits
  pub kept : Kept
  pub taken : IsTaken schema limits c kept acting asked answer

-- its entries are as after it, and what it obtained is by this entry
pub record AreSeated {c : Parts} {acting : Acting} {asked : Asked} {answer : PlainAnswer} (m : AnyTaken c acting asked answer) (entry : Option ℕ) (new : Parts) : Type 0 where
  pub way : IsOnWay m.schema m.limits new (after m.taken.step) (seated_by (left_by m.kept acting.owner m.taken.step.step) acting.session asked answer)
  pub entry_is : entry ≡ entry_found asked.obtains answer (copies_of m.kept acting.session)

-- the parts stand for what is kept after it, and the reply is the machine's
pub record IsFinished {c : Parts} {acting : Acting} {asked : Asked} {answer : PlainAnswer} (m : AnyTaken c acting asked answer) (reply : Reply) (new : Parts) : Type 0 where
  pub reply_is : reply ≡ reply_to m.schema m.kept (copies_of m.kept acting.session) asked answer
  pub schema_is : new.schema ≡ m.schema
  pub limits_is : new.limits ≡ m.limits
  pub stands : Stands new (after m.taken.step)
