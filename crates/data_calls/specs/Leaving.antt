-- Steps whose outdated bodies are left.
use Rattle.std.specs.Prelude.{ℕ, ◌≡◌}
use Rattle.pss_base.specs.declared.pid.Pid.{Pid}
use Rattle.type_layout.specs.declared.schema.Schema.{Schema}
use Rattle.type_layout.specs.Types.{PlainValue}
use Rattle.pss_machine.specs.declared.limits.Limits.{Limits}
use Rattle.pss_machine.specs.Operations.{PlainOp, Set, PlainAnswer, Done}
use Rattle.pss_machine.specs.Kept.{Kept}
use Rattle.pss_machine.specs.Asking.{Asked}
use Rattle.pss_copies.specs.Stepped.{left_by}
use Rattle.connector_parts.specs.declared.parts.Parts.{Parts}
use Rattle.data_calls.specs.declared.acting.Acting.{Acting}
use Rattle.data_calls.specs.Asking.{after, IsTaken}
use Rattle.data_calls.specs.Ways.{IsOnWay}

-- a step was taken
pub record MayLeave (c : Parts) (acting : Acting) (op : PlainOp) (answer : PlainAnswer) : Type 0 where
  pub schema : Schema
  pub limits : Limits
  pub kept : Kept
  pub asked : Asked
  pub op_is : asked.op ≡ op
  pub taken : IsTaken schema limits c kept acting asked answer

-- and the entries on bodies that it outdated are left
abbrev pub IsLeft : {c : Parts} {acting : Acting} {op : PlainOp} {answer : PlainAnswer} → MayLeave c acting op answer → Parts → Type 0
IsLeft {acting = acting} m new = IsOnWay m.schema m.limits new (after m.taken.step) (left_by m.kept acting.owner m.taken.step.step)

-- a set of the object was done
pub record MayRewrite (c : Parts) (acting : Acting) (p : Pid) : Type 0 where
  pub member : ℕ
  pub value : PlainValue
  pub left : MayLeave c acting (Set p member value) Done
