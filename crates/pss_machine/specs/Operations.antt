-- Operations and their answers as plain data, and what those of the program stand for.
use Rattle.std.specs.Prelude.{ℕ, List, Bool}
use Rattle.pss_base.specs.declared.pid.Pid.{Pid}
use Rattle.pss_base.specs.declared.owner.OwnerNo.{OwnerNo}
use Rattle.type_layout.specs.declared.home.HomeNo.{HomeNo}
use Rattle.type_layout.specs.declared.key.KeyNo.{KeyNo}
use Rattle.type_layout.specs.Types.{PlainValue}
use Rattle.type_layout.specs.Views.{plain_value}
use Rattle.pss_catalog.specs.Catalog.{Object}
use Rattle.pss_machine.specs.declared.operation.Op.{Op}
use Rattle.pss_machine.specs.declared.operation.Op.TheVariants as op
use Rattle.pss_machine.specs.declared.answer.Answer.{Answer}
use Rattle.pss_machine.specs.declared.answer.Answer.TheVariants as answer

-- what changes nothing
pub data Question : Type 0 where
  FindKey : (home : HomeNo) → (key : KeyNo) → (bytes : List ℕ) → Question
  FindPid : (pid : Pid) → Question
  FindShort : (home : HomeNo) → (serial : ℕ) → Question
  Exists : (pid : Pid) → Question
  Get : (pid : Pid) → (member : ℕ) → Question
  Follow : (pid : Pid) → (member : ℕ) → Question
  Count : (home : HomeNo) → Question
  ListOf : (home : HomeNo) → Question

pub data PlainOp : Type 0 where
  Create : (serial : ℕ) → (object : Object) → PlainOp
  Set : (pid : Pid) → (member : ℕ) → (value : PlainValue) → PlainOp
  Destroy : (pid : Pid) → PlainOp
  Ask : (question : Question) → PlainOp

pub data PlainAnswer : Type 0 where
  Done : PlainAnswer
  Found : (pid : Pid) → PlainAnswer
  IsThere : (b : Bool) → PlainAnswer
  Val : (value : PlainValue) → PlainAnswer
  Number : (n : ℕ) → PlainAnswer
  Listing : (n : ℕ) → (first : List Pid) → PlainAnswer
  NotFound : PlainAnswer
  Gone : (pid : Pid) → PlainAnswer
  Nil : PlainAnswer
  Duplicate : (key : KeyNo) → PlainAnswer
  TooLarge : PlainAnswer
  Busy : (owner : OwnerNo) → PlainAnswer

abbrev pub plain_op : Op → PlainOp
plain_op (op.Create serial home values) = Create serial (record { home = home; values = values })
plain_op (op.FindKey home key bytes) = Ask (FindKey home key bytes)
plain_op (op.FindPid pid) = Ask (FindPid pid)
plain_op (op.FindShort home serial) = Ask (FindShort home serial)
plain_op (op.Exists pid) = Ask (Exists pid)
plain_op (op.Get pid member) = Ask (Get pid member)
plain_op (op.Set pid member value) = Set pid member (plain_value value)
plain_op (op.Destroy pid) = Destroy pid
plain_op (op.Follow pid member) = Ask (Follow pid member)
plain_op (op.Count home) = Ask (Count home)
plain_op (op.List home) = Ask (ListOf home)

abbrev pub plain_answer : Answer → PlainAnswer
plain_answer answer.Done = Done
plain_answer (answer.Found pid) = Found pid
plain_answer (answer.Truth b) = IsThere b
plain_answer (answer.Val value) = Val (plain_value value)
plain_answer (answer.Count n) = Number n
plain_answer (answer.List n first) = Listing n first
plain_answer answer.NotFound = NotFound
plain_answer (answer.Gone pid) = Gone pid
plain_answer answer.Nil = Nil
plain_answer (answer.Duplicate key) = Duplicate key
plain_answer answer.TooLarge = TooLarge
plain_answer (answer.Busy owner) = Busy owner
