-- What owners may do.
use Rattle.std.specs.Prelude.{ℕ, ◌≡◌, ◌<◌, ◌-◌, ◌^◌, Option, Some, None}
use Rattle.std.specs.FinMap.{get}
use Rattle.pss_base.specs.declared.owner.OwnerNo.{OwnerNo}
use Rattle.pss_base.specs.declared.pid.Pid.{Pid}
use Rattle.type_layout.specs.declared.schema.Schema.{Schema}
use Rattle.pss_machine.specs.declared.limits.Limits.{Limits}
use Rattle.pss_machine.specs.declared.answer.Answer.{Answer}
use Rattle.pss_machine.specs.declared.answer.Answer.TheVariants as answer
use Rattle.pss_machine.specs.Operations.{Follow, PlainOp, Create, Ask}
use Rattle.pss_machine.specs.Owners.{Owner, Step, step_on_view, view}
use Rattle.pss_machine.specs.Kept.{Kept, Title}
use Rattle.pss_machine.specs.Allowed.{TakesNext}
use Rattle.owner_view.specs.Fitting.{FitsOp}
use Rattle.tx_session.specs.Following.{RefersTo}
use Rattle.owner_accounts.specs.declared.accounts.Accounts.{Accounts}
use Rattle.owner_accounts.specs.Accounts.{AreAccounts}
use Rattle.owner_accounts.specs.Reached.{IsReached}

-- an owner that is there, of accounts that the machine may come to
pub record IsOwner (S : Schema) (a : Accounts) (n : OwnerNo) : Type 0 where
  pub limits : Limits
  pub kept : Kept
  pub reached : IsReached S limits kept
  pub are : AreAccounts S a kept
  pub owner : Owner
  pub there : get kept.owners n.0 ≡ Some owner

-- an owner that is there, of accounts that some machine keeps
pub record IsThere (S : Schema) (a : Accounts) (n : OwnerNo) : Type 0 where
  pub kept : Kept
  pub are : AreAccounts S a kept
  pub owner : Owner
  pub there : get kept.owners n.0 ≡ Some owner

-- one command more of the owner can be counted
abbrev pub HasCommands : Kept → OwnerNo → Type 0
HasCommands k n = (title : Title) → get k.titles n.0 ≡ Some title → title.commands < 2 ^ 32 - 1

-- a command that needs no lock and changes nothing may be counted
pub record MayCount (S : Schema) (a : Accounts) (n : OwnerNo) : Type 0 where
  pub by : IsOwner S a n
  pub commands : HasCommands by.kept n

-- a serial is left for an object that is made
abbrev pub HasSerial : ℕ → PlainOp → Type 0
HasSerial next (Create serial object) = next < 2 ^ 64 - 1
HasSerial next _ = Unit {0}

-- it may take the step of an operation
pub record MayStep (S : Schema) (a : Accounts) (n : OwnerNo) (op : PlainOp) : Type 0 where
  pub by : IsOwner S a n
  pub fits : FitsOp S op
  pub serial : TakesNext by.kept.next op
  pub serials : HasSerial by.kept.next op
  pub commands : HasCommands by.kept n

-- the step on what the owner sees
abbrev pub step_in : {S : Schema} {a : Accounts} {n : OwnerNo} {op : PlainOp} → MayStep S a n op → Step
step_in {S = S} {op = op} m = step_on_view S m.by.kept.catalog m.by.owner op

-- it may follow a member of the object, which refers to this one, or to none, in what it sees
pub record MayFollow (S : Schema) (a : Accounts) (n : OwnerNo) (p : Pid) (to : Option Pid) : Type 0 where
  pub member : ℕ
  pub step : MayStep S a n (Ask (Follow p member))
  pub refers : RefersTo (view step.by.kept.catalog step.by.owner) p member to

-- the owner that an operation was held up by
abbrev pub busy_by : Answer → Option OwnerNo
busy_by (answer.Busy n) = Some n
busy_by _ = None
