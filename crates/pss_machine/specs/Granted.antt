-- What comes of a command that the catalog does not grant.
use Rattle.std.specs.Prelude.{ℕ, ◌≡◌, IsTrue, List, Some, None}
use Rattle.std.specs.FinMap.{get}
use Rattle.std.specs.FinSet as set
use Rattle.pss_base.specs.declared.owner.OwnerNo.{OwnerNo}
use Rattle.pss_base.specs.declared.session.SessionNo.{SessionNo}
use Rattle.type_layout.specs.declared.schema.Schema.{Schema}
use Rattle.pss_machine.specs.declared.limits.Limits.{Limits}
use Rattle.pss_machine.specs.declared.command.Command.{Command}
use Rattle.pss_machine.specs.declared.command.Command.TheVariants as command
use Rattle.pss_machine.specs.declared.reply.Reply.TheVariants as reply
use Rattle.pss_machine.specs.declared.lock.Need.{Need}
use Rattle.pss_machine.specs.Maps.{with_at}
use Rattle.pss_machine.specs.Commands.{data_session}
use Rattle.pss_machine.specs.Owners.{Owner, blocker, Step}
use Rattle.pss_machine.specs.Sessions.{Session, session_named, acts_for}
use Rattle.pss_machine.specs.Kept.{Kept}
use Rattle.pss_machine.specs.Deciding.{decision}
use Rattle.pss_machine.specs.Moving.{moved, next_after, one_more}
use Rattle.pss_machine.specs.Allowed.{TakesNext, IsStepOf}
use Rattle.pss_machine.specs.Laws.{is_fruitless}

-- an owner that has locked more, and changed what it had
abbrev pub with_locks : List Need → Owner → Owner
with_locks wanted owner = record { level = owner.level; locks = set.union owner.locks (set.from_list wanted); changes = owner.changes }

-- the owner keeps what the command needed as locks and has done one more, a create has used its serial, and all else is as before
abbrev pub with_nothing_but_locks : Kept → OwnerNo → Step → Kept
with_nothing_but_locks k n step = record k {
  next = next_after k.next step.op;
  owners = with_at k.owners n.0 (with_locks step.needs);
  titles = with_at k.titles n.0 one_more;
}

-- the owner for which the command's session acts took a step, whose locks it was free to take, and that is all that came of it
pub record OnlyLocked (S : Schema) (k : Kept) (command : Command) (new : Kept) : Type 0 where
  pub name : List ℕ
  pub number : SessionNo
  pub session : Session
  pub in_session : data_session command ≡ Some name
  pub named : session_named k.sessions name ≡ Some (number.0, session)
  pub n : OwnerNo
  pub acts : acts_for session ≡ Some n
  pub owner : Owner
  pub there : get k.owners n.0 ≡ Some owner
  pub step : Step
  pub taken : IsStepOf S k.catalog owner step
  pub free : blocker k.owners n step.needs ≡ None
  pub serial : TakesNext k.next step.op
  pub after : new ≡ with_nothing_but_locks k n step

-- so it is of every command that is replied so
abbrev pub FruitlessKeepsLocks : Type 0
FruitlessKeepsLocks = (S : Schema) (limits : Limits) (k : Kept) (command : Command) → IsTrue (is_fruitless (decision S limits k command).reply) → OnlyLocked S k command (moved k (decision S limits k command).effect)

-- a commit that is replied so does what a rollback does
abbrev pub MarkedIsRolledBack : Type 0
MarkedIsRolledBack =
    (S : Schema) (limits : Limits) (k : Kept) (t : List ℕ) → (decision S limits k (command.Commit t)).reply ≡ reply.RolledBack → (decision S limits k (command.Commit t)).effect ≡ (decision S limits k (command.Rollback t)).effect
