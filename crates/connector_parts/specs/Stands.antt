-- What the parts stand for, and what a command makes of it.
use Rattle.std.specs.Prelude.{ℕ, ◌≡◌, ◌<◌, ◌-◌, ◌^◌}
use Rattle.pss_machine.specs.declared.command.Command.{Command}
use Rattle.pss_machine.specs.declared.reply.Reply.{Reply}
use Rattle.pss_machine.specs.Kept.{Kept}
use Rattle.pss_machine.specs.Deciding.{decision}
use Rattle.pss_machine.specs.Moving.{moved}
use Rattle.owner_accounts.specs.Accounts.{AreAccounts}
use Rattle.owner_accounts.specs.Reached.{IsReached}
use Rattle.pss_copies.specs.Seats.{Attends}
use Rattle.connector_parts.specs.declared.parts.Parts.{Parts}
use Rattle.connector_parts.specs.Few.{AreWithin, AreFew}

-- the objects and owners, and the sessions and entries, are those that the machine keeps
pub record Stands (c : Parts) (k : Kept) : Type 0 where
  pub accounts : AreAccounts c.schema c.accounts k
  pub attended : Attends k c.attended

-- a run of the machine has come to what the parts stand for, and one command more may be counted
pub record IsAt (c : Parts) (k : Kept) : Type 0 where
  pub reached : IsReached c.schema c.limits k
  pub limited : AreWithin c.limits
  pub stands : Stands c k
  pub performed : ℕ
  pub left : performed < 2 ^ 32 - 1
  pub few : AreFew performed k

-- some machine is
pub record AnyAt (c : Parts) : Type 0 where
  pub kept : Kept
  pub at : IsAt c kept

-- the schema and the limits
pub record StayAs (old new : Parts) : Type 0 where
  pub schema : new.schema ≡ old.schema
  pub limits : new.limits ≡ old.limits

-- the reply is the machine's, and the parts stand for what the machine then keeps, under the same schema and limits
pub record Comes (old : Parts) (k : Kept) (command : Command) (reply : Reply) (new : Parts) : Type 0 where
  pub reply_is : reply ≡ (decision old.schema old.limits k command).reply
  pub stay : StayAs old new
  pub stands : Stands new (moved k (decision old.schema old.limits k command).effect)
