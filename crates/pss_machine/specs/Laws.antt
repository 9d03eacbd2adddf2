-- Laws of the machine.
use Rattle.std.specs.Prelude.{◌≡◌, IsTrue, Bool, true, false, List, ◌++◌}
use Rattle.pss_machine.specs.Run.{Said, Machine, run}
use Rattle.type_layout.specs.declared.schema.Schema.{Schema}
use Rattle.pss_machine.specs.declared.limits.Limits.{Limits}
use Rattle.pss_machine.specs.declared.command.Command.{Command}
use Rattle.pss_machine.specs.declared.reply.Reply.{Reply}
use Rattle.pss_machine.specs.declared.reply.Reply.TheVariants as reply
use Rattle.std.specs.Prelude.{ℕ, Some}
use Rattle.std.specs.FinMap.{get}
use Rattle.pss_machine.specs.Owners.{Owner, Owners}
use Rattle.pss_machine.specs.Kept.{Kept}
use Rattle.pss_machine.specs.Deciding.{decision}
use Rattle.pss_machine.specs.Moving.{moved}

-- the reply says that the command was refused before the catalog was asked, or that a commit has no room
abbrev pub is_refusal : Reply → Bool
is_refusal (reply.Err column) = true
is_refusal reply.NoSession = true
is_refusal reply.NoTransaction = true
is_refusal reply.Exists = true
is_refusal reply.Sessions = true
is_refusal reply.Transactions = true
is_refusal reply.Kind = true
is_refusal reply.NoTx = true
is_refusal (reply.Assoc name) = true
is_refusal (reply.StillOpen name) = true
is_refusal reply.NoEntry = true
is_refusal reply.NoHome = true
is_refusal reply.NoKey = true
is_refusal reply.NoFactory = true
is_refusal reply.NoMember = true
is_refusal reply.NotRef = true
is_refusal (reply.BadValue column) = true
is_refusal reply.ReadOnly = true
is_refusal reply.Many = true
is_refusal reply.Serials = true
is_refusal reply.Entries = true
is_refusal (reply.Busy name) = true
is_refusal reply.Full = true
is_refusal _ = false

abbrev pub RefusalsChangeNothing : Type 0
RefusalsChangeNothing =
    (S : Schema) (limits : Limits) (k : Kept) (command : Command) → IsTrue (is_refusal (decision S limits k command).reply) → moved k (decision S limits k command).effect ≡ k

-- a run over lines and further lines is one over the further lines from where the first ones lead
abbrev pub RunsGoOn : Type 0
RunsGoOn = (S : Schema) (limits : Limits) (q : Machine) (xs ys : List Said) → run S limits q (xs ++ ys) ≡ run S limits (run S limits q xs) ys

-- the reply says what the catalog did not grant
abbrev pub is_fruitless : Reply → Bool
is_fruitless reply.NotFound = true
is_fruitless (reply.Gone pid) = true
is_fruitless reply.Nil = true
is_fruitless (reply.Duplicate key) = true
is_fruitless reply.TooLarge = true
is_fruitless _ = false

-- the owner is there as before but for its locks
pub record HasOnlyLocked (owners : Owners) (n : ℕ) (owner : Owner) : Type 0 where
  pub now : Owner
  pub there : get owners n ≡ Some now
  pub level : now.level ≡ owner.level
  pub changes : now.changes ≡ owner.changes

-- no object, session or entry is otherwise than before, nor what any owner has changed
pub record ChangesNoObject (old new : Kept) : Type 0 where
  pub catalog : new.catalog ≡ old.catalog
  pub sessions : new.sessions ≡ old.sessions
  pub copies : new.copies ≡ old.copies
  pub owners : (n : ℕ) (owner : Owner) → get old.owners n ≡ Some owner → HasOnlyLocked new.owners n owner

-- what was not granted changes no object
abbrev pub FruitlessChangesNoObject : Type 0
FruitlessChangesNoObject =
    (S : Schema) (limits : Limits) (k : Kept) (command : Command) → IsTrue (is_fruitless (decision S limits k command).reply) → ChangesNoObject k (moved k (decision S limits k command).effect)
