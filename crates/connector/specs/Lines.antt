-- Values that are told by a line.
use Rattle.std.specs.Prelude.{ℕ, ◌≡◌, ◌+◌, ◌++◌, List, length, drop, Bool, true, false}
use Rattle.pss_machine.specs.declared.command.Command.TheVariants as command
use Rattle.pss_machine.specs.declared.reply.Reply.TheVariants as reply
use Rattle.pss_machine.specs.Kept.{Kept}
use Rattle.pss_machine.specs.Deciding.{decision}
use Rattle.pss_machine.specs.Moving.{moved}
use Rattle.connector.specs.declared.connector.Connector.{Connector}
use Rattle.connector.specs.Keeping.{Keeps, schema_of, limits_of, performed_by, is_live}

-- what was added to a line
abbrev pub added : List ℕ → List ℕ → List ℕ
added old new = drop (length old) new

-- a value is the reply, its text was added to a line, and the connector keeps what is kept then
pub record Tells (c new : Connector) (s : List ℕ) (n : ℕ) (member : List ℕ) (before after : List ℕ) : Type 0 where
  pub reply_is : (k : Kept) → Keeps c k → reply.Val (added before after) ≡ (decision (schema_of c) (limits_of c) k (command.Get s n member)).reply
  pub grows : after ≡ before ++ added before after
  pub kept : (k : Kept) → Keeps c k → Keeps new (moved k (decision (schema_of c) (limits_of c) k (command.Get s n member)).effect)
  pub performed : performed_by new ≡ performed_by c + 1
  pub live : is_live new ≡ true
  pub schema : schema_of new ≡ schema_of c
  pub limits : limits_of new ≡ limits_of c

-- or all is as before
abbrev pub IsTold : (c new : Connector) → List ℕ → ℕ → List ℕ → Bool → (before after : List ℕ) → Type 0
IsTold c new s n member true before after = Tells c new s n member before after
IsTold c new s n member false before after = (new ≡ c) × (after ≡ before)
