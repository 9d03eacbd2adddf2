-- How a connector goes on by what lines say.
use Rattle.std.specs.Prelude.{ℕ, ◌≡◌, ◌≤◌, ◌<◌, ◌+◌, ◌-◌, ◌^◌, Bool, true, false, List}
use Rattle.std.specs.declared.option.Option.{Option}
use Rattle.pss_disk.specs.Moments.{Disk}
use Rattle.pss_base.specs.declared.lines.LineStep.{LineStep}
use Rattle.pss_machine.specs.declared.command.Command.TheVariants as command
use Rattle.pss_machine.specs.Kept.{Kept}
use Rattle.pss_machine.specs.Run.{Said, Says, reply_of}
use Rattle.connector.specs.declared.connector.Connector.{Connector}
use Rattle.connector.specs.Keeping.{Keeps, AnyKept, schema_of, limits_of, store_of, performed_by, is_live}
use Rattle.script_service.specs.declared.daemon.Daemon.{Daemon}
use Rattle.script_service.specs.Turns.{Running, kept_after, spoken_for, told_by}
use Rattle.script_service.specs.Keeping.{IsHeld}

-- it may perform a command
pub record IsReady (c : Connector) : Type 0 where
  pub live : is_live c ≡ true
  pub kept : AnyKept c
  pub left : performed_by c < 2 ^ 32 - 1

-- it keeps what the machine keeps after what a line says, and has performed one command more at most
pub record Goes (told : Said) (old new : Connector) : Type 0 where
  pub live : is_live new ≡ true
  pub schema : schema_of new ≡ schema_of old
  pub limits : limits_of new ≡ limits_of old
  pub performed : performed_by new ≤ performed_by old + 1
  pub kept : (k : Kept) → Keeps old k → Keeps new (kept_after (schema_of old) (limits_of old) k told)

-- it keeps this, and has performed no more commands than lines were served
pub record Serves (c : Connector) (served : ℕ) (state : Running) : Type 0 where
  pub live : is_live c ≡ true
  pub schema : schema_of c ≡ state.schema
  pub limits : limits_of c ≡ state.limits
  pub kept : Keeps c state.kept
  pub few : performed_by c ≤ served

-- ---- the daemon

abbrev pub connector_of : Daemon → Connector
connector_of daemon = daemon.connector

-- how many lines it has served
abbrev pub served_by : Daemon → ℕ
served_by daemon = daemon.served

-- it is in this state, over a disk with this content that may leave this after a crash
pub record IsIn (daemon : Daemon) (state : Running) (content : Option (List ℕ)) (disk : Option Disk) : Type 0 where
  pub serves : Serves (connector_of daemon) (served_by daemon) state
  pub held : IsHeld state (store_of (connector_of daemon)) content disk

-- ---- a get that is told at once

-- the get of these words was performed, and this is the line of its reply
pub record PrintsGet (s : List ℕ) (n : ℕ) (member : List ℕ) (old new : Connector) (line : List ℕ) : Type 0 where
  pub goes : Goes (Says (command.Get s n member)) old new
  pub store : store_of new ≡ store_of old
  pub line_is : (k : Kept) → Keeps old k → line ≡ spoken_for (reply_of (schema_of old) (limits_of old) k (Says (command.Get s n member)))

-- or the connector is as before
abbrev pub IsGetPrinted : List ℕ → ℕ → List ℕ → (old new : Connector) → Bool → List ℕ → Type 0
IsGetPrinted s n member old new true line = PrintsGet s n member old new line
IsGetPrinted s n member old new false line = new ≡ old

-- the line of a script says a get that was performed, and this is that of its reply
pub record PrintsReply (step : LineStep) (old new : Connector) (line : List ℕ) : Type 0 where
  pub s : List ℕ
  pub n : ℕ
  pub member : List ℕ
  pub says : told_by step ≡ Says (command.Get s n member)
  pub prints : PrintsGet s n member old new line

abbrev pub IsReplyPrinted : LineStep → (old new : Connector) → Bool → List ℕ → Type 0
IsReplyPrinted step old new true line = PrintsReply step old new line
IsReplyPrinted step old new false line = new ≡ old
