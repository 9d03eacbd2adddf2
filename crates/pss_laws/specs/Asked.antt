-- What commands ask for.
use Rattle.type_layout.specs.declared.schema.Schema.{Schema}
use Rattle.type_layout.specs.Sound.{IsSoundSchema}
use Rattle.pss_machine.specs.declared.limits.Limits.{Limits}
use Rattle.pss_machine.specs.declared.command.Command.{Command}
use Rattle.pss_machine.specs.Kept.{Kept}
use Rattle.pss_machine.specs.Effects.{Effect, Steps}
use Rattle.pss_machine.specs.Deciding.{decision}
use Rattle.pss_laws.specs.Operations.{AsksOfHomes}

-- a step counts and lists objects of homes that are there
abbrev pub StepsOfHomes : Schema → Effect → Type 0
StepsOfHomes S (Steps n s step asked) = AsksOfHomes S asked.op
StepsOfHomes S _ = Unit {0}

-- so do all commands under a sound schema
abbrev pub CommandsAskOfHomes : Type 0
CommandsAskOfHomes = (S : Schema) → IsSoundSchema S → (limits : Limits) (k : Kept) (command : Command) → StepsOfHomes S (decision S limits k command).effect
