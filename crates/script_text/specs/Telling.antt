-- What the code tells of a line.
use Rattle.std.specs.Prelude.{ℕ, ◌≡◌, List, Option, Some, None, Result, Ok, Err}
use Rattle.pss_machine.specs.declared.command.Command.{Command}
use Rattle.pss_machine.specs.Run.{Said, Silent, Says, Wrong}
use Rattle.script_text.specs.declared.fault.CommandFault.{CommandFault}
use Rattle.script_text.specs.Spelling.{Reads}
use Rattle.script_text.specs.Meaning.{meaning}

-- it holds of this, and of nothing else
abbrev pub Exactly : (Said → Type 0) → Said → Type 0
Exactly P said = P said × ((other : Said) → P other → other ≡ said)

-- what was told of a line
abbrev pub Tells : (Said → Type 0) → Result (Option Command) CommandFault → Type 0
Tells P (Ok None) = P Silent
Tells P (Ok (Some c)) = P (Says c)
Tells P (Err fault) = P (Wrong fault.column)

-- each line says one thing
abbrev pub LinesSayOneThing : Type 0
LinesSayOneThing = (line : List ℕ) → Exactly (Reads line) (meaning line)
