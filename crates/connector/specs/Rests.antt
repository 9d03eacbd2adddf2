-- The rests of lines that commands have.
use Rattle.std.specs.Prelude.{◌+◌, ◌≤◌, length}
use Rattle.pss_machine.specs.declared.command.Rest.{Rest}
use Rattle.pss_machine.specs.declared.command.Command.{Command}
use Rattle.pss_machine.specs.declared.command.Command.TheVariants as command

-- it ends within a line of 65,536 octets
abbrev pub IsInLine : Rest → Type 0
IsInLine rest = rest.column + length rest.text ≤ 65537

-- so does that of the command, where it has one
abbrev pub HasShortRest : Command → Type 0
HasShortRest (command.Create name home values) = IsInLine values
HasShortRest (command.Make name home factory values) = IsInLine values
HasShortRest (command.Find name home key values) = IsInLine values
HasShortRest (command.FindRef name home key values) = IsInLine values
HasShortRest (command.Set name n member value) = IsInLine value
HasShortRest _ = Unit {0}
