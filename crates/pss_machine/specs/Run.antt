-- The machine's turns, and its runs over the lines of a script.
use Rattle.std.specs.Prelude.{ℕ, List, [], ◌∷◌, ◌++◌, Option, Some, None, option_to_list}
use Rattle.type_layout.specs.declared.schema.Schema.{Schema}
use Rattle.pss_catalog.specs.Catalog.{Catalog}
use Rattle.pss_base.specs.declared.lines.LineStep.{LineStep}
use Rattle.pss_base.specs.declared.lines.LineStep.TheVariants as line
use Rattle.pss_machine.specs.declared.limits.Limits.{Limits}
use Rattle.pss_machine.specs.declared.command.Command.{Command}
use Rattle.pss_machine.specs.declared.reply.Reply.{Reply}
use Rattle.pss_machine.specs.declared.reply.Reply.TheVariants as reply
use Rattle.pss_machine.specs.Kept.{Kept, first_kept}
use Rattle.pss_machine.specs.Effects.{Effect}
use Rattle.pss_machine.specs.Deciding.{decision}
use Rattle.pss_machine.specs.Moving.{moved}
use Rattle.pss_machine.specs.Beside.{Lists, no_lists, grown}

-- what a line says: nothing that has a reply, a command, or none from a column on
pub data Said : Type 0 where
  Silent : Said
  Says : (command : Command) → Said
  Wrong : (column : ℕ) → Said

-- what a line says that a reader of lines tells of, by what its text says. A line too long is wrong at its first byte too many
abbrev pub said_by : (List ℕ → Said) → LineStep → Said
said_by meaning (line.Line text) = meaning text
said_by meaning line.TooLong = Wrong 65537
said_by meaning line.End = Silent
said_by meaning line.Limit = Silent
said_by meaning line.ReadFault = Silent
said_by meaning line.NoMemory = Silent

-- what is kept, and what grows beside it
pub record Machine : Type 0 where
  pub kept : Kept
  pub lists : Lists

-- where a run begins
abbrev pub first : Catalog → ℕ → Machine
first M next = record { kept = first_kept M next; lists = no_lists }

abbrev pub after : Machine → Effect → Machine
after q effect = record { kept = moved q.kept effect; lists = grown q.kept q.lists effect }

-- the machine after a line
abbrev pub turn : Schema → Limits → Machine → Said → Machine
turn S limits q Silent = q
turn S limits q (Wrong column) = q
turn S limits q (Says command) = after q (decision S limits q.kept command).effect

-- what is replied to a line, by what is kept alone
abbrev pub reply_of : Schema → Limits → Kept → Said → Option Reply
reply_of S limits k Silent = None
reply_of S limits k (Wrong column) = Some (reply.Err column)
reply_of S limits k (Says command) = Some (decision S limits k command).reply

-- the machine after lines
abbrev pub run : Schema → Limits → Machine → List Said → Machine
run S limits q [] = q
run S limits q (x ∷ xs) = run S limits (turn S limits q x) xs

-- the replies to lines, in order
abbrev pub replies : Schema → Limits → Machine → List Said → List Reply
replies S limits q [] = []
replies S limits q (x ∷ xs) = option_to_list (reply_of S limits q.kept x) ++ replies S limits (turn S limits q x) xs
