-- In which session commands are done, which entry they name, and whether they obtain an object.
use Rattle.std.specs.Prelude.{ℕ, List, Option, Some, None, Bool, true, false}
use Rattle.pss_machine.specs.declared.command.Command.{Command}
use Rattle.pss_machine.specs.declared.command.Command.TheVariants as command

-- the name of the session in which a data command is done
abbrev pub data_session : Command → Option (List ℕ)
data_session (command.Create name home values) = Some name
data_session (command.Make name home factory values) = Some name
data_session (command.Find name home key values) = Some name
data_session (command.FindRef name home key values) = Some name
data_session (command.Pid name pid) = Some name
data_session (command.Short name home serial) = Some name
data_session (command.Exists name n) = Some name
data_session (command.Get name n member) = Some name
data_session (command.Set name n member value) = Some name
data_session (command.Destroy name n) = Some name
data_session (command.Follow name n member) = Some name
data_session (command.Count name home) = Some name
data_session (command.List name home) = Some name
data_session _ = None

-- the entry that a command names, and that it attaches where it succeeds
abbrev pub named_entry : Command → Option ℕ
named_entry (command.Get name n member) = Some n
named_entry (command.Set name n member value) = Some n
named_entry (command.Follow name n member) = Some n
named_entry _ = None

-- the session obtains the object that is found
abbrev pub is_obtaining : Command → Bool
is_obtaining (command.Create name home values) = true
is_obtaining (command.Make name home factory values) = true
is_obtaining (command.Find name home key values) = true
is_obtaining (command.Pid name pid) = true
is_obtaining (command.Short name home serial) = true
is_obtaining (command.Follow name n member) = true
is_obtaining _ = false
