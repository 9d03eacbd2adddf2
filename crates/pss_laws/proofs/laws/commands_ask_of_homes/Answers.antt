use Rattle.pss_laws.proofs.Asking.{asks_of_homes}
use Rattle.pss_laws.proofs.laws.commands_ask_of_homes.Goals as goal

pub returns : goal.returns
returns c = λ S sound limits k command. asks_of_homes S limits k sound command
