use Rattle.pss_machine.proofs.Orderly as orderly
use Rattle.pss_machine.proofs.laws.entries_are_orderly.Goals as goal

pub returns : goal.returns
returns c = orderly.entries_are_orderly
