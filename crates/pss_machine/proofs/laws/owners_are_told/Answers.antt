use Rattle.pss_machine.proofs.Telling.{always_told}
use Rattle.pss_machine.proofs.Parting.{always_apart}
use Rattle.pss_machine.proofs.laws.owners_are_told.Goals as goal

pub returns-clause-told : goal.returns-clause-told
returns-clause-told c = always_told

pub returns-clause-apart : goal.returns-clause-apart
returns-clause-apart c = always_apart
