use Rattle.pss_machine.proofs.Refusing.{decision_calm}
use Rattle.pss_machine.proofs.Fruitless.{fruitless_changes}
use Rattle.pss_machine.proofs.Granting.{fruitless_keeps, marked_back}
use Rattle.pss_machine.proofs.laws.refusals_change_nothing.Goals as goal

pub returns-clause-refused : goal.returns-clause-refused
returns-clause-refused c = decision_calm

pub returns-clause-fruitless : goal.returns-clause-fruitless
returns-clause-fruitless c = fruitless_changes

pub returns-clause-locked : goal.returns-clause-locked
returns-clause-locked c = fruitless_keeps

pub returns-clause-marked : goal.returns-clause-marked
returns-clause-marked c = marked_back
