use Rattle.pss_machine.proofs.Allowing.{decision_right, step_is}
use Rattle.pss_machine.proofs.laws.effects_are_allowed.Goals as goal

pub returns-clause-allowed : goal.returns-clause-allowed
returns-clause-allowed c = decision_right

pub returns-clause-steps : goal.returns-clause-steps
returns-clause-steps c = step_is
