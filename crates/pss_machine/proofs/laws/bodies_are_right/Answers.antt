use Rattle.pss_machine.proofs.Distinct.{bodies_right}
use Rattle.pss_machine.proofs.laws.bodies_are_right.Goals as goal

pub returns : goal.returns
returns c = bodies_right
