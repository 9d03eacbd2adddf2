use Rattle.std.proofs.Common.{refl}
use Rattle.pss_machine.specs.Operations.{Done}
use Rattle.data_calls.proofs.Outdating.{homes_reached, left_here}
use Rattle.data_calls.proofs.leaving.write.Goals as goal

pub returns : goal.returns
returns g c m =
    left_here m.left.schema m.left.limits m.left.kept c.args.acting m.left.asked Done c.args.parts.now _ m.left.taken refl refl refl
    (c.write.ensures m.left.kept m.left.taken.step.step (c.in_ok-values.ensures m) (homes_reached m.left.schema m.left.limits m.left.kept m.left.taken.step.reached) m.left.taken.attended)
