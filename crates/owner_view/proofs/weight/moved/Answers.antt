use Rattle.std.proofs.Common.{arith}
use Rattle.owner_view.proofs.weight.moved.Goals as goal

pub overflow_sub-result : goal.overflow_sub-result
overflow_sub-result g c = omega (arith, c.old_weight.ensures c.requires.shows, c.requires.part c.requires.shows)

pub overflow_sub-result-in-There : goal.overflow_sub-result-in-There
overflow_sub-result-in-There g c = omega (arith, c.old_weight-in-There.ensures c.requires.shows, c.requires.part c.requires.shows)
