use Rattle.std.proofs.Common.{arith}
use Rattle.owner_view.proofs.number.moved.Goals as goal

pub overflow_sub-result : goal.overflow_sub-result
overflow_sub-result g c = omega (arith, c.committed_at.ensures c.requires.sees, c.requires.part c.requires.sees)

pub overflow_sub-result-in-There : goal.overflow_sub-result-in-There
overflow_sub-result-in-There g c = omega (arith, c.committed_at-in-There.ensures c.requires.sees, c.requires.part c.requires.sees)
