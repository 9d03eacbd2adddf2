use Rattle.std.proofs.Common.{◌≡◌, ◌+◌, ◌*◌}
use Rattle.incarnations.proofs.Swept.{IsSwept}
use Rattle.incarnations.proofs.sweeping.sweep.Given as goal

abbrev pub invariant-loop : goal.invariant-loop
invariant-loop g l = record { swept : IsSwept l.fn.stock l.fn.session l.fn.chosen l.end l.stock l.next l.counter; steps : l.steps ≡ l.fn.steps + (2 * l.counter + 1) }
