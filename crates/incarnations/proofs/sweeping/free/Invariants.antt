use Rattle.std.proofs.Common.{◌≡◌, ◌+◌, ◌*◌}
use Rattle.incarnations.proofs.Freed.{IsFreed}
use Rattle.incarnations.proofs.sweeping.free.Given as goal

abbrev pub invariant-loop : goal.invariant-loop
invariant-loop g l = record { freed : IsFreed l.fn.stock l.fn.session l.stock l.home.col l.counter; steps : l.steps ≡ l.fn.steps + 2 * l.counter }
