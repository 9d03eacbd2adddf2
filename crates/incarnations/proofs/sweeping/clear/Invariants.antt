use Rattle.std.proofs.Common.{◌≡◌, ◌+◌, ◌*◌}
use Rattle.incarnations.proofs.Freed.{IsCleared}
use Rattle.incarnations.proofs.sweeping.clear.Given as goal

abbrev pub invariant-loop : goal.invariant-loop
invariant-loop g l = record { cleared : IsCleared l.fn.stock l.fn.name l.stock l.place.row l.counter; steps : l.steps ≡ l.fn.steps + 2 * l.counter }
