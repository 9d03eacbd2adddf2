use Rattle.std.proofs.Common.{◌≡◌, ◌+◌, length}
use Rattle.pss_catalog.proofs.table.order_of.Given as goal

abbrev pub invariant-loop : goal.invariant-loop
invariant-loop l = length l.order.items + 1 ≡ l.counter
