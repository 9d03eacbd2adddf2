use Rattle.std.proofs.Common.{◌≡◌, take}
use Rattle.lock_table.specs.Locks.{blocker}
use Rattle.lock_table.specs.inner.Nodes.{held_in}
use Rattle.lock_table.proofs.asks.blocker_of.Given as goal

abbrev pub invariant-loop-need : goal.invariant-loop-need
invariant-loop-need l = l.least ≡ blocker (held_in l.links.pool) l.owner (take l.need-index l.needs)
