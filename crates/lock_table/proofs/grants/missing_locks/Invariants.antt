use Rattle.lock_table.specs.inner.Nodes.{held_in}
use Rattle.lock_table.proofs.Missing.{Gathered}
use Rattle.lock_table.proofs.grants.missing_locks.Given as goal

abbrev pub invariant-loop-need : goal.invariant-loop-need
invariant-loop-need l = Gathered (held_in l.links.pool) l.owner l.first.need.now l.second.need.now l.second.behind.now l.need-index l.locks.items
