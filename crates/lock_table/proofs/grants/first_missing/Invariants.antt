use Rattle.std.proofs.Common.{◌≡◌, length}
use Rattle.lock_table.specs.inner.Nodes.{held_in, missing}
use Rattle.lock_table.proofs.grants.first_missing.Given as goal

abbrev pub invariant-loop-need : goal.invariant-loop-need
invariant-loop-need l = missing (held_in l.links.pool) l.owner l.left ≡ missing (held_in l.links.pool) l.owner l.needs

abbrev pub decreases-loop-need : goal.decreases-loop-need
decreases-loop-need l = length l.left
