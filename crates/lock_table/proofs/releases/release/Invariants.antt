use Rattle.std.specs.FinSet as set
use Rattle.lock_table.specs.Locks.{held_by}
use Rattle.lock_table.specs.inner.Nodes.{held_in}
use Rattle.lock_table.proofs.Releasing.{Releases}
use Rattle.lock_table.proofs.releases.release.Given as goal

abbrev pub invariant-loop : goal.invariant-loop
invariant-loop g l = Releases l.fn.links l.links l.owner l.col l.fn.steps l.steps

abbrev pub decreases-loop : goal.decreases-loop
decreases-loop g l = set.len (held_by (held_in l.links.pool) l.owner)
