use Rattle.std.proofs.Common.{length}
use Rattle.link_pool.specs.Rings.{list_in}
use Rattle.lock_table.specs.inner.Nodes.{is_against}
use Rattle.lock_table.specs.inner.Walks.{ahead}
use Rattle.lock_table.proofs.Walking.{Gathers}
use Rattle.lock_table.proofs.walks.least_against.Given as goal

abbrev pub invariant-loop-next : goal.invariant-loop-next
invariant-loop-next l = Gathers l.fn.pool l.fn.row (is_against l.fn.owner l.fn.mode) l.least l.next

abbrev pub decreases-loop-next : goal.decreases-loop-next
decreases-loop-next l = length (ahead l.next (list_in l.fn.pool.rows l.fn.row))
