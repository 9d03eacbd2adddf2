use Rattle.std.proofs.Common.{length}
use Rattle.link_pool.specs.Rings.{list_in}
use Rattle.lock_table.specs.inner.Nodes.{is_own}
use Rattle.lock_table.specs.inner.Walks.{ahead}
use Rattle.lock_table.proofs.Walking.{Searches}
use Rattle.lock_table.proofs.walks.is_in_row.Given as goal

abbrev pub invariant-loop-next : goal.invariant-loop-next
invariant-loop-next l = Searches l.fn.pool l.fn.row (is_own l.fn.owner l.fn.mode) l.next

abbrev pub decreases-loop-next : goal.decreases-loop-next
decreases-loop-next l = length (ahead l.next (list_in l.fn.pool.rows l.fn.row))
