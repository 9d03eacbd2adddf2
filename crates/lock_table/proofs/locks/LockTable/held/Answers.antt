use Rattle.std.proofs.Common.{sym, ap, ◌∙◌}
use Rattle.lock_table.specs.Locks.{lock_count}
use Rattle.lock_table.proofs.Counting.{count_nodes}
use Rattle.lock_table.proofs.locks.LockTable.held.Goals as goal

pub returns : goal.returns
returns c = c.self.invariant.linked.held ∙ sym (count_nodes c.self.inside.links.pool c.self.invariant.linked.once) ∙ ap lock_count c.self.view_is
