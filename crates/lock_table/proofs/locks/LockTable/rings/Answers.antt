use Rattle.std.proofs.Common.{subst}
use Rattle.lock_table.specs.Standing.{AreLocks}
use Rattle.lock_table.proofs.Telling.{whole_locks}
use Rattle.lock_table.proofs.locks.LockTable.rings.Goals as goal

pub returns : goal.returns
returns c = subst (λ h. AreLocks h c.self.inside.links.pool) c.self.view_is (whole_locks c.self.inside.links c.self.invariant)
