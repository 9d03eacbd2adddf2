use Rattle.std.proofs.Common.{◌≡◌, ◌+◌, drop}
use Rattle.pss_catalog.specs.Catalog.{total}
use Rattle.storage_home.specs.Kept.{Keeping}
use Rattle.pss_recovery.specs.inner.Sums.{old_weights}
use Rattle.pss_recovery.proofs.summing.weight_left.Given as goal

abbrev pub invariant-loop-change : goal.invariant-loop-change
invariant-loop-change l = Keeping l.homes (λ S M. l.left + old_weights S M l.changes ≡ total S M + old_weights S M (drop l.change-index l.changes))
