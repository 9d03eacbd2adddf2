use Rattle.std.proofs.Common.{◌≡◌, ◌+◌, drop}
use Rattle.pss_recovery.specs.inner.Sums.{new_weights}
use Rattle.pss_recovery.proofs.summing.fits_with.Given as goal

abbrev pub invariant-loop-change : goal.invariant-loop-change
invariant-loop-change l = l.sum + new_weights (drop l.change-index l.changes) ≡ l.left + new_weights l.changes
