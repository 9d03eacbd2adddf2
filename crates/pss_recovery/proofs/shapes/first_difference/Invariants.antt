use Rattle.std.proofs.Common.{◌-◌, length}
use Rattle.pss_recovery.specs.inner.Lines.{AgreeUpTo}
use Rattle.pss_recovery.proofs.shapes.first_difference.Given as goal

abbrev pub invariant-homes : goal.invariant-homes
invariant-homes l = AgreeUpTo l.shape l.other l.at l.home

abbrev pub decreases-homes : goal.decreases-homes
decreases-homes l = length l.shape - l.at
