use Rattle.std.proofs.Common.{arith}
use Rattle.pss_recovery.proofs.summing.fits_with.Goals as goal

pub overflow_add-sum : goal.overflow_add-sum
overflow_add-sum c = omega (arith, c.if-sum-gt-GREATEST_TOTAL.false, c.put_weight-sum.ensures.few)
