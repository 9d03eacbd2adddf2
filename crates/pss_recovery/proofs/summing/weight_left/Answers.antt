use Rattle.std.proofs.Common.{arith}
use Rattle.pss_recovery.proofs.Totals.{old_below, old_there}
use Rattle.pss_recovery.proofs.summing.weight_left.Goals as goal

pub overflow_sub-left : goal.overflow_sub-left
overflow_sub-left c =
    let S = c.requires.kept.0 in
    let M = c.requires.kept.1 in
    let kept = c.requires.kept.2 in
    omega (arith, c.loop-change.invariant S M kept, old_there c.args.changes.now c.loop-change.change-index c.change-item.result c.loop-change-test.true c.change-item.is S M, old_below S M 0 c.args.changes.now c.requires.rise, c.weight_at-left.ensures S M kept)

pub loop-change-preserved : goal.loop-change-preserved
loop-change-preserved c = λ S M kept.
    omega (arith, c.loop-change.invariant S M kept, old_there c.args.changes.now c.loop-change.change-index c.change-item.result c.loop-change-test.true c.change-item.is S M, old_below S M 0 c.args.changes.now c.requires.rise, c.weight_at-left.ensures S M kept)
