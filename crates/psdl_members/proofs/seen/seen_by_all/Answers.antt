use Rattle.std.proofs.Common.{arith}
use Rattle.psdl_members.proofs.Sights.{none_of, seen_more, all_of}
use Rattle.psdl_members.proofs.seen.seen_by_all.Goals as goal

pub loop-number-init : goal.loop-number-init
loop-number-init c es some each = rw c.nothing-all.ensures (none_of es some c.args.numbers.now)

pub loop-number-preserved : goal.loop-number-preserved
loop-number-preserved c es some each =
    seen_more c.args.seen.now c.loop-number.all c.and-all.result c.seen_at.result es some c.args.numbers.now c.loop-number.number-index c.loop-number-test.true c.seen_at.ensures each (c.loop-number.invariant es some each) c.and-all.ensures

pub returns : goal.returns
returns c es some each = all_of c.loop-number.all es some c.args.numbers.now c.loop-number.number-index (omega (arith, c.loop-number-test.false)) (c.loop-number.invariant es some each)
