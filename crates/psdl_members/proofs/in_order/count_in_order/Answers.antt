use Rattle.std.proofs.Common.{arith}
use Rattle.psdl_members.proofs.Ordering.{order_first, order_more, all_in_order}
use Rattle.psdl_members.proofs.in_order.count_in_order.Goals as goal

pub loop-number-init : goal.loop-number-init
loop-number-init c = order_first c.args.graph.now

pub loop-number-preserved : goal.loop-number-preserved
loop-number-preserved c =
    order_more c.args.graph.now c.loop-number.number (omega (arith, c.loop-number-test.true, c.len-number-end.ensures)) c.loop-number.invariant
    (rw c.parents.ensures.parents at (c.are_in_front.ensures c.if-not-are_in_front.false))

pub returns : goal.returns
returns c = all_in_order c.args.graph.now c.loop-number.number c.len.result (omega (arith, c.loop-number-test.false, c.len-number-end.ensures)) c.len.ensures c.loop-number.invariant
