use Rattle.std.proofs.Common.{arith}
use Rattle.psdl_members.proofs.Ordering.{none_yet, one_lower, all_lower}
use Rattle.psdl_members.proofs.in_order.are_in_front.Goals as goal

pub loop-named-init : goal.loop-named-init
loop-named-init c p h = absurd (none_yet c.args.numbers.now p h)

pub loop-named-preserved : goal.loop-named-preserved
loop-named-preserved c = one_lower c.args.numbers.now c.loop-named.named-index c.args.number c.loop-named-test.true (omega (arith, c.if-named-number.false)) c.loop-named.invariant

pub returns : goal.returns
returns c on = all_lower c.args.numbers.now c.loop-named.named-index c.args.number (omega (arith, c.loop-named-test.false)) c.loop-named.invariant
