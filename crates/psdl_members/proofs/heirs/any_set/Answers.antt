use Rattle.std.proofs.Common.{◌∙◌, false, sym, arith}
use Rattle.psdl_members.proofs.Telling.{none_set, set_further, set_here, none_set_all}
use Rattle.psdl_members.proofs.heirs.any_set.Goals as goal

pub loop-number-init : goal.loop-number-init
loop-number-init c = none_set c.args.flags.now c.args.numbers.now

pub loop-number-preserved : goal.loop-number-preserved
loop-number-preserved c = set_further c.args.flags.now c.args.numbers.now c.loop-number.number-index c.loop-number-test.true c.loop-number.invariant (sym c.is_set.ensures ∙ c.if-is_set.false)

pub returns-then-is_set : goal.returns-then-is_set
returns-then-is_set c = set_here c.args.flags.now c.args.numbers.now c.loop-number.number-index c.loop-number-test.true (sym c.is_set.ensures ∙ c.if-is_set.true)

pub returns : goal.returns
returns c = none_set_all c.args.flags.now c.args.numbers.now c.loop-number.number-index (omega (arith, c.loop-number-test.false)) c.loop-number.invariant
