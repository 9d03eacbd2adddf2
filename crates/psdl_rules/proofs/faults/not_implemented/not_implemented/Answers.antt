use Rattle.std.proofs.Common.{◌<◌, length, arith}
use Rattle.psdl_rules.specs.Faults.NotImplemented.{not_implemented}
use Rattle.psdl_rules.specs.Texts.{judged}
use Rattle.psdl_rules.proofs.Passing.{more}
use Rattle.psdl_rules.proofs.faults.not_implemented.not_implemented.Goals as goal

pub loop-index-preserved : goal.loop-index-preserved
loop-index-preserved c =
    let all = judged c.args.text.now in
    let lt : c.loop-index.index < length all = omega (arith, c.loop-index-test.true, c.len-index-end.ensures) in
    record {
      same = c.not_implemented_at.ensures.same;
      passed = more (not_implemented all) all c.loop-index.index c.args.least.now c.loop-index.least c.not_implemented_at.new.least lt c.loop-index.invariant.passed (rw c.new-number.ensures at c.in_ok-not_implemented_at.ensures.noted);
    }
