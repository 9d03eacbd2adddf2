use Rattle.std.proofs.Common.{◌<◌, length, arith}
use Rattle.psdl_rules.specs.Faults.HomeType.{home_type}
use Rattle.psdl_rules.specs.Texts.{judged}
use Rattle.psdl_rules.proofs.Passing.{more}
use Rattle.psdl_rules.proofs.faults.home_type.home_type.Goals as goal

pub loop-index-preserved : goal.loop-index-preserved
loop-index-preserved c =
    let all = judged c.args.text.now in
    let lt : c.loop-index.index < length all = omega (arith, c.loop-index-test.true, c.len-index-end.ensures) in
    record {
      same = c.home_type_at.ensures.same;
      passed = more (home_type all) all c.loop-index.index c.args.least.now c.loop-index.least c.home_type_at.new.least lt c.loop-index.invariant.passed (rw c.new-number.ensures at c.in_ok-home_type_at.ensures.noted);
    }
