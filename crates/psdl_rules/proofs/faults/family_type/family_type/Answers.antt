use Rattle.std.proofs.Common.{◌<◌, length, arith}
use Rattle.psdl_rules.specs.Faults.FamilyType.{family_type}
use Rattle.psdl_rules.specs.Texts.{judged}
use Rattle.psdl_rules.proofs.Passing.{more}
use Rattle.psdl_rules.proofs.faults.family_type.family_type.Goals as goal

pub loop-index-preserved : goal.loop-index-preserved
loop-index-preserved c =
    let all = judged c.args.text.now in
    let lt : c.loop-index.index < length all = omega (arith, c.loop-index-test.true, c.len-index-end.ensures) in
    record {
      met = rw c.new.ensures at c.in_ok-family_type_at.ensures.met;
      passed = more (family_type all) all c.loop-index.index c.args.least.now c.loop-index.least c.family_type_at.new.least lt c.loop-index.invariant.passed (rw c.new.ensures at c.in_ok-family_type_at.ensures.noted);
    }
