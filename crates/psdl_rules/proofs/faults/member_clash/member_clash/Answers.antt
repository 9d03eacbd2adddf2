use Rattle.std.proofs.Common.{◌<◌, length, arith}
use Rattle.psdl_rules.specs.Faults.MemberClash.{member_clash}
use Rattle.psdl_rules.specs.Texts.{judged}
use Rattle.psdl_rules.proofs.Passing.{more}
use Rattle.psdl_rules.proofs.faults.member_clash.member_clash.Goals as goal

pub loop-index-preserved : goal.loop-index-preserved
loop-index-preserved c =
    let all = judged c.args.text.now in
    let lt : c.loop-index.index < length all = omega (arith, c.loop-index-test.true, c.len-index-end.ensures) in
    record {
      same = c.member_clash_at.ensures.same;
      passed = more (member_clash all) all c.loop-index.index c.args.least.now c.loop-index.least c.member_clash_at.new.least lt c.loop-index.invariant.passed (rw c.new-number.ensures at c.in_ok-member_clash_at.ensures.noted);
    }
