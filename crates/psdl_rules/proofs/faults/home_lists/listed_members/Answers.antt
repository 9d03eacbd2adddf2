use Rattle.std.proofs.Common.{◌<◌, length, arith, subst, sym}
use Rattle.psdl_lineage.specs.Sources.{Inheritance}
use Rattle.psdl_standings.specs.Standings.{standings}
use Rattle.psdl_standings.specs.Texts.{text_of}
use Rattle.psdl_rules.specs.Faults.{listed_wrong}
use Rattle.psdl_rules.specs.Texts.{judged}
use Rattle.psdl_rules.specs.inner.Typed.{HaveMembers}
use Rattle.psdl_rules.proofs.Passing.{more}
use Rattle.psdl_rules.proofs.faults.home_lists.listed_members.Goals as goal

pub loop-index-preserved : goal.loop-index-preserved
loop-index-preserved c =
    let all = judged c.args.text.now in
    let lt : c.loop-index.index < length all = omega (arith, c.loop-index-test.true, c.len-index-end.ensures) in
    record {
      sources = subst (λ (s : Inheritance). HaveMembers (text_of c.args.standings.now) s) (sym c.listed_at.ensures.same) c.loop-index.invariant.sources;
      passed = more (listed_wrong all (standings all)) all c.loop-index.index c.args.least.now c.loop-index.least c.listed_at.new.least lt c.loop-index.invariant.passed (rw c.new-number.ensures at c.in_ok-listed_at.ensures.noted);
    }
