use Rattle.std.proofs.Common.{◌<◌, length, arith}
use Rattle.psdl_standings.specs.Standings.{standings}
use Rattle.psdl_rules.specs.Faults.Limit.{deep_type}
use Rattle.psdl_rules.specs.Texts.{judged}
use Rattle.psdl_rules.proofs.Passing.{more}
use Rattle.psdl_rules.proofs.faults.limit.deep_type.Goals as goal

pub loop-index-preserved : goal.loop-index-preserved
loop-index-preserved c =
    let all = judged c.args.text.now in
    let lt : c.loop-index.index < length all = omega (arith, c.loop-index-test.true, c.len-index-end.ensures) in
    more (deep_type all (standings all)) all c.loop-index.index c.args.least.now c.loop-index.least c.deep_type_at.new.least lt c.loop-index.invariant (rw c.new.ensures at c.deep_type_at.ensures)
