use Rattle.std.proofs.Common.{◌<◌, length, arith}
use Rattle.psdl_rules.specs.Faults.Cycle.{cycle}
use Rattle.psdl_rules.specs.Texts.{judged}
use Rattle.psdl_rules.proofs.Passing.{more}
use Rattle.psdl_rules.proofs.faults.cycle.header_cycles.Goals as goal

pub loop-index-preserved : goal.loop-index-preserved
loop-index-preserved c =
    let all = judged c.args.text.now in
    let lt : c.loop-index.index < length all = omega (arith, c.loop-index-test.true, c.len-index-end.ensures) in
    more (cycle all) all c.loop-index.index c.args.least.now c.loop-index.least c.cycle_at.new.least lt c.loop-index.invariant ((rw c.new.ensures at c.cycle_at.ensures) lt)
