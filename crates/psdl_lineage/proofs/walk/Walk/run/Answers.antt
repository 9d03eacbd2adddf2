use Rattle.std.proofs.Common.{◌≡◌, length, arith}
use Rattle.psdl_lineage.proofs.Reaching.{finished}
use Rattle.psdl_lineage.proofs.walk.Walk.run.Goals as goal

pub loop-step-init : goal.loop-step-init
loop-step-init c = record { sized = c.begin.ensures.sized; on = c.in_ok-begin.ensures.on; same = c.in_ok-begin.ensures.same }

pub returns-clause-found : goal.returns-clause-found
returns-clause-found c =
    let none : length c.loop-step.self.way.items ≡ 0 = omega (arith, c.loop-step.self.way.ok.0, c.in_default.ensures.cases) in
    finished c.args.graph.now c.loop-step.marks c.loop-step.self.way.items c.loop-step.self.found.items _ none c.loop-step.invariant.on c.loop-step.invariant.same
