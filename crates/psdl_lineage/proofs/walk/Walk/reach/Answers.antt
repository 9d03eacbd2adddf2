use Rattle.std.proofs.Common.{◌≡◌, ◌∙◌, length, sym, arith}
use Rattle.psdl_lineage.specs.inner.Walking.{outcome}
use Rattle.psdl_lineage.specs.inner.Walks.{steps_of}
use Rattle.psdl_lineage.proofs.Reaching.{reached, all_found}
use Rattle.psdl_lineage.proofs.walk.Walk.reach.Goals as goal

pub has-requires : goal.has-requires
has-requires c = omega (arith, c.requires.to, c.loop-self.invariant.on.sized)

pub returns-in-None-clause-reached : goal.returns-in-None-clause-reached
returns-in-None-clause-reached c =
    let none : length c.loop-self.self.way.items ≡ 0 = omega (arith, c.loop-self.self.way.ok.0, c.in-None.ensures.cases) in
    sym c.loop-self-test.true ∙ c.has.ensures
    ∙ all_found c.args.graph.now c.loop-self.marks c.loop-self.self.way.items c.loop-self.self.found.items (outcome c.args.graph.now (steps_of c.args.self.now) c.args.self.now.found.items) c.args.to none c.loop-self.invariant.on c.loop-self.invariant.same

pub returns-clause-reached : goal.returns-clause-reached
returns-clause-reached c =
    sym (reached c.args.graph.now c.loop-self.marks (steps_of c.loop-self.self) c.loop-self.self.found.items (outcome c.args.graph.now (steps_of c.args.self.now) c.args.self.now.found.items) c.args.to c.loop-self.invariant.on c.loop-self.invariant.same
    (sym c.has.ensures ∙ c.loop-self-test.false))
