use Rattle.std.proofs.Common.{refl}
use Rattle.psdl_lineage.specs.inner.Walking.{is_marked}
use Rattle.psdl_lineage.proofs.Reaching.{begins}
use Rattle.psdl_lineage.proofs.walk.Walk.begin.Goals as goal

pub returns-clause-on : goal.returns-clause-on
returns-clause-on c =
    let first =
    begins c.args.graph.now c.args.marks.now c.args.self.now.way.items c.args.self.now.found.items c.args.number c.requires.idle.off c.requires.idle.on c.requires.number
    c.enter.new.marks c.enter.new.self.way.items c.enter.new.self.found.items (is_marked c.args.marks.now c.args.number) refl
    c.in_ok-enter.ensures.marks c.in_ok-enter.ensures.way c.in_ok-enter.ensures.found in
    first.0

pub returns-clause-same : goal.returns-clause-same
returns-clause-same c =
    let first =
    begins c.args.graph.now c.args.marks.now c.args.self.now.way.items c.args.self.now.found.items c.args.number c.requires.idle.off c.requires.idle.on c.requires.number
    c.enter.new.marks c.enter.new.self.way.items c.enter.new.self.found.items (is_marked c.args.marks.now c.args.number) refl
    c.in_ok-enter.ensures.marks c.in_ok-enter.ensures.way c.in_ok-enter.ensures.found in
    first.1
