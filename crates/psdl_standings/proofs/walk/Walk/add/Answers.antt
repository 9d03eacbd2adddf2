use Rattle.psdl_standings.specs.inner.TypeNodes.{node_type}
use Rattle.psdl_standings.proofs.Goings.{there_after}
use Rattle.psdl_standings.proofs.walk.Walk.add.Goals as goal

pub invariant_of-self : goal.invariant_of-self
invariant_of-self c =
    let self = c.args.self.now in
    record { there = there_after self.types c.add.new.self (node_type self.types c.args.node) self.told.items c.add.result c.add.ensures.types c.add.ensures.err self.there }
