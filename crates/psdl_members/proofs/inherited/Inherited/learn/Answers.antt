use Rattle.psdl_members.proofs.inherited.Inherited.learn.Goals as goal

pub learn-requires : goal.learn-requires
learn-requires c = rw c.graph.ensures c.args.self.now.told

pub invariant_of-self : goal.invariant_of-self
invariant_of-self c =
    let self = c.args.self.now in
    record { graphed = self.graphed; flagged = self.flagged; had = self.had; fits = self.fits; told = rw c.graph.ensures at c.learn.ensures }
