use Rattle.psdl_standings.proofs.types.Types.class.Goals as goal

pub returns : goal.returns
returns c = rw c.node.ensures.makes at (c.class.ensures c.args.self.now)
