use Rattle.psdl_standings.specs.inner.TypeNodes.{types_of}
use Rattle.psdl_standings.proofs.Numbered.{length_at}
use Rattle.psdl_standings.proofs.types.Types.length.Goals as goal

pub returns : goal.returns
returns c =
    rw (← c.self.view_is, c.index.ensures) (length_at c.self.inside.lengths.items (types_of c.self.inside.nodes.items) c.args.number c.index.result.now c.self.invariant.measured (rw c.self.view_is c.requires))
