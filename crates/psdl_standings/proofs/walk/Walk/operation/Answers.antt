use Rattle.psdl_standings.proofs.Bodied.{notes_then}
use Rattle.psdl_standings.proofs.walk.Walk.operation.Goals as goal

pub returns : goal.returns
returns c = notes_then c.args.self.now c.returned.new.self c.parameters.new.self c.args.spot _ _ _ _ c.in_ok-returned.ensures c.in_ok-parameters.ensures
