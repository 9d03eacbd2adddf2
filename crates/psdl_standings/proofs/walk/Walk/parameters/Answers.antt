use Rattle.psdl_standings.proofs.Bodied.{notes_then}
use Rattle.psdl_standings.proofs.walk.Walk.parameters.Goals as goal

pub returns-in_ok-each_parameter-in-Some : goal.returns-in_ok-each_parameter-in-Some
returns-in_ok-each_parameter-in-Some c =
    rw c.in-Some.is (notes_then c.args.self.now c.state_type.new.self c.each_parameter.new.self c.args.spot _ _ _ _ c.in_ok-state_type-in-Some.ensures.noted (rw c.deref.ensures.value at c.in_ok-each_parameter-in-Some.ensures))
