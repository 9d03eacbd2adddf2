use Rattle.psdl_standings.proofs.Storing.{concrete_walked}
use Rattle.psdl_standings.proofs.walk.Walk.concrete_type.Goals as goal

pub returns-in_ok-states-in-Some : goal.returns-in_ok-states-in-Some
returns-in_ok-states-in-Some c =
    concrete_walked c.args.self.now c.states.new.self c.args.spot c.args.body.now c.in-Some.body c.args.kept.now.items c.states.new.kept.items c.in-Some.is (rw c.deref.ensures.value at c.in_ok-states-in-Some.ensures)
