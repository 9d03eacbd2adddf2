use Rattle.psdl_standings.proofs.Storing.{abstract_walked}
use Rattle.psdl_standings.proofs.walk.Walk.abstract_type.Goals as goal

pub returns-in_ok-type_operations-in-Some : goal.returns-in_ok-type_operations-in-Some
returns-in_ok-type_operations-in-Some c =
    abstract_walked c.args.self.now c.type_states.new.self c.type_operations.new.self c.args.spot c.args.body.now c.in-Some.body c.args.kept.now.items c.type_states.new.kept.items c.in-Some.is (rw c.deref.ensures.value at c.in_ok-type_states-in-Some.ensures)
    (rw c.deref-in-Some.ensures.value at c.in_ok-type_operations-in-Some.ensures)
