use Rattle.psdl_standings.proofs.Storing.{home_walked}
use Rattle.psdl_standings.proofs.walk.Walk.abstract_home.Goals as goal

pub returns-in_ok-home_operations-in-Some : goal.returns-in_ok-home_operations-in-Some
returns-in_ok-home_operations-in-Some c =
    home_walked c.args.self.now c.home_operations.new.self c.args.spot c.args.body.now c.in-Some.body c.in-Some.is (rw c.deref.ensures.value at c.in_ok-home_operations-in-Some.ensures)
