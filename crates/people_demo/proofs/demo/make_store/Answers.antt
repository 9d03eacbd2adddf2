use Rattle.people_demo.proofs.Onward.{silent_then}
use Rattle.people_demo.proofs.demo.make_store.Goals as goal

pub returns-in-Ok-clause-silent : goal.returns-in-Ok-clause-silent
returns-in-Ok-clause-silent g c =
    silent_then g.W.Station.now g.W.Station.history g.W.Station.speak_faults c.args.station.now c.init.new.station c.mount.new.station c.init.ensures.silent c.mount.ensures.silent
