use Rattle.line_service.proofs.Speech.{in_the_call, disk_stays}
use Rattle.line_service.proofs.speaking.speak.Goals as goal

pub returns-clause-disk : goal.returns-clause-disk
returns-clause-disk g c = disk_stays c.speak.result c.args.bytes.now (g.W.Station.now c.args.station.now) (g.W.Station.now c.speak.new.self) c.speak.ensures.spoken c.speak.ensures.failed

pub returns-clause-moments : goal.returns-clause-moments
returns-clause-moments g c = in_the_call c.speak.result _ _ c.args.bytes.now (g.W.Station.now c.args.station.now) _ c.speak.ensures.spoken c.speak.ensures.failed c.speak.ensures.time c.speak.ensures.once (g.met.W.Station.last_is_now c.speak.new.self)
