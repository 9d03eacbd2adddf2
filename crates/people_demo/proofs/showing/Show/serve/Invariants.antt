use Rattle.std.proofs.Common.{take, Ok}
use Rattle.people_demo.specs.inner.Serving.{Serves}
use Rattle.people_demo.proofs.showing.Show.serve.Given as goal

abbrev pub invariant-loop-line : goal.invariant-loop-line
invariant-loop-line g l =
    Serves g.W.Station.now g.W.Station.history g.W.Station.content g.W.Station.disk_faults g.W.Station.speak_faults (take l.line-index l.lines) (Ok tt) l.fn.station l.station l.fn.self l.self
