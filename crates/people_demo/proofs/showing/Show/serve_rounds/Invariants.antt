use Rattle.std.proofs.Common.{◌≡◌, ◌<◌, Ok}
use Rattle.people_demo.specs.Lines.{as_lines, drawn, rounds_texts}
use Rattle.people_demo.specs.inner.Serving.{Serves}
use Rattle.people_demo.proofs.showing.Show.serve_rounds.Given as goal

abbrev pub invariant-loop-round : goal.invariant-loop-round
invariant-loop-round g l = record {
  number : l.number ≡ drawn l.round;
  below : l.number < 2147483648;
  serves : Serves g.W.Station.now g.W.Station.history g.W.Station.content g.W.Station.disk_faults g.W.Station.speak_faults (as_lines (rounds_texts l.round)) (Ok tt) l.fn.station l.station l.fn.self l.self;
}
