use Rattle.std.proofs.Common.{length, take, Err, refl, arith}
use Rattle.std.proofs.lemmas.Result.{err_from_is_err_and}
use Rattle.std.proofs.lemmas.List.{length-take-le}
use Rattle.people_demo.proofs.Lengths.{line_at}
use Rattle.people_demo.proofs.Onward.{may_then, serves_more, serves_stop}
use Rattle.people_demo.proofs.showing.Show.serve.Goals as goal

pub serve_line-requires-clause-line : goal.serve_line-requires-clause-line
serve_line-requires-clause-line g c = line_at c.args.lines.now c.loop-line.line-index c.line-item.result c.requires.lines (omega arith) c.line-item.is

pub serve_line-requires-clause-may : goal.serve_line-requires-clause-may
serve_line-requires-clause-may g c =
    let lines = c.args.lines.now in
    let i = c.loop-line.line-index in
    may_then g.W.Station.now g.W.Station.history g.W.Station.content g.W.Station.disk_faults g.W.Station.speak_faults (take i lines) c.args.station.now c.loop-line.station c.args.self.now c.loop-line.self (length lines) 1
    c.loop-line.invariant c.requires.may (omega (arith, length-take-le i lines (omega arith)))

pub returns-in_err-serve_line : goal.returns-in_err-serve_line
returns-in_err-serve_line g c =
    let p = err_from_is_err_and c.from_residual.result c.from_residual.ensures.1 in
    rw (p.1, p.2) (serves_stop g.W.Station.now g.W.Station.history g.W.Station.content g.W.Station.disk_faults g.W.Station.speak_faults _ _ c.args.station.now c.loop-line.station c.serve_line.new.station c.args.self.now c.loop-line.self c.serve_line.new.self
    c.loop-line.invariant c.args.lines.now (Err _) _ c.in_err-serve_line.ensures refl)

pub loop-line-preserved : goal.loop-line-preserved
loop-line-preserved g c =
    serves_more g.W.Station.now g.W.Station.history g.W.Station.content g.W.Station.disk_faults g.W.Station.speak_faults c.args.lines.now c.loop-line.line-index c.line-item.result
    c.args.station.now c.loop-line.station c.serve_line.new.station c.args.self.now c.loop-line.self c.serve_line.new.self (omega arith) c.line-item.is c.loop-line.invariant c.in_ok-serve_line.ensures
