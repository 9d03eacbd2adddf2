use Rattle.std.proofs.Common.{List, ◌++◌, Ok, Err, refl, subst, arith}
use Rattle.std.proofs.lemmas.Result.{err_from_is_err_and}
use Rattle.pss_base.specs.declared.lines.LineStep.{LineStep}
use Rattle.people_demo.specs.Lines.{as_lines, counting, demo_lines, opening, rounds_texts}
use Rattle.people_demo.specs.inner.Serving.{Serves}
use Rattle.people_demo.proofs.Added.{demo_parts}
use Rattle.people_demo.proofs.Lengths.{rounds_lines_few}
use Rattle.people_demo.proofs.Onward.{may_fewer, may_then, serves_stop, serves_then}
use Rattle.people_demo.proofs.showing.Show.serve_all.Goals as goal

pub serve_opening-requires-clause-may : goal.serve_opening-requires-clause-may
serve_opening-requires-clause-may g c = may_fewer _ _ 10003 2 c.requires.may (omega arith)

pub serve_rounds-requires-clause-may : goal.serve_rounds-requires-clause-may
serve_rounds-requires-clause-may g c =
    may_then g.W.Station.now g.W.Station.history g.W.Station.content g.W.Station.disk_faults g.W.Station.speak_faults opening c.args.station.now c.serve_opening.new.station c.args.self.now c.serve_opening.new.self 10003 10000
    c.in_ok-serve_opening.ensures c.requires.may (omega arith)

pub returns-in_err-serve_rounds : goal.returns-in_err-serve_rounds
returns-in_err-serve_rounds g c =
    let p = err_from_is_err_and c.from_residual-in_err-serve_rounds.result c.from_residual-in_err-serve_rounds.ensures.1 in
    rw (p.1, p.2) (serves_stop g.W.Station.now g.W.Station.history g.W.Station.content g.W.Station.disk_faults g.W.Station.speak_faults opening (as_lines (rounds_texts c.args.rounds)) c.args.station.now c.serve_opening.new.station c.serve_rounds.new.station c.args.self.now c.serve_opening.new.self c.serve_rounds.new.self
    c.in_ok-serve_opening.ensures (demo_lines c.args.rounds) (Err _) _ c.in_err-serve_rounds.ensures refl)

pub serve_counting-requires-clause-may : goal.serve_counting-requires-clause-may
serve_counting-requires-clause-may g c =
    let rounds = as_lines (rounds_texts c.args.rounds) in
    may_then g.W.Station.now g.W.Station.history g.W.Station.content g.W.Station.disk_faults g.W.Station.speak_faults (opening ++ rounds) c.args.station.now c.serve_rounds.new.station c.args.self.now c.serve_rounds.new.self 10003 1
    (serves_then g.W.Station.now g.W.Station.history g.W.Station.content g.W.Station.disk_faults g.W.Station.speak_faults opening rounds c.args.station.now c.serve_opening.new.station c.serve_rounds.new.station c.args.self.now c.serve_opening.new.self c.serve_rounds.new.self
    c.in_ok-serve_opening.ensures (Ok tt) c.in_ok-serve_rounds.ensures) c.requires.may (omega (arith, rounds_lines_few c.args.rounds))

pub returns-in_err-serve_counting : goal.returns-in_err-serve_counting
returns-in_err-serve_counting g c =
    let rounds = as_lines (rounds_texts c.args.rounds) in
    let p = err_from_is_err_and c.from_residual-in_err-serve_counting.result c.from_residual-in_err-serve_counting.ensures.1 in
    rw (p.1, p.2) (serves_stop g.W.Station.now g.W.Station.history g.W.Station.content g.W.Station.disk_faults g.W.Station.speak_faults (opening ++ rounds) counting c.args.station.now c.serve_rounds.new.station c.serve_counting.new.station c.args.self.now c.serve_rounds.new.self c.serve_counting.new.self
    (serves_then g.W.Station.now g.W.Station.history g.W.Station.content g.W.Station.disk_faults g.W.Station.speak_faults opening rounds c.args.station.now c.serve_opening.new.station c.serve_rounds.new.station c.args.self.now c.serve_opening.new.self c.serve_rounds.new.self
    c.in_ok-serve_opening.ensures (Ok tt) c.in_ok-serve_rounds.ensures) (demo_lines c.args.rounds) (Err _) _ c.in_err-serve_counting.ensures refl)

pub returns : goal.returns
returns g c =
    let rounds = as_lines (rounds_texts c.args.rounds) in
    subst (λ (lines : List LineStep). Serves g.W.Station.now g.W.Station.history g.W.Station.content g.W.Station.disk_faults g.W.Station.speak_faults lines (Ok tt) c.args.station.now c.serve_counting.new.station c.args.self.now c.serve_counting.new.self) (demo_parts c.args.rounds)
    (serves_then g.W.Station.now g.W.Station.history g.W.Station.content g.W.Station.disk_faults g.W.Station.speak_faults (opening ++ rounds) counting c.args.station.now c.serve_rounds.new.station c.serve_counting.new.station c.args.self.now c.serve_rounds.new.self c.serve_counting.new.self
    (serves_then g.W.Station.now g.W.Station.history g.W.Station.content g.W.Station.disk_faults g.W.Station.speak_faults opening rounds c.args.station.now c.serve_opening.new.station c.serve_rounds.new.station c.args.self.now c.serve_opening.new.self c.serve_rounds.new.self
    c.in_ok-serve_opening.ensures (Ok tt) c.in_ok-serve_rounds.ensures) (Ok tt) c.in_ok-serve_counting.ensures)
