use Rattle.people_demo.specs.declared.tally.Tally.{Tally}
use Rattle.people_demo.proofs.Onward.{silent_then}
use Rattle.people_demo.proofs.Stopping.{nothing_shown, stopped_by}
use Rattle.people_demo.proofs.Shown.{line_shown, stands_shown}
use Rattle.people_demo.proofs.demo.run_rounds.Goals as goal

pub returns-in-Ok-serve_all-clause-shown : goal.returns-in-Ok-serve_all-clause-shown
returns-in-Ok-serve_all-clause-shown g c =
    line_shown c.args.rounds (g.W.Station.content c.args.station.now) (g.W.Station.content c.begin.new.station) (g.W.Station.content c.serve_all.new.station) c.in-Ok.show c.serve_all.new.self c.in-Ok.ensures.begun c.in-Ok-serve_all.ensures.shows

pub returns-in-Ok-serve_all-clause-stands : goal.returns-in-Ok-serve_all-clause-stands
returns-in-Ok-serve_all-clause-stands g c =
    stands_shown c.args.rounds (g.W.Station.content c.args.station.now) (g.W.Station.content c.begin.new.station) (g.W.Station.content c.serve_all.new.station) c.in-Ok.show c.serve_all.new.self c.in-Ok.ensures.begun c.in-Ok-serve_all.ensures.shows
    c.a_mounted_store_stands.ensures

pub returns-in-Ok-serve_all-clause-silent : goal.returns-in-Ok-serve_all-clause-silent
returns-in-Ok-serve_all-clause-silent g c =
    silent_then g.W.Station.now g.W.Station.history g.W.Station.speak_faults c.args.station.now c.begin.new.station c.serve_all.new.station c.begin.ensures.silent c.serve_all.ensures.silent

pub returns-in-Ok-clause-silent : goal.returns-in-Ok-clause-silent
returns-in-Ok-clause-silent g c =
    silent_then g.W.Station.now g.W.Station.history g.W.Station.speak_faults c.args.station.now c.begin.new.station c.serve_all.new.station c.begin.ensures.silent c.serve_all.ensures.silent

pub returns-in-Ok-clause-ended : goal.returns-in-Ok-clause-ended
returns-in-Ok-clause-ended g c = nothing_shown c.in-Err-serve_all.stop c.of_store.result (g.W.Station.content c.args.station.now) (g.W.Station.content c.serve_all.new.station) c.of_store.ensures c.in-Ok.ensures.begun.was_empty

pub returns-in-Ok-clause-disk : goal.returns-in-Ok-clause-disk
returns-in-Ok-clause-disk g c =
    stopped_by Tally (g.W.Station.disk_faults c.args.station.now) (g.W.Station.disk_faults c.begin.new.station) (g.W.Station.disk_faults c.serve_all.new.station) c.in-Err-serve_all.stop c.of_store.result c.of_store.ensures c.in-Ok.ensures.disk
    c.in-Err-serve_all.ensures.cause
