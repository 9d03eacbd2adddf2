use Rattle.std.proofs.Common.{ℕ, List, Option, subst, sym}
use Rattle.people_demo.specs.Shows.{HoldsShown, shown_line}
use Rattle.people_demo.specs.Tally.{demo_line}
use Rattle.people_demo.proofs.Shown.{any_line, quiet_moments, shows_told, told_moments}
use Rattle.people_demo.proofs.demo.run_demo.Goals as goal

pub returns-in-Ok-clause-shows : goal.returns-in-Ok-clause-shows
returns-in-Ok-clause-shows g c =
    let content = g.W.Station.content in
    shows_told c.args.rounds c.tell.result (demo_line c.args.rounds c.in-Ok.tally) (g.W.Station.now c.args.station.now).spoken (g.W.Station.now c.run_rounds.new.station).spoken (g.W.Station.now c.tell.new.station).spoken
    (content c.args.station.now) (content c.tell.new.station) c.run_rounds.ensures.silent.said c.tell.ensures.told c.in-Ok.ensures.shown
    (subst (λ (o : Option (List ℕ)). HoldsShown c.args.rounds (content c.args.station.now) o) (sym c.tell.ensures.content) c.in-Ok.ensures.stands) c.in-Ok.ensures.empty

pub returns-in-Ok-clause-moments : goal.returns-in-Ok-clause-moments
returns-in-Ok-clause-moments g c =
    let line = demo_line c.args.rounds c.in-Ok.tally in
    let now = g.W.Station.now in
    let history = g.W.Station.history in (
      line,
      c.in-Ok.ensures.shown,
      told_moments c.tell.result line (now c.run_rounds.new.station).spoken (now c.tell.new.station).spoken (history c.args.station.now) (history c.run_rounds.new.station) (history c.tell.new.station) (now c.args.station.now)
          c.run_rounds.ensures.silent.said c.run_rounds.ensures.silent.moments c.tell.ensures.moments,
    )

pub returns-in-Err-clause-moments : goal.returns-in-Err-clause-moments
returns-in-Err-clause-moments g c =
    let now = g.W.Station.now in
    let history = g.W.Station.history in (
      shown_line c.args.rounds,
      any_line c.args.rounds (g.W.Station.content c.args.station.now),
      quiet_moments _ (shown_line c.args.rounds) (now c.run_rounds.new.station).spoken (history c.args.station.now) (history c.run_rounds.new.station) (now c.args.station.now)
          c.run_rounds.ensures.silent.moments,
    )
