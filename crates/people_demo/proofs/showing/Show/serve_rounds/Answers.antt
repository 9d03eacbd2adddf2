use Rattle.std.proofs.Common.{◌≡◌, ◌+◌, ℕ, suc, List, Ok, Err, refl, ap, subst, ◌∙◌, arith}
use Rattle.std.proofs.lemmas.Result.{err_from_is_err_and}
use Rattle.pss_base.specs.declared.lines.LineStep.{LineStep}
use Rattle.people_demo.specs.Lines.{as_lines, boss_of, drawn, following, round_lines, rounds_texts}
use Rattle.people_demo.specs.inner.Serving.{Serves}
use Rattle.people_demo.proofs.Added.{rounds_added}
use Rattle.people_demo.proofs.Lengths.{rounds_lines_few}
use Rattle.people_demo.proofs.Onward.{may_then, serves_stop, serves_then}
use Rattle.people_demo.proofs.showing.Show.serve_rounds.Goals as goal

pub serve_round-requires-clause-may : goal.serve_round-requires-clause-may
serve_round-requires-clause-may g c =
    may_then g.W.Station.now g.W.Station.history g.W.Station.content g.W.Station.disk_faults g.W.Station.speak_faults _ c.args.station.now c.loop-round.station c.args.self.now c.loop-round.self 10000 10
    c.loop-round.invariant.serves c.requires.may (omega (arith, rounds_lines_few c.loop-round.round))

pub returns-in_err-serve_round : goal.returns-in_err-serve_round
returns-in_err-serve_round g c =
    let p = err_from_is_err_and c.from_residual.result c.from_residual.ensures.1 in
    rw (p.1, p.2) (serves_stop g.W.Station.now g.W.Station.history g.W.Station.content g.W.Station.disk_faults g.W.Station.speak_faults _ _ c.args.station.now c.loop-round.station c.serve_round.new.station c.args.self.now c.loop-round.self c.serve_round.new.self
    c.loop-round.invariant.serves (as_lines (rounds_texts c.args.rounds)) (Err _) _ c.in_err-serve_round.ensures refl)

pub loop-round-preserved : goal.loop-round-preserved
loop-round-preserved g c =
    let i = c.loop-round.round in
    let more : suc i ≡ i + 1 = omega arith in
    record {
      number = subst (λ (n : ℕ). c.following-number.result ≡ drawn n) more (c.following-number.ensures.is ∙ ap following c.loop-round.invariant.number);
      below = c.following-number.ensures.below;
      serves = subst (λ (lines : List LineStep). Serves g.W.Station.now g.W.Station.history g.W.Station.content g.W.Station.disk_faults g.W.Station.speak_faults lines (Ok tt) c.args.station.now c.serve_round.new.station c.args.self.now c.serve_round.new.self) (rounds_added i)
          (serves_then g.W.Station.now g.W.Station.history g.W.Station.content g.W.Station.disk_faults g.W.Station.speak_faults (as_lines (rounds_texts i)) (round_lines (i + 1) (boss_of (i + 1))) c.args.station.now c.loop-round.station c.serve_round.new.station c.args.self.now c.loop-round.self c.serve_round.new.self
          c.loop-round.invariant.serves (Ok tt) c.in_ok-serve_round.ensures);
    }
