use Rattle.std.proofs.Common.{List, length, ap, sym, subst, ◌∙◌, arith}
use Rattle.pss_base.specs.declared.lines.LineStep.{LineStep}
use Rattle.people_demo.specs.Lines.{round_lines}
use Rattle.people_demo.specs.inner.Short.{AreLines}
use Rattle.people_demo.proofs.Lengths.{round_lines_few, round_lines_short}
use Rattle.people_demo.proofs.showing.Show.serve_round.Goals as goal

pub serve-requires-clause-lines : goal.serve-requires-clause-lines
serve-requires-clause-lines g c =
    let is = c.deref.ensures.value ∙ c.in_ok-lines.ensures ∙ ap (round_lines c.args.round) c.boss_of.ensures in
    subst AreLines (sym is) (round_lines_short c.args.round c.requires.some c.requires.few)

pub serve-requires-clause-may : goal.serve-requires-clause-may
serve-requires-clause-may g c =
    let is = c.deref.ensures.value ∙ c.in_ok-lines.ensures in
    record { shown = c.requires.may.shown; is = c.requires.may.is; few = omega (arith, c.requires.may.few, ap (λ (l : List LineStep). length l) is, round_lines_few c.args.round c.boss_of.result) }
