use Rattle.std.proofs.Common.{◌∙◌, ap, sym}
use Rattle.psdl_tree.specs.Views.{expression_view}
use Rattle.psdl_standings.specs.Values.{Assessed}
use Rattle.psdl_standings.specs.inner.Assessments.{seen}
use Rattle.psdl_standings.specs.inner.Sights.{Scene}
use Rattle.psdl_standings.specs.inner.Walked.{text_in, path_in}
use Rattle.psdl_standings.proofs.Linking.{texts_linked, assessed_linked}
use Rattle.psdl_standings.proofs.walk.Walk.assessed.Goals as goal

pub returns-clause-noted : goal.returns-clause-noted
returns-clause-noted c =
    let w = c.args.self.now in
    let s : Scene = record { all = text_in w; told = w.told.items; limit = c.args.spot.limit; path = path_in w c.args.spot; own = c.args.spot.own } in
    (rw c.deref.ensures.value at c.in_ok-assessed.ensures.faults) ∙ texts_linked w.types s w.faults (expression_view c.args.value.now)

pub returns-clause-value : goal.returns-clause-value
returns-clause-value c =
    let w = c.args.self.now in
    let s : Scene = record { all = text_in w; told = w.told.items; limit = c.args.spot.limit; path = path_in w c.args.spot; own = c.args.spot.own } in
    (rw c.deref.ensures.value at c.in_ok-assessed.ensures.value) ∙ ap (λ (a : Assessed). seen a) (sym (assessed_linked w.types s c.args.width (expression_view c.args.value.now)))
