use Rattle.psdl_tree.specs.Views.{expression_view}
use Rattle.psdl_standings.specs.inner.Sights.{scene_of}
use Rattle.psdl_standings.proofs.Ranging.{bound_noted}
use Rattle.psdl_standings.proofs.bound.bound_of.Goals as goal

pub returns-clause-faults : goal.returns-clause-faults
returns-clause-faults c =
    bound_noted (scene_of c.args.sight.now) c.args.most c.args.faults.now c.assess.new.faults (expression_view c.args.value.now) c.from_one-range.result c.in_ok-assessed.assessed c.expression_place.result c.note_value.new.values
    c.from_one-range.ensures c.expression_place.ensures c.in_ok-assessed.ensures.value c.in_ok-assessed.ensures.faults c.note_value.ensures
