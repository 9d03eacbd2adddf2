use Rattle.psdl_tree.specs.Views.{expression_view}
use Rattle.psdl_standings.proofs.Valued.{number_by_parts}
use Rattle.psdl_standings.proofs.walk.Walk.number.Goals as goal

pub returns-clause-noted : goal.returns-clause-noted
returns-clause-noted c =
    number_by_parts c.args.self.now c.args.spot (expression_view c.args.value.now) c.args.range c.in_ok-assessed.assessed c.expression_place.result c.assessed.new.self.faults c.note_value.new.values c.expression_place.ensures c.in_ok-assessed.ensures.value
    c.in_ok-assessed.ensures.noted c.note_value.ensures
