use Rattle.psdl_tree.specs.Trees.{Parameter}
use Rattle.psdl_tree.specs.Views.{parameter_view}
use Rattle.psdl_standings.specs.Uses.{in_state_type, state_bounds}
use Rattle.psdl_standings.proofs.Bodied.{notes_more, notes_end}
use Rattle.psdl_standings.proofs.walk.Walk.each_parameter.Goals as goal

pub loop-parameter-preserved : goal.loop-parameter-preserved
loop-parameter-preserved c =
    notes_more (λ (x : Parameter). in_state_type c.args.spot.limit x.parameter_type) (λ (x : Parameter). state_bounds c.args.spot.limit x.parameter_type) parameter_view c.args.self.now c.loop-parameter.self c.state_type.new.self c.args.spot c.args.parameters.now c.loop-parameter.parameter-index
    c.parameter-item.result c.loop-parameter-test.true c.parameter-item.is c.loop-parameter.invariant c.in_ok-state_type.ensures.noted

pub returns : goal.returns
returns c =
    notes_end (λ (x : Parameter). in_state_type c.args.spot.limit x.parameter_type) (λ (x : Parameter). state_bounds c.args.spot.limit x.parameter_type) parameter_view c.args.self.now c.loop-parameter.self c.args.spot c.args.parameters.now c.loop-parameter.parameter-index c.loop-parameter-test.false c.loop-parameter.invariant
