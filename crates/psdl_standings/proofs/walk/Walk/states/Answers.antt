use Rattle.psdl_tree.specs.Trees.{State}
use Rattle.psdl_tree.specs.Views.{state_view}
use Rattle.psdl_standings.specs.States.{types_of_state}
use Rattle.psdl_standings.specs.Uses.{in_state_type, state_bounds}
use Rattle.psdl_standings.proofs.Stated.{states_begin, states_more, states_end}
use Rattle.psdl_standings.proofs.walk.Walk.states.Goals as goal

pub loop-state-init : goal.loop-state-init
loop-state-init c =
    states_begin (λ (x : State). in_state_type c.args.spot.limit x.state_type) (λ (x : State). state_bounds c.args.spot.limit x.state_type) types_of_state state_view c.args.self.now c.args.spot c.args.states.now c.args.kept.now.items c.requires

pub state-requires : goal.state-requires
state-requires c = c.loop-state.invariant.below

pub loop-state-preserved : goal.loop-state-preserved
loop-state-preserved c =
    states_more (λ (x : State). in_state_type c.args.spot.limit x.state_type) (λ (x : State). state_bounds c.args.spot.limit x.state_type) types_of_state state_view c.args.self.now c.loop-state.self c.state.new.self c.args.spot c.args.states.now
    c.loop-state.state-index c.state-item.result c.args.kept.now.items c.loop-state.kept.items c.state.new.kept.items c.loop-state-test.true c.state-item.is c.loop-state.invariant c.in_ok-state.ensures

pub returns : goal.returns
returns c =
    states_end (λ (x : State). in_state_type c.args.spot.limit x.state_type) (λ (x : State). state_bounds c.args.spot.limit x.state_type) types_of_state state_view c.args.self.now c.loop-state.self c.args.spot c.args.states.now c.loop-state.state-index
    c.args.kept.now.items c.loop-state.kept.items c.loop-state-test.false c.loop-state.invariant
