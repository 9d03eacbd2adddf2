use Rattle.std.proofs.Common.{map, take}
use Rattle.std.specs.List.{flat_map}
use Rattle.psdl_tree.specs.Trees.{State}
use Rattle.psdl_tree.specs.Views.{state_view}
use Rattle.psdl_standings.specs.States.{types_of_state}
use Rattle.psdl_standings.specs.Uses.{in_state_type, state_bounds}
use Rattle.psdl_standings.specs.inner.Entries.{AddsStates}
use Rattle.psdl_standings.proofs.walk.Walk.states.Given as goal

abbrev pub invariant-loop-state : goal.invariant-loop-state
invariant-loop-state l =
    let xs = map state_view (take l.state-index l.states) in
    AddsStates l.fn.self l.self l.spot (flat_map (λ (x : State). in_state_type l.spot.limit x.state_type) xs) (flat_map (λ (x : State). state_bounds l.spot.limit x.state_type) xs) (flat_map types_of_state xs) l.fn.kept.items l.kept.items
