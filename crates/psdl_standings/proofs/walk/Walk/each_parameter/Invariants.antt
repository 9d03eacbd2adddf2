use Rattle.std.proofs.Common.{map, take}
use Rattle.std.specs.List.{flat_map}
use Rattle.psdl_tree.specs.Trees.{Parameter}
use Rattle.psdl_tree.specs.Views.{parameter_view}
use Rattle.psdl_standings.specs.Uses.{in_state_type, state_bounds}
use Rattle.psdl_standings.specs.inner.Entries.{Notes}
use Rattle.psdl_standings.proofs.walk.Walk.each_parameter.Given as goal

abbrev pub invariant-loop-parameter : goal.invariant-loop-parameter
invariant-loop-parameter l =
    let xs = map parameter_view (take l.parameter-index l.parameters) in
    Notes l.fn.self l.self l.spot (flat_map (λ (x : Parameter). in_state_type l.spot.limit x.parameter_type) xs) (flat_map (λ (x : Parameter). state_bounds l.spot.limit x.parameter_type) xs)
