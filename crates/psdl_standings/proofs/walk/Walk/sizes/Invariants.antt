use Rattle.std.proofs.Common.{map, take}
use Rattle.psdl_tree.specs.Views.{expression_view}
use Rattle.psdl_standings.specs.Standings.{size_by}
use Rattle.psdl_standings.specs.Uses.{in_expressions, bounds_of, most_elements}
use Rattle.psdl_standings.specs.inner.Walked.{names_in, Finds}
use Rattle.psdl_standings.proofs.walk.Walk.sizes.Given as goal

abbrev pub invariant-loop-value : goal.invariant-loop-value
invariant-loop-value l =
    let es = map expression_view (take l.value-index l.dimensions) in
    Finds l.fn.self l.self l.spot (in_expressions l.spot.limit es) (bounds_of l.spot.limit most_elements es) (map (size_by (names_in l.fn.self l.spot)) es) l.sizes.items
