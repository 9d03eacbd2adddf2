use Rattle.std.proofs.Common.{map}
use Rattle.psdl_tree.specs.Views.{expression_view}
use Rattle.psdl_standings.specs.Uses.{in_expressions, bounds_of, most_elements}
use Rattle.psdl_standings.proofs.Arrayed.{arrays_behind}
use Rattle.psdl_standings.proofs.walk.Walk.arrays.Goals as goal

pub returns : goal.returns
returns c =
    let es = map expression_view c.args.dimensions.now in
    arrays_behind c.args.self.now c.sizes.new.self c.arrays_of.new.self c.args.spot (in_expressions c.args.spot.limit es) (bounds_of c.args.spot.limit most_elements es) es c.in_ok-sizes.sizes.items c.args.item c.in_ok-number.number c.requires
    c.in_ok-sizes.ensures (rw c.deref.ensures.value at c.in_ok-number.ensures)
