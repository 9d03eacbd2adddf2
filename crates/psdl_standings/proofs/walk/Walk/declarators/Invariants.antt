use Rattle.std.proofs.Common.{map, take}
use Rattle.std.specs.List.{flat_map}
use Rattle.psdl_tree.specs.Views.{declarator_view}
use Rattle.psdl_standings.specs.Uses.{in_declarator, declarator_bounds}
use Rattle.psdl_standings.specs.inner.Fields.{AddsParts}
use Rattle.psdl_standings.specs.inner.TypeNumbers.{declared_field}
use Rattle.psdl_standings.specs.inner.TypeTables.{entry_type}
use Rattle.psdl_standings.specs.inner.Walked.{names_in}
use Rattle.psdl_standings.proofs.walk.Walk.declarators.Given as goal

abbrev pub invariant-loop-declarator : goal.invariant-loop-declarator
invariant-loop-declarator l =
    let ds = map declarator_view (take l.declarator-index l.declarators) in
    AddsParts l.fn.self l.self l.spot (flat_map (in_declarator l.spot.limit) ds) (flat_map (declarator_bounds l.spot.limit) ds) (map (declared_field (names_in l.fn.self l.spot) (entry_type l.fn.self.types l.item)) ds) l.fn.parts.items l.parts.items
