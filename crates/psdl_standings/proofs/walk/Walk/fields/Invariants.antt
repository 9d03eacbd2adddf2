use Rattle.std.proofs.Common.{map, take}
use Rattle.std.specs.List.{flat_map}
use Rattle.psdl_tree.specs.Views.{field_view}
use Rattle.psdl_standings.specs.Standings.{fields_by}
use Rattle.psdl_standings.specs.Uses.{in_field, field_bounds}
use Rattle.psdl_standings.specs.inner.Fields.{AddsParts}
use Rattle.psdl_standings.specs.inner.Walked.{names_in}
use Rattle.psdl_standings.proofs.walk.Walk.fields.Given as goal

abbrev pub invariant-loop-field : goal.invariant-loop-field
invariant-loop-field l =
    let xs = map field_view (take l.field-index l.fields) in
    AddsParts l.fn.self l.self l.spot (flat_map (in_field l.spot.limit) xs) (flat_map (field_bounds l.spot.limit) xs) (flat_map (fields_by (names_in l.fn.self l.spot)) xs) l.fn.parts.items l.parts.items
