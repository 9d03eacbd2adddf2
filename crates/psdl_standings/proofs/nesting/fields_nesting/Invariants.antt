use Rattle.std.proofs.Common.{◌≡◌, map, drop}
use Rattle.psdl_tree.specs.Views.{field_view}
use Rattle.psdl_standings.specs.inner.Levels.{names_at, deeper, all_deep, field_depth}
use Rattle.psdl_standings.proofs.nesting.fields_nesting.Given as goal

abbrev pub invariant-loop-field : goal.invariant-loop-field
invariant-loop-field l =
    let f = field_depth (names_at l.parts) in
    deeper l.deepest (all_deep f (map field_view (drop l.field-index l.fields))) ≡ all_deep f (map field_view l.fields)
