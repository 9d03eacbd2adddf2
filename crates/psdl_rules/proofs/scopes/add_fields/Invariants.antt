use Rattle.std.proofs.Common.{◌≡◌, ◌++◌, map, drop}
use Rattle.std.specs.List.{flat_map}
use Rattle.psdl_tree.specs.Views.{field_view}
use Rattle.psdl_directory.specs.Parts.{field_names}
use Rattle.psdl_rules.proofs.scopes.add_fields.Given as goal

abbrev pub invariant-loop-field : goal.invariant-loop-field
invariant-loop-field l =
    map (λ i. i.now) l.found.items ++ flat_map field_names (map field_view (drop l.field-index l.fields))
    ≡ map (λ i. i.now) l.fn.found.items ++ flat_map field_names (map field_view l.fields)
