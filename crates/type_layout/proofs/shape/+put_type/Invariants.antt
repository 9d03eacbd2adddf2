use Rattle.std.proofs.Common.{◌≡◌, ◌++◌, map, drop}
use Rattle.std.specs.Prelude.{codes}
use Rattle.std.specs.List.{flat_map}
use Rattle.type_layout.specs.Types.{fields_of}
use Rattle.type_layout.specs.Views.{plain_field}
use Rattle.type_layout.specs.ShapeText.{listed, field_texts}
use Rattle.type_layout.proofs.shape.+put_type.Given as goal

abbrev pub invariant-put_fields-loop-field : goal.invariant-put_fields-loop-field
invariant-put_fields-loop-field l =
    l.text ++ flat_map (λ u. codes "," ++ u) (field_texts (fields_of (map plain_field (drop l.field-index l.others)))) ≡ l.fn.text ++ listed (field_texts (fields_of (map plain_field l.fields)))
