use Rattle.std.proofs.Common.{◌≡◌, ◌++◌, ◌+◌, ◌≤◌, map, drop}
use Rattle.std.specs.Prelude.{codes}
use Rattle.std.specs.List.{flat_map}
use Rattle.type_layout.specs.Types.{fields_of, values_of}
use Rattle.type_layout.specs.Views.{plain_type, plain_field, plain_fields, plain_value}
use Rattle.type_layout.specs.Values.{Of, AreOf, EachOf}
use Rattle.type_layout.specs.ShapeText.{listed}
use Rattle.value_text.specs.Printed.{each_printed, printed, fields_printed}
use Rattle.value_text.proofs.Sizes.{size, sizes}
use Rattle.value_text.proofs.print.+put.Given as goal

abbrev pub decreases-put : goal.decreases-put
decreases-put l = 1 + size (plain_type l.ty.now)

abbrev pub decreases-put_items : goal.decreases-put_items
decreases-put_items l = 3 + size (plain_type l.item.now)

abbrev pub decreases-put_each : goal.decreases-put_each
decreases-put_each l = 2 + size (plain_type l.item.now)

abbrev pub decreases-put_parts : goal.decreases-put_parts
decreases-put_parts l = 4 + sizes (fields_of (plain_fields l.fields.now))

abbrev pub decreases-put_fields : goal.decreases-put_fields
decreases-put_fields l = 2 + sizes (fields_of (map plain_field l.fields.now))

abbrev pub decreases-put_field : goal.decreases-put_field
decreases-put_field l = 2 + size (plain_field l.field.now).type

abbrev pub invariant-put_each-loop-value : goal.invariant-put_each-loop-value
invariant-put_each-loop-value l =
    EachOf (Of (plain_type l.item)) (values_of (map plain_value (drop l.value-index l.others)))
    × (l.out ++ flat_map (λ u. codes "," ++ u) (each_printed (printed (plain_type l.item)) (values_of (map plain_value (drop l.value-index l.others))))
    ≡ l.fn.out ++ listed (each_printed (printed (plain_type l.item)) (values_of (map plain_value l.items))))

abbrev pub invariant-put_fields-loop-field : goal.invariant-put_fields-loop-field
invariant-put_fields-loop-field l =
    AreOf (fields_of (map plain_field (drop l.field-index l.other_fields))) (values_of (map plain_value l.remaining))
    × (sizes (fields_of (map plain_field (drop l.field-index l.other_fields))) ≤ sizes (fields_of (map plain_field l.fields)))
    × (l.out ++ flat_map (λ u. codes "," ++ u) (fields_printed (fields_of (map plain_field (drop l.field-index l.other_fields))) (values_of (map plain_value l.remaining)))
    ≡ l.fn.out ++ listed (fields_printed (fields_of (map plain_field l.fields)) (values_of (map plain_value l.values))))
