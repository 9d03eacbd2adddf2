use Rattle.std.proofs.Common.{◌≡◌, ◌+◌, ◌≤◌, ◌<◌, ◌^◌, length, map, drop}
use Rattle.type_layout.specs.Types.{fields_of, values_of}
use Rattle.type_layout.specs.Views.{plain_type, plain_field, plain_value}
use Rattle.type_layout.specs.Values.{Of, AreOf, EachOf}
use Rattle.type_layout.specs.Spelling.{each, spelling, spellings}
use Rattle.cdr_codec.specs.Lengths.{place_behind}
use Rattle.cdr_codec.proofs.Sizes.{size, sizes}
use Rattle.cdr_codec.proofs.length.+length.Given as goal

abbrev pub decreases-value_end : goal.decreases-value_end
decreases-value_end l = 1 + size (plain_type l.ty.now)

abbrev pub decreases-list_end : goal.decreases-list_end
decreases-list_end l = size (plain_type l.ty.now)

abbrev pub decreases-struct_end : goal.decreases-struct_end
decreases-struct_end l = size (plain_type l.ty.now)

abbrev pub decreases-items_end : goal.decreases-items_end
decreases-items_end l = 2 + size (plain_type l.item.now)

abbrev pub decreases-fields_end : goal.decreases-fields_end
decreases-fields_end l = 2 + sizes (fields_of (map plain_field l.fields.now))

abbrev pub invariant-items_end-loop-value : goal.invariant-items_end-loop-value
invariant-items_end-loop-value l =
    EachOf (Of (plain_type l.item)) (values_of (map plain_value (drop l.value-index l.values)))
    × (l.place < 2 ^ 64)
    × (place_behind l.place (length (each (spelling (plain_type l.item)) (values_of (map plain_value (drop l.value-index l.values))) l.place))
    ≡ place_behind l.at (length (each (spelling (plain_type l.item)) (values_of (map plain_value l.values)) l.at)))

abbrev pub invariant-fields_end-loop-field : goal.invariant-fields_end-loop-field
invariant-fields_end-loop-field l =
    AreOf (fields_of (map plain_field (drop l.field-index l.fields))) (values_of (map plain_value l.remaining))
    × (l.place < 2 ^ 64)
    × (sizes (fields_of (map plain_field (drop l.field-index l.fields))) ≤ sizes (fields_of (map plain_field l.fields)))
    × (place_behind l.place (length (spellings (fields_of (map plain_field (drop l.field-index l.fields))) (values_of (map plain_value l.remaining)) l.place))
    ≡ place_behind l.at (length (spellings (fields_of (map plain_field l.fields)) (values_of (map plain_value l.values)) l.at)))
