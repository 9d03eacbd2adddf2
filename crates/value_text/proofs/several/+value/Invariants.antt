use Rattle.std.proofs.Common.{◌≡◌, ◌≤◌, ◌+◌, ◌-◌, length, map, drop}
use Rattle.type_layout.specs.Types.{fields_of}
use Rattle.type_layout.specs.Views.{plain_type, plain_field, plain_values}
use Rattle.value_text.specs.Reading.{more_at, value_at, fields_at, more_fields_at}
use Rattle.value_text.proofs.Sizes.{size, sizes}
use Rattle.value_text.proofs.Looping.{with_front}
use Rattle.value_text.proofs.several.+value.Given as goal

abbrev pub decreases-value_of : goal.decreases-value_of
decreases-value_of l = size (plain_type l.ty.now)

abbrev pub decreases-list_of : goal.decreases-list_of
decreases-list_of l = 4 + size (plain_type l.item.now)

abbrev pub decreases-items_of : goal.decreases-items_of
decreases-items_of l = 3 + size (plain_type l.item.now)

abbrev pub decreases-more_of : goal.decreases-more_of
decreases-more_of l = 2 + size (plain_type l.item.now)

abbrev pub decreases-item_of : goal.decreases-item_of
decreases-item_of l = 1 + size (plain_type l.item.now)

abbrev pub decreases-struct_of : goal.decreases-struct_of
decreases-struct_of l = 2 + sizes (fields_of (map plain_field l.fields.now))

abbrev pub decreases-fields_of : goal.decreases-fields_of
decreases-fields_of l = 1 + sizes (fields_of (map plain_field l.fields.now))

abbrev pub decreases-next_field_of : goal.decreases-next_field_of
decreases-next_field_of l = 2 + size (plain_field l.field.now).type

abbrev pub decreases-field_of : goal.decreases-field_of
decreases-field_of l = 1 + size (plain_field l.field.now).type

abbrev pub invariant-more_of-loop : goal.invariant-more_of-loop
invariant-more_of-loop l = with_front (plain_values l.values) (more_at (value_at (plain_type l.item)) (length l.text - l.counter) l.rest) ≡ more_at (value_at (plain_type l.item)) (length l.text) l.text

abbrev pub invariant-fields_of-loop-field : goal.invariant-fields_of-loop-field
invariant-fields_of-loop-field l =
    (with_front (plain_values l.values) (more_fields_at (fields_of (map plain_field (drop l.field-index l.others))) l.rest) ≡ fields_at (fields_of (map plain_field l.fields)) l.text)
    × (sizes (fields_of (map plain_field (drop l.field-index l.others))) ≤ sizes (fields_of (map plain_field l.fields)))
