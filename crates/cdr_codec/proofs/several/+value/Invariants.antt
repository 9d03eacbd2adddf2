use Rattle.std.proofs.Common.{◌≡◌, ◌≤◌, ◌+◌, ◌-◌, length, map, drop}
use Rattle.type_layout.specs.Types.{fields_of}
use Rattle.type_layout.specs.Views.{plain_type, plain_field, plain_values}
use Rattle.cdr_codec.specs.Reading.{times_at, value_at, fields_at}
use Rattle.cdr_codec.specs.Taken.{times_take, value_takes, fields_take}
use Rattle.cdr_codec.proofs.Sizes.{size, sizes}
use Rattle.cdr_codec.proofs.Loop.{with_front}
use Rattle.cdr_codec.proofs.several.+value.Given as goal

abbrev pub decreases-value_of : goal.decreases-value_of
decreases-value_of g l = size (plain_type l.ty.now)

abbrev pub decreases-items_of : goal.decreases-items_of
decreases-items_of g l = 2 + size (plain_type l.item.now)

abbrev pub decreases-sequence_of : goal.decreases-sequence_of
decreases-sequence_of g l = 3 + size (plain_type l.item.now)

abbrev pub decreases-array_of : goal.decreases-array_of
decreases-array_of g l = 3 + size (plain_type l.item.now)

abbrev pub decreases-times_of : goal.decreases-times_of
decreases-times_of g l = 1 + size (plain_type l.item.now)

abbrev pub decreases-field_of : goal.decreases-field_of
decreases-field_of g l = 1 + size (plain_field l.field.now).type

abbrev pub decreases-fields_of : goal.decreases-fields_of
decreases-fields_of g l = 1 + sizes (fields_of (map plain_field l.fields.now))

abbrev pub invariant-times_of-loop : goal.invariant-times_of-loop
invariant-times_of-loop g l =
    (l.at ≤ l.place) × (l.place ≤ length l.bytes) × (l.steps + l.at ≤ l.fn.steps + l.place)
    × (with_front (plain_values l.values) (times_at (value_at (plain_type l.item)) (l.count - l.counter) l.bytes l.place) ≡ times_at (value_at (plain_type l.item)) l.count l.bytes l.at)
    × (l.steps + times_take (value_at (plain_type l.item)) (value_takes (plain_type l.item)) (l.count - l.counter) l.bytes l.place ≡ l.fn.steps + times_take (value_at (plain_type l.item)) (value_takes (plain_type l.item)) l.count l.bytes l.at)

abbrev pub invariant-fields_of-loop-field : goal.invariant-fields_of-loop-field
invariant-fields_of-loop-field g l =
    (l.at ≤ l.place) × (l.place ≤ length l.bytes) × (l.steps + l.at ≤ l.fn.steps + l.place)
    × (with_front (plain_values l.values) (fields_at (fields_of (map plain_field (drop l.field-index l.fields))) l.bytes l.place) ≡ fields_at (fields_of (map plain_field l.fields)) l.bytes l.at)
    × (sizes (fields_of (map plain_field (drop l.field-index l.fields))) ≤ sizes (fields_of (map plain_field l.fields)))
    × (l.steps + fields_take (fields_of (map plain_field (drop l.field-index l.fields))) l.bytes l.place ≡ l.fn.steps + fields_take (fields_of (map plain_field l.fields)) l.bytes l.at)
