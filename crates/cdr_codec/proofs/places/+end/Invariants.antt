use Rattle.std.proofs.Common.{◌≡◌, ◌≤◌, ◌+◌, ◌-◌, length, map, drop}
use Rattle.type_layout.specs.Types.{fields_of}
use Rattle.type_layout.specs.Views.{plain_type, plain_field}
use Rattle.cdr_codec.specs.Reading.{times_at, value_at, fields_at}
use Rattle.cdr_codec.specs.Places.{IsFound, end_of}
use Rattle.cdr_codec.proofs.Sizes.{size, sizes}
use Rattle.cdr_codec.proofs.places.+end.Given as goal

abbrev pub decreases-value_end : goal.decreases-value_end
decreases-value_end l = size (plain_type l.ty.now)

abbrev pub decreases-items_end : goal.decreases-items_end
decreases-items_end l = 1 + size (plain_type l.item.now)

abbrev pub decreases-fields_end : goal.decreases-fields_end
decreases-fields_end l = 1 + sizes (fields_of (map plain_field l.fields.now))

abbrev pub invariant-items_end-loop : goal.invariant-items_end-loop
invariant-items_end-loop l =
    (l.place ≤ length l.bytes)
    × IsFound (times_at (value_at (plain_type l.item)) (l.count - l.counter) l.bytes l.place)
    × (end_of (times_at (value_at (plain_type l.item)) (l.count - l.counter) l.bytes l.place) ≡ end_of (times_at (value_at (plain_type l.item)) l.count l.bytes l.at))

abbrev pub invariant-fields_end-loop-field : goal.invariant-fields_end-loop-field
invariant-fields_end-loop-field l =
    (l.place ≤ length l.bytes)
    × IsFound (fields_at (fields_of (map plain_field (drop l.field-index l.fields))) l.bytes l.place)
    × (end_of (fields_at (fields_of (map plain_field (drop l.field-index l.fields))) l.bytes l.place) ≡ end_of (fields_at (fields_of (map plain_field l.fields)) l.bytes l.at))
    × (sizes (fields_of (map plain_field (drop l.field-index l.fields))) ≤ sizes (fields_of (map plain_field l.fields)))
