use Rattle.std.proofs.Common.{◌≡◌, ◌++◌, ◌+◌, ◌≤◌, length, map, drop}
use Rattle.type_layout.specs.Types.{fields_of, values_of}
use Rattle.type_layout.specs.Views.{plain_type, plain_field, plain_value}
use Rattle.type_layout.specs.Values.{Of, AreOf, EachOf}
use Rattle.type_layout.specs.Spelling.{each, spelling, spellings}
use Rattle.cdr_codec.proofs.Sizes.{size, sizes}
use Rattle.cdr_codec.proofs.encode.+put.Given as goal

abbrev pub decreases-put : goal.decreases-put
decreases-put l = 1 + size (plain_type l.ty.now)

abbrev pub decreases-put_list : goal.decreases-put_list
decreases-put_list l = size (plain_type l.ty.now)

abbrev pub decreases-put_struct : goal.decreases-put_struct
decreases-put_struct l = size (plain_type l.ty.now)

abbrev pub decreases-put_items : goal.decreases-put_items
decreases-put_items l = 2 + size (plain_type l.item.now)

abbrev pub decreases-put_fields : goal.decreases-put_fields
decreases-put_fields l = 2 + sizes (fields_of (map plain_field l.fields.now))

abbrev pub invariant-put_items-loop-value : goal.invariant-put_items-loop-value
invariant-put_items-loop-value l =
    EachOf (Of (plain_type l.item)) (values_of (map plain_value (drop l.value-index l.values)))
    × (l.out ++ each (spelling (plain_type l.item)) (values_of (map plain_value (drop l.value-index l.values))) (length l.out)
    ≡ l.fn.out ++ each (spelling (plain_type l.item)) (values_of (map plain_value l.values)) (length l.fn.out))

abbrev pub invariant-put_fields-loop-field : goal.invariant-put_fields-loop-field
invariant-put_fields-loop-field l =
    AreOf (fields_of (map plain_field (drop l.field-index l.fields))) (values_of (map plain_value l.remaining))
    × (sizes (fields_of (map plain_field (drop l.field-index l.fields))) ≤ sizes (fields_of (map plain_field l.fields)))
    × (l.out ++ spellings (fields_of (map plain_field (drop l.field-index l.fields))) (values_of (map plain_value l.remaining)) (length l.out)
    ≡ l.fn.out ++ spellings (fields_of (map plain_field l.fields)) (values_of (map plain_value l.values)) (length l.fn.out))
