use Rattle.std.proofs.Common.{◌≡◌, map, drop}
use Rattle.type_layout.specs.Views.{plain_type, plain_field, plain_value}
use Rattle.type_layout.specs.Types.{fields_of, values_of}
use Rattle.type_layout.specs.Testing.{is_of, are_of, every}
use Rattle.type_layout.proofs.of_type.+of_type.Given as goal

abbrev pub invariant-every-loop-value : goal.invariant-every-loop-value
invariant-every-loop-value l = every (is_of (plain_type l.item)) (values_of (map plain_value (drop l.value-index l.values))) ≡ every (is_of (plain_type l.item)) (values_of (map plain_value l.values))

abbrev pub invariant-are_of-loop-field : goal.invariant-are_of-loop-field
invariant-are_of-loop-field l =
    are_of (fields_of (map plain_field (drop l.field-index l.fields))) (values_of (map plain_value l.remaining))
    ≡ are_of (fields_of (map plain_field l.fields)) (values_of (map plain_value l.values))
