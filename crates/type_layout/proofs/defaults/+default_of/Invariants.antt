use Rattle.std.proofs.Common.{◌≡◌, ◌-◌, map, drop}
use Rattle.type_layout.specs.Types.{fields_of}
use Rattle.type_layout.specs.Views.{plain_type, plain_field, plain_values}
use Rattle.type_layout.specs.Defaults.{default, defaults, copies}
use Rattle.type_layout.proofs.Joining.{joined}
use Rattle.type_layout.proofs.defaults.+default_of.Given as goal

abbrev pub invariant-array_of-loop : goal.invariant-array_of-loop
invariant-array_of-loop l = joined (plain_values l.values) (copies (l.count - l.counter) (default (plain_type l.item))) ≡ copies l.count (default (plain_type l.item))

abbrev pub invariant-struct_of-loop-field : goal.invariant-struct_of-loop-field
invariant-struct_of-loop-field l = joined (plain_values l.values) (defaults (fields_of (map plain_field (drop l.field-index l.fields)))) ≡ defaults (fields_of (map plain_field l.fields))
