-- Types with bounds and numbers of items that a schema has room for.
use Rattle.std.specs.Prelude.{◌^◌, ◌<◌}
use Rattle.type_layout.specs.Types.{PlainType, Str, Seq, Arr, Struct, PlainFields, no_fields, field_and}

abbrev mutual
  -- each bound of a string or a sequence and each number of items of an array in the type fits into 32 bits
  pub IsSmall : PlainType → Type 0
  IsSmall (Str bound) = bound < 2 ^ 32
  IsSmall (Seq item bound) = (bound < 2 ^ 32) × IsSmall item
  IsSmall (Arr item count) = (count < 2 ^ 32) × IsSmall item
  IsSmall (Struct fields) = AreSmall fields
  IsSmall _ = Unit {0}

  pub AreSmall : PlainFields → Type 0
  AreSmall no_fields = Unit {0}
  AreSmall (field_and name type fields) = IsSmall type × AreSmall fields
