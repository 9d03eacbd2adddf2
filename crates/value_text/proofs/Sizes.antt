-- How large a type is, and how many values there are.
use Rattle.std.proofs.Common.{ℕ, ◌+◌}
use Rattle.type_layout.specs.Types.{PlainType, Seq, Arr, Struct, PlainFields, no_fields, field_and}

abbrev mutual
  -- it falls from a type to its parts, by more than the calls between them take
  pub size : PlainType → ℕ
  size (Seq item bound) = 6 + size item
  size (Arr item n) = 6 + size item
  size (Struct fields) = 6 + sizes fields
  size _ = 0

  pub sizes : PlainFields → ℕ
  sizes no_fields = 0
  sizes (field_and name type fields) = 3 + size type + sizes fields
