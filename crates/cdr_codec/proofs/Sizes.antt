-- How large a type is, and how many values there are.
use Rattle.std.proofs.Common.{◌≡◌, ℕ, ◌+◌, List, [], ◌∷◌, length, map, refl, arith}
use Rattle.type_layout.specs.declared.value.Value.{Value}
use Rattle.type_layout.specs.Types.{PlainType, Seq, Arr, Struct, PlainFields, no_fields, field_and, values_of}
use Rattle.type_layout.specs.Values.{count}
use Rattle.type_layout.specs.Views.{plain_value}

abbrev mutual
  -- it falls from a type to its parts, by more than the calls between them take
  pub size : PlainType → ℕ
  size (Seq item bound) = 4 + size item
  size (Arr item n) = 4 + size item
  size (Struct fields) = 4 + sizes fields
  size _ = 0

  pub sizes : PlainFields → ℕ
  sizes no_fields = 0
  sizes (field_and name type fields) = 1 + size type + sizes fields

pub count_is : (vs : List Value) → count (values_of (map plain_value vs)) ≡ length vs
count_is [] = refl
count_is (v ∷ vs) = omega (arith, count_is vs)
