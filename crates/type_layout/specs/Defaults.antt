-- The values that members have until others are given.
use Rattle.std.specs.Prelude.{ℕ, zero, suc, pos, List, [], map, None, false}
use Rattle.type_layout.specs.Types.{PlainType, Short, Long, LongLong, UShort, ULong, ULongLong, Char, Boolean, Octet, Str, Seq, Arr, Struct, Enum, RefTo, PlainFields, no_fields, field_and, PlainValue, Int, Character, Truth, Ordinal, Text, Items, Parts, Ref, PlainValues, no_values, value_and, PlainMember}

-- n times one value
abbrev pub copies : ℕ → PlainValue → PlainValues
copies zero v = no_values
copies (suc n) v = value_and v (copies n v)

abbrev mutual
  -- the default of a type
  pub default : PlainType → PlainValue
  default Short = Int (pos 0)
  default Long = Int (pos 0)
  default LongLong = Int (pos 0)
  default UShort = Int (pos 0)
  default ULong = Int (pos 0)
  default ULongLong = Int (pos 0)
  default Char = Character 0
  default Boolean = Truth false
  default Octet = Int (pos 0)
  default (Str bound) = Text []
  default (Seq item bound) = Items no_values
  default (Arr item n) = Items (copies n (default item))
  default (Struct fields) = Parts (defaults fields)
  default (Enum names) = Ordinal 0
  default (RefTo homes) = Ref None

  -- the defaults of fields
  pub defaults : PlainFields → PlainValues
  defaults no_fields = no_values
  defaults (field_and name type fields) = value_and (default type) (defaults fields)

-- the record of a layout's defaults
abbrev pub default_record : List PlainMember → List PlainValue
default_record members = map (λ m. default m.type) members
