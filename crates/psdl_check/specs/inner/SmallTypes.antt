-- What types the members of a text's homes have.
use Rattle.std.specs.Coded.{×_prop, Unit-prop, le_prop}
use Rattle.std.specs.Prelude.{ℕ, List}
use Rattle.type_layout.specs.Sound.{EachMember}
use Rattle.type_layout.specs.Types.{PlainType, Short, Long, LongLong, UShort, ULong, ULongLong, Char, Boolean, Octet, Str, Seq, Arr, Struct, Enum, RefTo, PlainFields, no_fields, field_and, PlainMember}
use Rattle.psdl_directory.specs.Declarations.{Declaration}
use Rattle.psdl_standings.specs.SmallTypes.{IsSmall, AreSmall}
use Rattle.psdl_standings.specs.Standings.{standings}
use Rattle.psdl_check.specs.Schemas.{home_layout}

-- a schema has room for the bounds in the types of members
abbrev pub HasSmallTypes : List PlainMember → Type 0
HasSmallTypes members = EachMember members (λ m. IsSmall m.type)

-- of those of all homes
abbrev pub AreSmallLayouts : List Declaration → Type 0
AreSmallLayouts all = (n : ℕ) → HasSmallTypes (home_layout all (standings all) n)

mutual
  -- a type is small in one way, so that a text can keep this of its homes
  pub small_prop : (type : PlainType) → IsProp (IsSmall type)
  small_prop (Str bound) = le_prop
  small_prop (Seq item bound) = ×_prop le_prop (small_prop item)
  small_prop (Arr item count) = ×_prop le_prop (small_prop item)
  small_prop (Struct fields) = all_small_prop fields
  small_prop Short = Unit-prop
  small_prop Long = Unit-prop
  small_prop LongLong = Unit-prop
  small_prop UShort = Unit-prop
  small_prop ULong = Unit-prop
  small_prop ULongLong = Unit-prop
  small_prop Char = Unit-prop
  small_prop Boolean = Unit-prop
  small_prop Octet = Unit-prop
  small_prop (Enum names) = Unit-prop
  small_prop (RefTo homes) = Unit-prop

  all_small_prop : (fields : PlainFields) → IsProp (AreSmall fields)
  all_small_prop no_fields = Unit-prop
  all_small_prop (field_and name type fields) = ×_prop (small_prop type) (all_small_prop fields)
