-- Which values a type has.
use Rattle.std.specs.Prelude.{ℕ, ◌+◌, ◌^◌, ◌<◌, ◌≡◌, List, [], ◌∷◌, length, Option, Some, None, Bool, false, not, ◌&&◌, ◌==◌, nat_lt, IsTrue, FitsSigned}
use Rattle.std.specs.Int.{w8, w16, w32, w64, FitsUnsigned}
use Rattle.std.specs.List.{list_any, list_all}
use Rattle.pss_base.specs.declared.pid.Pid.{Pid}
use Rattle.type_layout.specs.declared.home.HomeNo.{HomeNo}
use Rattle.type_layout.specs.Types.{PlainType, Short, Long, LongLong, UShort, ULong, ULongLong, Char, Boolean, Octet, Str, Seq, Arr, Struct, Enum, RefTo, PlainFields, no_fields, field_and, PlainValue, Int, Character, Truth, Ordinal, Text, Items, Parts, Ref, PlainValues, no_values, value_and, values_of, PlainMember}

-- how many values
abbrev pub count : PlainValues → ℕ
count no_values = 0
count (value_and v vs) = 1 + count vs

-- each of the values is so
abbrev pub EachOf : (PlainValue → Type 0) → PlainValues → Type 0
EachOf P no_values = Unit {0}
EachOf P (value_and v vs) = P v × EachOf P vs

-- n is over the bound, where there is one
abbrev pub is_over : ℕ → ℕ → Bool
is_over bound n = not (bound == 0) && nat_lt bound n

-- a byte is 0
abbrev pub has_zero : List ℕ → Bool
has_zero bytes = list_any (λ b. b == 0) bytes

-- each of them is a byte
abbrev pub are_bytes : List ℕ → Bool
are_bytes bytes = list_all (λ b. nat_lt b 256) bytes

-- the list has this home
abbrev pub lists : List HomeNo → ℕ → Bool
lists homes home = list_any (λ h. h.0 == home) homes

-- nil, or an object of one of these homes with a serial; both are numbers of their widths
abbrev pub LeadsTo : List HomeNo → Option Pid → Type 0
LeadsTo homes None = Unit {0}
LeadsTo homes (Some pid) = IsTrue (lists homes pid.home) × (pid.home < 2 ^ 32) × (0 < pid.serial) × (pid.serial < 2 ^ 64)

abbrev mutual
  -- the value is of the type
  pub Of : PlainType → PlainValue → Type 0
  Of Short (Int z) = FitsSigned w16 z
  Of Long (Int z) = FitsSigned w32 z
  Of LongLong (Int z) = FitsSigned w64 z
  Of UShort (Int z) = FitsUnsigned w16 z
  Of ULong (Int z) = FitsUnsigned w32 z
  Of ULongLong (Int z) = FitsUnsigned w64 z
  Of Char (Character c) = c < 2 ^ 8
  Of Boolean (Truth b) = Unit {0}
  Of Octet (Int z) = FitsUnsigned w8 z
  Of (Str bound) (Text bytes) = (has_zero bytes ≡ false) × (is_over bound (length bytes) ≡ false) × (length bytes + 1 < 2 ^ 32) × IsTrue (are_bytes bytes)
  Of (Seq item bound) (Items vs) = EachOf (Of item) vs × (is_over bound (count vs) ≡ false) × (count vs < 2 ^ 32)
  Of (Arr item n) (Items vs) = EachOf (Of item) vs × (count vs ≡ n)
  Of (Struct fields) (Parts vs) = AreOf fields vs
  Of (Enum names) (Ordinal n) = (n < length names) × (n < 2 ^ 32)
  Of (RefTo homes) (Ref pid) = LeadsTo homes pid
  Of _ _ = ⊥

  -- as many values as fields, each of its field's type
  pub AreOf : PlainFields → PlainValues → Type 0
  AreOf no_fields no_values = Unit {0}
  AreOf (field_and name type fields) (value_and v vs) = Of type v × AreOf fields vs
  AreOf _ _ = ⊥

-- the members of a layout as the fields of a struct
abbrev pub layout_fields : List PlainMember → PlainFields
layout_fields [] = no_fields
layout_fields (m ∷ ms) = field_and m.name m.type (layout_fields ms)

-- the values are a record of the layout
abbrev pub IsRecord : List PlainMember → List PlainValue → Type 0
IsRecord members values = AreOf (layout_fields members) (values_of values)
