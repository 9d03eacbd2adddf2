-- The one spelling of each value in CDR, big-endian, with zero octets as padding.
use Rattle.std.specs.Prelude.{ℕ, ◌+◌, ◌-◌, ◌%◌, ◌≡◌, List, [], ◌∷◌, ◌++◌, length, replicate, Option, Some, None}
use Rattle.std.specs.Int.{Width, w8, w16, w32, w64, byte_len, to_be_bytes, cast_unsigned, from_bool}
use Rattle.pss_base.specs.declared.pid.Pid.{Pid}
use Rattle.type_layout.specs.Types.{PlainType, Short, Long, LongLong, UShort, ULong, ULongLong, Char, Boolean, Octet, Str, Seq, Arr, Struct, Enum, RefTo, PlainFields, no_fields, field_and, PlainValue, Int, Character, Truth, Ordinal, Text, Items, Parts, Ref, PlainValues, no_values, value_and, values_of, PlainMember}
use Rattle.type_layout.specs.Values.{Of, count, layout_fields}

-- how many octets lie up to the next place that k divides
abbrev pub gap : ℕ → ℕ → ℕ
gap k at = (k - at % k) % k

-- the zero octets up to there
abbrev pub padding : ℕ → ℕ → List ℕ
padding k at = replicate (gap k at) 0

-- a number of some width, aligned to it
abbrev pub number : Width → ℕ → ℕ → List ℕ
number w n at = padding (byte_len w) at ++ to_be_bytes w n

-- the home and the serial of an object, or 0 and 0
abbrev pub reference : Option Pid → ℕ → List ℕ
reference None at = number w32 0 at ++ number w64 0 (at + length (number w32 0 at))
reference (Some pid) at = number w32 pid.home at ++ number w64 pid.serial (at + length (number w32 pid.home at))

-- values one behind the other, each spelled where the one before it ends
abbrev pub each : (PlainValue → ℕ → List ℕ) → PlainValues → ℕ → List ℕ
each spell no_values at = []
each spell (value_and v vs) at = spell v at ++ each spell vs (at + length (spell v at))

abbrev mutual
  -- the octets of a value of the type that begins at a place
  pub spelling : PlainType → PlainValue → ℕ → List ℕ
  spelling Short (Int z) at = number w16 (cast_unsigned w16 z) at
  spelling Long (Int z) at = number w32 (cast_unsigned w32 z) at
  spelling LongLong (Int z) at = number w64 (cast_unsigned w64 z) at
  spelling UShort (Int z) at = number w16 (cast_unsigned w16 z) at
  spelling ULong (Int z) at = number w32 (cast_unsigned w32 z) at
  spelling ULongLong (Int z) at = number w64 (cast_unsigned w64 z) at
  spelling Char (Character c) at = number w8 c at
  spelling Boolean (Truth b) at = number w8 (from_bool b) at
  spelling Octet (Int z) at = number w8 (cast_unsigned w8 z) at
  spelling (Str bound) (Text bytes) at = number w32 (length bytes + 1) at ++ (bytes ++ 0 ∷ [])
  spelling (Seq item bound) (Items vs) at = number w32 (count vs) at ++ each (spelling item) vs (at + length (number w32 (count vs) at))
  spelling (Arr item n) (Items vs) at = each (spelling item) vs at
  spelling (Struct fields) (Parts vs) at = spellings fields vs at
  spelling (Enum names) (Ordinal n) at = number w32 n at
  spelling (RefTo homes) (Ref pid) at = reference pid at
  spelling _ _ at = []

  -- the octets of the fields' values
  pub spellings : PlainFields → PlainValues → ℕ → List ℕ
  spellings no_fields no_values at = []
  spellings (field_and name type fields) (value_and v vs) at = spelling type v at ++ spellings fields vs (at + length (spelling type v at))
  spellings _ _ at = []

-- these octets spell the value where they begin at this place
abbrev pub Spells : PlainType → PlainValue → ℕ → List ℕ → Type 0
Spells type value at bytes = Of type value × (bytes ≡ spelling type value at)

-- the octets of a record: the flag of big-endian, and the members' values
abbrev pub record_spelling : List PlainMember → List PlainValue → List ℕ
record_spelling members values = 0 ∷ spellings (layout_fields members) (values_of values) 1
