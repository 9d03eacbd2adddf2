-- The text that a value is printed as.
use Rattle.std.specs.Prelude.{ℕ, ◌/◌, ◌%◌, List, [], ◌∷◌, ◌++◌, codes, Option, Some, None, unwrap_or, Bool, ◌&&◌, nat_lt, if◌then◌else◌}
use Rattle.std.specs.List.{slice_get, flat_map}
use Rattle.std.specs.Char.{digit_char}
use Rattle.std.specs.Fmt.{signed_decimal}
use Rattle.pss_base.specs.declared.pid.Pid.{Pid}
use Rattle.pss_base.specs.PidText.{pid_text}
use Rattle.type_layout.specs.Types.{PlainType, Seq, Arr, Struct, Enum, PlainFields, no_fields, field_and, PlainValue, Int, Character, Truth, Ordinal, Text, Items, Parts, Ref, PlainValues, no_values, value_and}
use Rattle.type_layout.specs.ShapeText.{listed}
use Rattle.value_text.specs.Words.{truth_text}
use Rattle.value_text.specs.Letters.{is_escaped}

-- from a space to `~`
abbrev pub is_printed : ℕ → Bool
is_printed c = nat_lt 31 c && nat_lt c 127

-- a byte between quotes: behind a `\`, as it is, or by two digits with small letters
abbrev pub byte_text : ℕ → ℕ → List ℕ
byte_text quote c =
    if is_escaped quote c then 92 ∷ c ∷ []
    else if is_printed c then c ∷ []
    else 92 ∷ 120 ∷ digit_char (c / 16) ∷ digit_char (c % 16) ∷ []

-- the text of an object's identifier, or `nil`
abbrev pub reference_text : Option Pid → List ℕ
reference_text None = codes "nil"
reference_text (Some pid) = pid_text pid

-- the text of a value whose type does not matter for it
abbrev pub plain_text : PlainValue → List ℕ
plain_text (Int z) = signed_decimal z
plain_text (Character c) = 39 ∷ (byte_text 39 c ++ 39 ∷ [])
plain_text (Truth b) = truth_text b
plain_text (Text bytes) = 34 ∷ (flat_map (byte_text 34) bytes ++ 34 ∷ [])
plain_text (Ref pid) = reference_text pid
plain_text _ = []

-- the elements of a list, the fields of a struct, the place of an enumerator
abbrev pub items_in : PlainValue → PlainValues
items_in (Items vs) = vs
items_in _ = no_values

abbrev pub parts_in : PlainValue → PlainValues
parts_in (Parts vs) = vs
parts_in _ = no_values

abbrev pub ordinal_in : PlainValue → ℕ
ordinal_in (Ordinal n) = n
ordinal_in _ = 0

-- the texts of values
abbrev pub each_printed : (PlainValue → List ℕ) → PlainValues → List (List ℕ)
each_printed print no_values = []
each_printed print (value_and v vs) = print v ∷ each_printed print vs

-- between `[` and `]`
abbrev pub list_printed : (PlainValue → List ℕ) → PlainValues → List ℕ
list_printed print vs = 91 ∷ (listed (each_printed print vs) ++ 93 ∷ [])

abbrev mutual
  -- the text of a value of the type
  pub printed : PlainType → PlainValue → List ℕ
  printed (Seq item bound) v = list_printed (printed item) (items_in v)
  printed (Arr item n) v = list_printed (printed item) (items_in v)
  printed (Struct fields) v = 123 ∷ (listed (fields_printed fields (parts_in v)) ++ 125 ∷ [])
  printed (Enum names) v = unwrap_or (slice_get names (ordinal_in v)) []
  printed _ v = plain_text v

  -- the texts of the fields' values
  pub fields_printed : PlainFields → PlainValues → List (List ℕ)
  fields_printed no_fields no_values = []
  fields_printed (field_and name type fields) (value_and v vs) = printed type v ∷ fields_printed fields vs
  fields_printed _ _ = []
