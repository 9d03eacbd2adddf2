-- The test by which a program tells whether a value is of a type.
use Rattle.std.specs.Prelude.{ℕ, ℤ, pos, negsuc, List, length, Some, None, Bool, true, false, not, ◌&&◌, ◌==◌, nat_lt, int_le}
use Rattle.type_layout.specs.declared.home.HomeNo.{HomeNo}
use Rattle.type_layout.specs.Types.{PlainType, Short, Long, LongLong, UShort, ULong, ULongLong, Char, Boolean, Octet, Str, Seq, Arr, Struct, Enum, RefTo, PlainFields, no_fields, field_and, PlainValue, Int, Character, Truth, Ordinal, Text, Items, Parts, Ref, PlainValues, no_values, value_and}
use Rattle.type_layout.specs.Values.{count, is_over, has_zero, are_bytes, lists}

-- each of the values passes
abbrev pub every : (PlainValue → Bool) → PlainValues → Bool
every test no_values = true
every test (value_and v vs) = test v && every test vs

abbrev pub is_between : ℤ → ℤ → PlainValue → Bool
is_between low high (Int z) = int_le low z && int_le z high
is_between low high _ = false

abbrev pub is_character : PlainValue → Bool
is_character (Character c) = nat_lt c 256
is_character _ = false

abbrev pub is_truth : PlainValue → Bool
is_truth (Truth b) = true
is_truth _ = false

abbrev pub is_text : ℕ → PlainValue → Bool
is_text bound (Text bytes) = not (has_zero bytes) && not (is_over bound (length bytes)) && nat_lt (length bytes) 4294967295 && are_bytes bytes
is_text bound _ = false

abbrev pub is_sequence : (PlainValue → Bool) → ℕ → PlainValue → Bool
is_sequence test bound (Items vs) = not (is_over bound (count vs)) && nat_lt (count vs) 4294967296 && every test vs
is_sequence test bound _ = false

abbrev pub is_array : (PlainValue → Bool) → ℕ → PlainValue → Bool
is_array test n (Items vs) = count vs == n && every test vs
is_array test n _ = false

abbrev pub is_enumerator : List (List ℕ) → PlainValue → Bool
is_enumerator names (Ordinal n) = nat_lt n (length names) && nat_lt n 4294967296
is_enumerator names _ = false

abbrev pub is_reference : List HomeNo → PlainValue → Bool
is_reference homes (Ref None) = true
is_reference homes (Ref (Some pid)) = lists homes pid.home && nat_lt pid.home 4294967296 && nat_lt 0 pid.serial && nat_lt pid.serial 18446744073709551616
is_reference homes _ = false

abbrev pub is_struct : (PlainValues → Bool) → PlainValue → Bool
is_struct test (Parts vs) = test vs
is_struct test _ = false

abbrev mutual
  pub is_of : PlainType → PlainValue → Bool
  is_of Short v = is_between (negsuc 32767) (pos 32767) v
  is_of Long v = is_between (negsuc 2147483647) (pos 2147483647) v
  is_of LongLong v = is_between (negsuc 9223372036854775807) (pos 9223372036854775807) v
  is_of UShort v = is_between (pos 0) (pos 65535) v
  is_of ULong v = is_between (pos 0) (pos 4294967295) v
  is_of ULongLong v = is_between (pos 0) (pos 18446744073709551615) v
  is_of Char v = is_character v
  is_of Boolean v = is_truth v
  is_of Octet v = is_between (pos 0) (pos 255) v
  is_of (Str bound) v = is_text bound v
  is_of (Seq item bound) v = is_sequence (is_of item) bound v
  is_of (Arr item n) v = is_array (is_of item) n v
  is_of (Struct fields) v = is_struct (are_of fields) v
  is_of (Enum names) v = is_enumerator names v
  is_of (RefTo homes) v = is_reference homes v

  pub are_of : PlainFields → PlainValues → Bool
  are_of no_fields no_values = true
  are_of (field_and name type fields) (value_and v vs) = is_of type v && are_of fields vs
  are_of _ _ = false
