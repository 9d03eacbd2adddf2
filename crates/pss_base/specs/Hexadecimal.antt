-- Numbers in lower-case hexadecimal digits.
use Rattle.std.specs.Prelude.{ℕ, suc, zero, ◌/◌, ◌%◌, List, [], ◌∷◌, ◌++◌, Option, Some, None, Bool, ◌||◌, ◌&&◌, nat_le, if◌then◌else◌}
use Rattle.std.specs.List.{list_all}
use Rattle.std.specs.Char.{digit_char, digit_value, is_ascii_digit}
use Rattle.std.specs.Str.Parse.{digits_value}

-- a decimal digit, or a letter from `a` to `f`
abbrev pub is_hex_digit : ℕ → Bool
is_hex_digit b = is_ascii_digit b || (nat_le 97 b && nat_le b 102)

-- what a digit counts
abbrev pub hex_value : ℕ → Option ℕ
hex_value b = if is_hex_digit b then Some (digit_value b) else None

-- the last digits of a number, as many as asked for
unfoldable pub hex_digits : ℕ → ℕ → List ℕ
hex_digits zero n = []
hex_digits (suc k) n = hex_digits k (n / 16) ++ digit_char (n % 16) ∷ []

-- the number that digits stand for, where all bytes are digits
abbrev pub hex_number : List ℕ → Option ℕ
hex_number text = if list_all is_hex_digit text then Some (digits_value 16 text) else None
