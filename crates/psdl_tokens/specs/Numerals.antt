-- Integers in the texts of schemas.
use Rattle.std.specs.Prelude.{ℕ, List, Bool, ◌||◌, ◌&&◌, ◌==◌, nat_lt, length, drop, Some, None, if◌then◌else◌}
use Rattle.std.specs.declared.option.Option.{Option}
use Rattle.std.specs.List.{list_all}
use Rattle.std.specs.Char.{is_digit}
use Rattle.std.specs.Str.{byte}
use Rattle.std.specs.Str.Parse.{digits_value}
use Rattle.psdl_tokens.specs.Alphabet.{first, second}

-- the number that one digit or more stand for
abbrev pub numeral : ℕ → List ℕ → Option ℕ
numeral radix digits =
    if nat_lt 0 (length digits) && list_all (λ byte. is_digit byte radix) digits then Some (digits_value radix digits) else None

-- `0x` or `0X` stands at the front
abbrev pub is_hexadecimal : List ℕ → Bool
is_hexadecimal run = first run == byte "0" && (second run == byte "x" || second run == byte "X")

-- The integer that a run of letters, digits and `_` spells: hexadecimal behind `0x`, octal with a leading 0
-- (`0` among them), else decimal.
abbrev pub integer_of : List ℕ → Option ℕ
integer_of run =
    if is_hexadecimal run then numeral 16 (drop 2 run)
    else if first run == byte "0" then numeral 8 run
    else numeral 10 run
