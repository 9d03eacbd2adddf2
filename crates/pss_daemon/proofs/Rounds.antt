-- The decimal texts of the numbers from 1 to 1000.
use Rattle.std.proofs.Common.{◌≡◌, ℕ, zero, suc, ◌<◌, ◌≤◌, ◌^◌, List, get_or, Result, Ok, sym, ap, ◌∙◌, subst, arith}
use Rattle.std.specs.Fmt.{decimal}
use Rattle.std.specs.Str.{IsUtf8}
use Rattle.std.specs.Str.Parse.{AllDigits, digits_value, ParsesUnsigned}
use Rattle.std.proofs.lemmas.Fmt.{first_decimal, decimal_nonempty, digits_decimal, decimal-digits_value, IsAscii-decimal, parse-decimal, decimal_digit}
use Rattle.std.proofs.lemmas.Str.{IsUtf8-from_ascii}
use Rattle.std.proofs.lemmas.Str.Parse.{IsNumeralModel, numerals_by_value, tells_digits, digit_at, parse_plain}

digits : IsNumeralModel (AllDigits 10) (digits_value 10)
digits = numerals_by_value (AllDigits 10) tells_digits

-- the first byte is a digit other than 0
pub decimal_begins : (word : List ℕ) (n : ℕ) → 1 ≤ n → n ≤ 1000 → word ≡ decimal n → (48 < get_or word 0 0) × (get_or word 0 0 < 58)
decimal_begins word n low high e =
    let fits : n < 2 ^ 64 = omega arith in
    let first = digit_at (decimal n) 0 (digits_decimal digits n fits) (decimal_nonempty n fits) in
    subst (λ w. (48 < get_or w 0 0) × (get_or w 0 0 < 58)) (sym e) (first_decimal n (omega arith) fits, omega (arith, first.1))

pub decimal_is_text : (word : List ℕ) (n : ℕ) → n ≤ 1000 → word ≡ decimal n → IsUtf8 word
decimal_is_text word n high e = subst IsUtf8 (sym e) (IsUtf8-from_ascii (decimal n) (IsAscii-decimal n (omega arith)))

-- such a text is read as its number
pub decimal_is_read : {E : Type 0} (word : List ℕ) (n : ℕ) (r : Result ℕ E) → n ≤ 1000 → word ≡ decimal n → ParsesUnsigned 32 10 word r → r ≡ Ok n
decimal_is_read word n r high e h = parse-decimal 32 n word r (omega arith) (omega arith) e h

not_zero : (n : ℕ) (word : List ℕ) → word ≡ decimal n → 48 < get_or word 0 0 → 1 ≤ n
not_zero zero word e low = absurd (omega (arith, ap (λ w. get_or w 0 0) (e ∙ decimal_digit 0 (omega arith))))
not_zero (suc n) word e low = omega arith

-- what is read without sign and leading zero is the number's text
pub read_is_decimal : {E : Type 0} (word : List ℕ) (n : ℕ) (r : Result ℕ E) → r ≡ Ok n → ParsesUnsigned 32 10 word r → 48 < get_or word 0 0 → (1 ≤ n) × (word ≡ decimal n)
read_is_decimal {E} word n r e h low =
    let is = parse_plain digits {E = E} 32 word (Ok n) (subst (ParsesUnsigned 32 10 word) e h) (λ plus. omega (arith, plus)) in
    let text : word ≡ decimal n =
    sym (ap decimal is.1 ∙ decimal-digits_value digits word is.0.0 is.0.1 (λ zero. absurd (omega (arith, zero))) (omega (arith, is.0.2))) in
    (not_zero n word text low, text)
