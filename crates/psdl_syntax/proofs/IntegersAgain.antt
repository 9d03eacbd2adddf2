-- Integers that are written are read again.
use Rattle.std.proofs.Common.{◌≡◌, ℕ, ◌+◌, ◌/◌, ◌%◌, ◌^◌, ◌<◌, ◌≤◌, List, [], ◌∷◌, ◌++◌, true, false, not, ◌==◌, length, Some, refl, sym, ap, ◌∙◌, inl, inr, arith}
use Rattle.std.specs.List.{list_all}
use Rattle.std.specs.Char.{is_ascii_alphabetic, is_ascii_digit, is_digit, digit_value}
use Rattle.std.specs.Fmt.{decimal}
use Rattle.std.specs.Str.Parse.{AllDigits, digits_value}
use Rattle.std.proofs.lemmas.Bool.{cases_lt, lt-ltb, ne_eqb}
use Rattle.std.proofs.lemmas.Fmt.{decimal_by_steps_wide, decimal_is_IsNumeral_wide}
use Rattle.psdl_tokens.specs.declared.token.TokenKind.TheVariants as kinds
use Rattle.psdl_tokens.specs.declared.lexeme.Lexeme.TheVariants.{Found}
use Rattle.psdl_tokens.specs.Alphabet.{first, is_word_byte, is_blank, run_at}
use Rattle.psdl_tokens.specs.Numerals.{is_hexadecimal, integer_of}
use Rattle.psdl_tokens.specs.Lexis.{lexeme, integer_lexeme}
use Rattle.psdl_syntax.proofs.WordsAgain.{word_at}

-- 0 is written as `0`, and another number begins with another digit
record Leads (n : ℕ) (digits : List ℕ) : Type 0 where
  is_zero : n ≡ 0 → digits ≡ 48 ∷ []
  is_more : 0 < n → 48 < first digits

leads_one : (n : ℕ) → n < 10 → Leads n ((48 + n) ∷ [])
leads_one n h = record {
  is_zero = λ e. ap (λ k. (48 + k) ∷ []) e;
  is_more = λ some. omega arith;
}

leads_more : (n : ℕ) (ds : List ℕ) → 10 ≤ n → Leads (n / 10) ds → Leads n (ds ++ (48 + n % 10) ∷ [])
leads_more n [] h so = record {
  is_zero = λ e. absurd (omega arith);
  is_more = λ some. let front : 48 < 0 = so.is_more (omega arith) in absurd (omega arith);
}
leads_more n (d ∷ ds) h so = record {
  is_zero = λ e. absurd (omega arith);
  is_more = λ some. so.is_more (omega arith);
}

leads : (n : ℕ) → n < 10 ^ 64 → Leads n (decimal n)
leads n h = decimal_by_steps_wide Leads leads_one leads_more n h

-- a decimal digit is one of `0` to `9`
digit_range : (c : ℕ) → digit_value c < 10 → is_ascii_digit c ≡ true
digit_range c h = grind arith

digit_word : (c : ℕ) → is_ascii_digit c ≡ true → is_word_byte c ≡ true
digit_word c h = grind arith

all_word : (ds : List ℕ) → AllDigits 10 ds → list_all is_word_byte ds ≡ true
all_word [] all = refl
all_word (d ∷ ds) all = rw (digit_word d (digit_range d all.0), all_word ds all.1) refl

all_digits : (ds : List ℕ) → AllDigits 10 ds → list_all (λ byte. is_digit byte 10) ds ≡ true
all_digits [] all = refl
all_digits (d ∷ ds) all = rw (lt-ltb (digit_value d) 10 all.0, all_digits ds all.1) refl

-- digits alone begin no hexadecimal integer
no_hexadecimal : (ds : List ℕ) → AllDigits 10 ds → is_hexadecimal ds ≡ false
no_hexadecimal [] all = refl
no_hexadecimal (d ∷ []) all = grind arith
no_hexadecimal (d ∷ e ∷ ds) all = let h : is_ascii_digit e ≡ true = digit_range e all.1.0 in grind arith

-- digits that do not begin with `0`
decimal_of : (ds : List ℕ) → 0 < length ds → AllDigits 10 ds → 48 < first ds → integer_of ds ≡ Some (digits_value 10 ds)
decimal_of ds some all more =
    let zeroless : (first ds == 48) ≡ false = ne_eqb (first ds) 48 (λ e. omega arith) in
    rw (no_hexadecimal ds all, zeroless, lt-ltb 0 (length ds) some, all_digits ds all) refl

-- the integer of a number's digits
integer_again : (n : ℕ) → n < 10 ^ 64 → integer_of (decimal n) ≡ Some n
integer_again n h =
    let numeral = decimal_is_IsNumeral_wide n h in
    let lead = leads n h in
    elim (cases_lt 0 n) [
      | inl more ↦ decimal_of (decimal n) numeral.0.0 numeral.0.1 (lead.is_more more) ∙ ap Some numeral.1
      | inr none ↦
          let e : n ≡ 0 = omega arith in
          ap integer_of (lead.is_zero e) ∙ ap Some (sym e)
    ]

-- a text that begins with a digit
digit_lexeme : (front : List ℕ) (c : ℕ) (cs : List ℕ) → is_ascii_digit c ≡ true → lexeme front (c ∷ cs) ≡ integer_lexeme (run_at (c ∷ cs))
unfolding lexeme
digit_lexeme front c cs h =
    let blank : is_blank c ≡ false = grind arith in
    let letter : is_ascii_alphabetic c ≡ false = grind arith in
    let low : (c == 95) ≡ false = grind arith in
    rw (blank, letter, low, h) refl

digits_lexeme : (front ds rest : List ℕ) → 0 < length ds → AllDigits 10 ds → not (is_word_byte (first rest)) ≡ true → lexeme front (ds ++ rest) ≡ integer_lexeme ds
digits_lexeme front [] rest some all ends = absurd (omega arith)
digits_lexeme front (d ∷ ds) rest some all ends =
    digit_lexeme front d (ds ++ rest) (digit_range d all.0) ∙ ap integer_lexeme (word_at (d ∷ ds) rest (all_word (d ∷ ds) all) ends)

found_again : (run : List ℕ) (n : ℕ) → n < 2 ^ 127 → integer_of run ≡ Some n → integer_lexeme run ≡ Found (kinds.Integer n) (length run)
unfolding integer_lexeme
found_again run n h e = rw (e, lt-ltb n (2 ^ 127) h) refl

-- an integer as it is written
pub integer_is_read : (front : List ℕ) (n : ℕ) (rest : List ℕ) → n < 2 ^ 127 → not (is_word_byte (first rest)) ≡ true → lexeme front (decimal n ++ rest) ≡ Found (kinds.Integer n) (length (decimal n))
integer_is_read front n rest h ends =
    let wide : n < 10 ^ 64 = omega arith in
    let numeral = decimal_is_IsNumeral_wide n wide in
    digits_lexeme front (decimal n) rest numeral.0.0 numeral.0.1 ends ∙ found_again (decimal n) n h (integer_again n wide)

-- it has a byte or more, and the first is a digit
pub size_decimal : (n : ℕ) → n < 2 ^ 127 → 0 < length (decimal n)
size_decimal n h = let wide : n < 10 ^ 64 = omega arith in (decimal_is_IsNumeral_wide n wide).0.0

first_of : (ds rest : List ℕ) → 0 < length ds → AllDigits 10 ds → is_ascii_digit (first (ds ++ rest)) ≡ true
first_of [] rest some all = absurd (omega arith)
first_of (d ∷ ds) rest some all = digit_range d all.0

pub first_digit : (n : ℕ) (rest : List ℕ) → n < 2 ^ 127 → is_ascii_digit (first (decimal n ++ rest)) ≡ true
first_digit n rest h =
    let wide : n < 10 ^ 64 = omega arith in
    let numeral = decimal_is_IsNumeral_wide n wide in
    first_of (decimal n) rest numeral.0.0 numeral.0.1
