-- What is printed is a spelling.
use Rattle.std.proofs.Common.{◌≡◌, ℕ, suc, ◌+◌, ◌*◌, ◌/◌, ◌%◌, ◌^◌, ◌<◌, ◌≤◌, Bool, true, false, cond, List, [], ◌∷◌, ◌++◌, length, map, Some, None, refl, sym, ap, subst, ◌∙◌, arith, ℤ, pos, negsuc, neg_ℤ}
use Rattle.std.specs.Prelude.{decimal, nat_lt, ◌&&◌}
use Rattle.std.specs.List.{list_all, flat_map}
use Rattle.std.specs.Char.{is_digit, digit_value, digit_char}
use Rattle.std.specs.Str.Parse.{AllDigits, digits_value, starts_with_minus}
use Rattle.std.specs.Fmt.{signed_decimal}
use Rattle.std.proofs.lemmas.Bool.{ne_eqb, lt-ltb}
use Rattle.std.proofs.lemmas.Bool.Decides.{nat_tests}
use Rattle.std.proofs.lemmas.Int.{ints}
use Rattle.std.proofs.lemmas.Fmt.{decimal_is_IsNumeral, length-decimal-le}
use Rattle.std.proofs.lemmas.Str.{digit_value-digit_char}
use Rattle.std.proofs.lemmas.Option.{slice_get-get_or, unwrap_or-slice_get}
use Rattle.std.proofs.lemmas.List.Folds.{flat_map-map}
use Rattle.pss_base.proofs.PidTexts.{pid_again}
use Rattle.type_layout.specs.Types.{PlainType, Short, Long, LongLong, UShort, ULong, ULongLong, Char, Boolean, Octet, Str, Seq, Arr, Struct, Enum, RefTo, PlainFields, no_fields, field_and, PlainValue, Int, Character, Truth, Ordinal, Text, Items, Parts, Ref, PlainValues, no_values, value_and}
use Rattle.type_layout.specs.Values.{Of, AreOf, EachOf, are_bytes}
use Rattle.value_text.specs.Words.{is_decimal, IsNumber}
use Rattle.value_text.specs.Letters.{is_escaped, SpellsByte, SpellBytes}
use Rattle.value_text.specs.Texts.{joined, EachWritten, Writes, FieldsWritten}
use Rattle.value_text.specs.Printed.{is_printed, byte_text, each_printed, printed, fields_printed}
use Rattle.value_text.proofs.WordLaws.{IsNarrow}

-- ---- numbers

digits_pass : (ds : List ℕ) → AllDigits 10 ds → list_all (λ b. is_digit b 10) ds ≡ true
digits_pass [] h = refl
digits_pass (d ∷ ds) h = rw (lt-ltb (digit_value d) 10 h.0) (digits_pass ds h.1)

-- the digits of a number of at most 64 bits
record IsDecimal (n : ℕ) : Type 0 where
  passes : is_decimal (decimal n) ≡ true
  no_sign : starts_with_minus (decimal n) ≡ false
  value : digits_value 10 (decimal n) ≡ n

no_minus : (ds : List ℕ) → AllDigits 10 ds → starts_with_minus ds ≡ false
no_minus [] h = refl
no_minus (d ∷ ds) h = ne_eqb d 45 (λ e. (let low : digit_value 45 < 10 = subst (λ (k : ℕ). digit_value k < 10) e h.0 in absurd (omega arith)))

is_decimal_text : (n : ℕ) → n < 2 ^ 64 → IsDecimal n
is_decimal_text n small =
    let d = decimal_is_IsNumeral n small in
    let short : length (decimal n) ≤ 20 = length-decimal-le 20 n (omega arith) (omega arith) small in
    record {
      passes = rw (lt-ltb 0 (length (decimal n)) d.0.0, lt-ltb (length (decimal n)) 40 (omega arith)) (digits_pass (decimal n) d.0.1);
      no_sign = no_minus (decimal n) d.0.1;
      value = d.1;
    }

pub number_written : (z : ℤ) → IsNarrow z → IsNumber z (signed_decimal z)
number_written (pos n) narrow =
    let d = is_decimal_text n (omega (arith, ints, narrow)) in
    rw d.no_sign (d.passes, sym (ap pos d.value))
number_written (negsuc n) narrow =
    let d = is_decimal_text (suc n) (omega (arith, ints, narrow)) in
    (d.passes, sym (ap (λ (k : ℕ). neg_ℤ (pos k)) d.value))

-- ---- bytes between quotes

hex_digit : (d : ℕ) → d < 16 → is_digit (digit_char d) 16 ≡ true
hex_digit d small = lt-ltb (digit_value (digit_char d)) 16 (omega (arith, digit_value-digit_char d (omega arith)))

byte_written : (quote c : ℕ) → c < 256 → SpellsByte quote c (byte_text quote c)
byte_written quote c small = by_tests (is_escaped quote c) refl (is_printed c) refl
  where
    by_tests : (s : Bool) → is_escaped quote c ≡ s → (t : Bool) → is_printed c ≡ t → SpellsByte quote c (cond s (92 ∷ c ∷ []) (cond t (c ∷ []) (92 ∷ 120 ∷ digit_char (c / 16) ∷ digit_char (c % 16) ∷ [])))
    by_tests true escaped t test = (refl, escaped, refl)
    by_tests false escaped true test =
        let above : 31 < c = grind (arith, nat_tests) in
        let no_feed = ne_eqb c 10 (λ e. omega arith) in
        let no_zero = ne_eqb c 0 (λ e. omega arith) in
        (rw (escaped, no_feed, no_zero) refl, refl)
    by_tests false escaped false test =
        let high : c / 16 < 16 = omega arith in
        let low : c % 16 < 16 = omega arith in
        let sum : c ≡ c / 16 * 16 + c % 16 = omega arith in
        (refl, refl, rw (hex_digit (c / 16) high) (hex_digit (c % 16) low), rw (digit_value-digit_char (c / 16) (omega arith), digit_value-digit_char (c % 16) (omega arith)) sum)

bytes_written : (quote : ℕ) (bytes : List ℕ) → are_bytes bytes ≡ true → SpellBytes quote bytes (map (byte_text quote) bytes)
bytes_written quote [] small = tt
bytes_written quote (b ∷ bytes) small = by (nat_lt b 256) refl small (λ others. bytes_written quote bytes others)
  where
    by : (t : Bool) → nat_lt b 256 ≡ t → (t && are_bytes bytes) ≡ true → (are_bytes bytes ≡ true → SpellBytes quote bytes (map (byte_text quote) bytes)) → SpellBytes quote (b ∷ bytes) (map (byte_text quote) (b ∷ bytes))
    by true low others rest = (byte_written quote b (grind (arith, nat_tests)), rest others)
    by false high others rest = absurd cc

joined_texts : (f : ℕ → List ℕ) (xs : List ℕ) → joined (map f xs) ≡ flat_map f xs
joined_texts f xs = flat_map-map (λ (t : List ℕ). t) f xs

-- ---- values

each_written : (P : PlainValue → Type 0) (W : PlainValue → List ℕ → Type 0) (print : PlainValue → List ℕ) → ((v : PlainValue) → P v → W v (print v)) → (vs : PlainValues) → EachOf P vs → EachWritten W vs (each_printed print vs)
each_written P W print written no_values of = tt
each_written P W print written (value_and v vs) of = (written v of.0, each_written P W print written vs of.1)

mutual
  pub printed_writes : (t : PlainType) (v : PlainValue) → Of t v → Writes t v (printed t v)
  printed_writes Short (Int z) of = number_written z (omega (arith, ints, of), omega (arith, ints, of))
  printed_writes Long (Int z) of = number_written z (omega (arith, ints, of), omega (arith, ints, of))
  printed_writes LongLong (Int z) of = number_written z (omega (arith, ints, of), omega (arith, ints, of))
  printed_writes UShort (Int z) of = number_written z (omega (arith, ints, of), omega (arith, ints, of))
  printed_writes ULong (Int z) of = number_written z (omega (arith, ints, of), omega (arith, ints, of))
  printed_writes ULongLong (Int z) of = number_written z (omega (arith, ints, of), omega (arith, ints, of))
  printed_writes Octet (Int z) of = number_written z (omega (arith, ints, of), omega (arith, ints, of))
  printed_writes Char (Character c) of = (byte_text 39 c, byte_written 39 c of, refl)
  printed_writes Boolean (Truth b) of = refl
  printed_writes (Str bound) (Text text) of = (map (byte_text 34) text, bytes_written 34 text of.3, ap (λ (l : List ℕ). 34 ∷ (l ++ 34 ∷ [])) (sym (joined_texts (byte_text 34) text)))
  printed_writes (Seq item bound) (Items vs) of = (each_printed (printed item) vs, each_written (Of item) (Writes item) (printed item) (printed_writes item) vs of.0, refl)
  printed_writes (Arr item n) (Items vs) of = (each_printed (printed item) vs, each_written (Of item) (Writes item) (printed item) (printed_writes item) vs of.0, refl)
  printed_writes (Struct fs) (Parts vs) of = (fields_printed fs vs, fields_write fs vs of, refl)
  printed_writes (Enum names) (Ordinal n) of = slice_get-get_or names n [] of.0 ∙ ap Some (sym (unwrap_or-slice_get names n []))
  printed_writes (RefTo homes) (Ref None) of = refl
  printed_writes (RefTo homes) (Ref (Some pid)) of = pid_again pid of.1 of.3
  printed_writes _ _ of = absurd of

  fields_write : (fs : PlainFields) (vs : PlainValues) → AreOf fs vs → FieldsWritten fs vs (fields_printed fs vs)
  fields_write no_fields no_values of = tt
  fields_write (field_and name t fields) (value_and v vs) of = (printed_writes t v of.0, fields_write fields vs of.1)
  fields_write no_fields (value_and v vs) of = absurd of
  fields_write (field_and name t fields) no_values of = absurd of
