-- Hexadecimal digits, and the numbers that they stand for.
use Rattle.std.proofs.Common.{◌≡◌, ◌≤◌, ◌<◌, ℕ, suc, zero, ◌+◌, ◌-◌, ◌*◌, ◌/◌, ◌%◌, ◌^◌, Bool, true, false, cond, ◌&&◌, Some, None, List, [], ◌∷◌, ◌++◌, length, take, drop, replicate, get_or, set, refl, sym, ◌∙◌, ap, subst, arith, append_assoc, length-append}
use Rattle.std.proofs.Math.Nat.{pow-suc, pow-le-pow_right}
use Rattle.std.proofs.lemmas.Bool.Decides.{nat_tests}
use Rattle.std.proofs.lemmas.List.{drop-set, take_more, replicate-append-replicate, take-append-drop}
use Rattle.std.proofs.lemmas.List.Folds.{list_all-append, list_all_more}
use Rattle.std.proofs.lemmas.Grind.{common_steps}
use Rattle.std.proofs.lemmas.Int.Digits.{digits_value_push, digits_value_more}
use Rattle.std.proofs.lemmas.Str.{digit_value-digit_char}
use Rattle.std.specs.List.{list_all}
use Rattle.std.specs.Char.{digit_char, digit_value}
use Rattle.std.specs.Str.Parse.{digits_value}
use Rattle.pss_base.specs.Hexadecimal.{is_hex_digit, hex_value, hex_digits}

pub no_digits : (n : ℕ) → hex_digits 0 n ≡ []
unfolding hex_digits
no_digits n = refl

pub one_digit_more : (k n : ℕ) → hex_digits (suc k) n ≡ hex_digits k (n / 16) ++ digit_char (n % 16) ∷ []
unfolding hex_digits
one_digit_more k n = refl

-- ---- written from the last one on

hex_more : (k n : ℕ) → 0 < k → hex_digits k n ≡ hex_digits (k - 1) (n / 16) ++ digit_char (n % 16) ∷ []
hex_more zero n h = absurd (omega arith)
hex_more (suc k) n h = let less : suc k - 1 ≡ k = omega arith in rw less (one_digit_more k n)

-- one more digit in front of those that are written
pub digit_more : (ds : List ℕ) (at number left d : ℕ) → hex_digits (length ds) number ≡ hex_digits at left ++ drop at ds → 0 < at → at ≤ length ds → d ≡ digit_char (left % 16)
    → hex_digits (length (set ds (at - 1) d)) number ≡ hex_digits (at - 1) (left / 16) ++ drop (at - 1) (set ds (at - 1) d)
digit_more ds at number left d so_far some within is =
    let inside : at - 1 < length ds = omega arith in
    let back : at - 1 + 1 ≡ at = omega arith in
    let same_len : length (set ds (at - 1) d) ≡ length ds = grind (arith, common_steps) in
    ap (λ k. hex_digits k number) same_len ∙ so_far ∙ ap (λ xs. xs ++ drop at ds) (hex_more at left some) ∙ append_assoc (hex_digits (at - 1) (left / 16)) (digit_char (left % 16) ∷ []) (drop at ds)
    ∙ ap (λ xs. hex_digits (at - 1) (left / 16) ++ xs) (sym (drop-set ds (at - 1) d inside ∙ (rw (back, is) refl)))

-- no digit of 0 is another one
zero_digits : (k : ℕ) → hex_digits k 0 ≡ replicate k 48
zero_digits zero = no_digits 0
zero_digits (suc k) =
    let more : k + 1 ≡ suc k = omega arith in
    one_digit_more k 0 ∙ ap (λ ds. ds ++ 48 ∷ []) (zero_digits k) ∙ replicate-append-replicate k 1 48 ∙ ap (λ n. replicate n 48) more

pub all_written : (ds : List ℕ) (at number left : ℕ) → hex_digits (length ds) number ≡ hex_digits at left ++ drop at ds → at ≡ 0 → ds ≡ hex_digits (length ds) number
all_written ds at number left so_far none = sym (so_far ∙ (rw (none, no_digits left) refl))

-- what is left is 0, and zeros stand there
pub zeros_are_left : (ds : List ℕ) (at number left : ℕ) → hex_digits (length ds) number ≡ hex_digits at left ++ drop at ds → take at ds ≡ replicate at 48 → left ≡ 0 → ds ≡ hex_digits (length ds) number
zeros_are_left ds at number left so_far zeros none = sym (so_far ∙ ap (λ n. hex_digits at n ++ drop at ds) none ∙ ap (λ xs. xs ++ drop at ds) (zero_digits at ∙ sym zeros) ∙ take-append-drop at ds)

-- ---- the number of what is written

-- so many digits, and the number that they stand for
pub record AreDigitsOf (k n : ℕ) : Type 0 where
  pub size : length (hex_digits k n) ≡ k
  pub all : list_all is_hex_digit (hex_digits k n) ≡ true
  pub value : n < 16 ^ k → digits_value 16 (hex_digits k n) ≡ n

digit_char_is_digit : (d : ℕ) → d < 16 → is_hex_digit (digit_char d) ≡ true
digit_char_is_digit d h = grind (arith, nat_tests)

pub are_digits_of : (k n : ℕ) → AreDigitsOf k n
are_digits_of zero n = record {
  size = ap length (no_digits n);
  all = ap (list_all is_hex_digit) (no_digits n);
  value = λ lt. (let is : 0 ≡ n = omega arith in ap (digits_value 16) (no_digits n) ∙ is);
}
are_digits_of (suc k) n =
    let before = are_digits_of k (n / 16) in
    let whole = one_digit_more k n in
    let low : n % 16 < 16 = omega arith in
    record {
      size = ap length whole ∙ (omega (arith, length-append (hex_digits k (n / 16)) (digit_char (n % 16) ∷ []), before.size));
      all = ap (list_all is_hex_digit) whole ∙ list_all-append is_hex_digit (hex_digits k (n / 16)) (digit_char (n % 16) ∷ []) ∙ (rw (before.all, digit_char_is_digit (n % 16) low) refl);
      value = λ lt.
          (let front : n / 16 < 16 ^ k = omega (arith, pow-suc 16 k) in
          let last = digit_value-digit_char (n % 16) (omega arith) in
          ap (digits_value 16) whole ∙ digits_value_push 16 (hex_digits k (n / 16)) (digit_char (n % 16)) ∙ omega (arith, before.value front, last));
    }

-- ---- the digits of what is read

pub both_true : (a b : Bool) → (a && b) ≡ true → (a ≡ true) × (b ≡ true)
both_true true b h = (refl, h)
both_true false b h = absurd cc

pub digit_counts : (d : ℕ) → is_hex_digit d ≡ true → digit_value d < 16
digit_counts d h = grind (arith, nat_tests)

digit_again : (d : ℕ) → is_hex_digit d ≡ true → digit_char (digit_value d) ≡ d
digit_again d h = grind (arith, nat_tests)

-- the first digits of a text are those of their number
first_again : (ds : List ℕ) (k : ℕ) → k ≤ length ds → list_all is_hex_digit (take k ds) ≡ true → hex_digits k (digits_value 16 (take k ds)) ≡ take k ds
first_again ds zero within all = no_digits (digits_value 16 (take 0 ds))
first_again ds (suc k) within all =
    let inside : k < length ds = omega arith in
    let next : suc k ≡ k + 1 = omega arith in
    let parts = both_true (list_all is_hex_digit (take k ds)) (is_hex_digit (get_or ds k 0)) (sym (list_all_more is_hex_digit ds k 0 inside) ∙ ap (λ n. list_all is_hex_digit (take n ds)) (sym next) ∙ all) in
    let value = digits_value_more 16 ds k inside in
    let low = digit_counts (get_or ds k 0) parts.1 in
    let front : digits_value 16 (take (k + 1) ds) / 16 ≡ digits_value 16 (take k ds) = omega (arith, value, low) in
    let last : digits_value 16 (take (k + 1) ds) % 16 ≡ digit_value (get_or ds k 0) = omega (arith, value, low) in
    ap (λ n. hex_digits (suc k) (digits_value 16 (take n ds))) next
    ∙ one_digit_more k (digits_value 16 (take (k + 1) ds))
    ∙ ap (λ n. hex_digits k n ++ digit_char (digits_value 16 (take (k + 1) ds) % 16) ∷ []) front
    ∙ ap (λ n. hex_digits k (digits_value 16 (take k ds)) ++ digit_char n ∷ []) last
    ∙ ap (λ d. hex_digits k (digits_value 16 (take k ds)) ++ d ∷ []) (digit_again (get_or ds k 0) parts.1)
    ∙ ap (λ l. l ++ get_or ds k 0 ∷ []) (first_again ds k (omega arith) parts.0)
    ∙ sym (take_more ds k 0 inside)
    ∙ ap (λ n. take n ds) (sym next)

-- digits are those of their number
pub digits_again : (ds : List ℕ) (k : ℕ) → length ds ≡ k → list_all is_hex_digit ds ≡ true → hex_digits k (digits_value 16 ds) ≡ ds
digits_again ds k len all =
    let whole : take k ds ≡ ds = grind (arith, common_steps) in
    subst (λ (l : List ℕ). hex_digits k (digits_value 16 l) ≡ l) whole (first_again ds k (omega arith) (ap (list_all is_hex_digit) whole ∙ all))

-- ---- read from the first one on

-- what was read of a digit
pub digit_read : (d v : ℕ) → Some v ≡ hex_value d → (is_hex_digit d ≡ true) × (v ≡ digit_value d)
digit_read d v read = by_test (is_hex_digit d) refl read
  where
    by_test : (t : Bool) → is_hex_digit d ≡ t → Some v ≡ cond t (Some (digit_value d)) None → (t ≡ true) × (v ≡ digit_value d)
    by_test true is e = (refl, cc)
    by_test false is e = absurd cc

-- one digit more, where room for 16 is given
pub room : (number d i len : ℕ) → number < 16 ^ i → i < len → len ≤ 16 → d < 16 → number * 16 + d < 2 ^ 64
room number d i len small inside few low =
    let most : 16 ^ i ≤ 16 ^ 15 = pow-le-pow_right {n = 16} (omega arith) {i = i} {j = 15} (omega arith) in
    omega (arith, most)

pub digit_fits : (number d i : ℕ) → number < 16 ^ i → d < 16 → number * 16 + d < 16 ^ (i + 1)
digit_fits number d i small low =
    let next : i + 1 ≡ suc i = omega arith in
    rw next (omega (arith, pow-suc 16 i))
