-- Decimal digits, and the numbers that they write.
use Rattle.std.proofs.Common.{◌≡◌, ◌≤◌, ℕ, suc, ◌+◌, ◌-◌, ◌*◌, ◌<◌, ◌^◌, List, length, take, get_or, arith, true}
use Rattle.std.proofs.Math.Nat.{pow-suc, pow-le-pow_right}
use Rattle.std.proofs.lemmas.Int.Digits.{digits_value_more}
use Rattle.std.proofs.lemmas.Bool.Decides.{nat_tests}
use Rattle.std.specs.Char.{digit_value, is_ascii_digit}
use Rattle.std.specs.Str.Parse.{digits_value}

pub digit_range : (b : ℕ) → is_ascii_digit b ≡ true → (48 ≤ b) × (b ≤ 57)
digit_range b e = (grind (arith, nat_tests), grind (arith, nat_tests))

pub digit_is : (b : ℕ) → 48 ≤ b → b ≤ 57 → digit_value b ≡ b - 48
digit_is b low high = grind (arith, nat_tests)

-- one digit more, where room for ten is given
pub room : (number d i len : ℕ) → number < 10 ^ i → i < len → len ≤ 10 → d ≤ 9 → number * 10 + d < 2 ^ 64
room number d i len small inside few low =
    let most : 10 ^ i ≤ 10 ^ 9 = pow-le-pow_right {n = 10} (omega arith) {i = i} {j = 9} (omega arith) in
    omega (arith, most)

pub digit_fits : (number d i : ℕ) → number < 10 ^ i → d ≤ 9 → number * 10 + d < 10 ^ (i + 1)
digit_fits number d i small low =
    let next : i + 1 ≡ suc i = omega arith in
    rw next (omega (arith, pow-suc 10 i))

pub value_more : (ds : List ℕ) (i number : ℕ) → i < length ds → number ≡ digits_value 10 (take i ds) → 48 ≤ get_or ds i 0 → get_or ds i 0 ≤ 57 → number * 10 + (get_or ds i 0 - 48) ≡ digits_value 10 (take (i + 1) ds)
value_more ds i number inside is low high =
    let d = digit_is (get_or ds i 0) low high in
    omega (arith, is, d, digits_value_more 10 ds i inside)
