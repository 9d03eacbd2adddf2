-- What digits stand for, one digit after another.
use Rattle.std.proofs.Common.{◌≡◌, ℕ, ◌+◌, ◌*◌, ◌≤◌, ◌<◌, List, [], ◌∷◌, drop, get_or, length, arith}
use Rattle.std.proofs.Math.Nat.{mul-le-mul_left}
use Rattle.std.proofs.lemmas.List.{at_drop_more}
use Rattle.std.specs.Char.{digit_value}
use Rattle.std.specs.Str.Parse.{digits_value_after}

-- more digits make no less
digits_value_after-le : (radix n : ℕ) (ds : List ℕ) → 0 < radix → n ≤ digits_value_after radix n ds
digits_value_after-le radix n [] h = omega arith
digits_value_after-le radix n (d ∷ ds) h =
    omega (arith, mul-le-mul_left {m = 1} {n = radix} n h, digits_value_after-le radix (n * radix + digit_value d) ds h)

-- one digit more
pub digits_value_after-more : (radix n i : ℕ) (ds : List ℕ) → i < length ds → digits_value_after radix n (drop i ds) ≡ digits_value_after radix (n * radix + digit_value (get_or ds i 0)) (drop (i + 1) ds)
digits_value_after-more radix n i ds lt = at_drop_more (digits_value_after radix n) ds i 0 lt

-- once too much, always too much
pub too_much : (radix n i limit : ℕ) (ds : List ℕ) (all : ℕ) → 0 < radix → i < length ds → digits_value_after radix n (drop i ds) ≡ all → (n * radix + digit_value (get_or ds i 0) < limit → ⊥) → all < limit → ⊥
too_much radix n i limit ds all h lt e more less =
    more (omega (arith, digits_value_after-more radix n i ds lt, e, digits_value_after-le radix (n * radix + digit_value (get_or ds i 0)) (drop (i + 1) ds) h))
