-- Tests of numbers.
use Rattle.std.proofs.Common.{ℕ, ◌≡◌, ◌==◌, Bool, true, false, refl, arith}

pub by_test : (P : Bool → Type 0) (b : Bool) → (b ≡ true → P true) → (b ≡ false → P false) → P b
by_test P true f g = f refl
by_test P false f g = g refl

pub same_number : (s q : ℕ) → (s == q) ≡ true → s ≡ q
same_number s q e = grind (arith, e)
