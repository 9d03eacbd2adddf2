-- The first of a list that passes a test, against tests of the front of the list.
use Rattle.std.proofs.Common.{◌≡◌, ℕ, zero, suc, ◌+◌, ◌<◌, ◌≤◌, List, [], ◌∷◌, length, take, get_or, Bool, true, false, cond, Option, Some, refl, sym, ap, ◌∙◌, arith, nat_lt, ◌||◌}
use Rattle.std.specs.List.{position_from, list_any}
use Rattle.std.proofs.lemmas.List.Folds.{list_any_more}
use Rattle.type_layout.specs.Schemas.{given}

lower_than : (i n : ℕ) → i < n → nat_lt i n ≡ true
lower_than i n l = grind arith

pub not_lower : (i n : ℕ) → n ≤ i → nat_lt i n ≡ false
not_lower i n l = grind arith

pub none_lower : {X : Type 0} (t : X → Bool) (xs : List X) (i n : ℕ) → n ≤ i → given (position_from t i xs) false (λ j. nat_lt j n) ≡ false
none_lower t [] i n le = refl
none_lower t (x ∷ xs) i n le = by (t x) (none_lower t xs (i + 1) n (omega (arith, le)))
  where
    by : (b : Bool) → given (position_from t (i + 1) xs) false (λ j. nat_lt j n) ≡ false → given (cond b (Some i) (position_from t (i + 1) xs)) false (λ j. nat_lt j n) ≡ false
    by true rest = not_lower i n le
    by false rest = rest

-- the front has one that passes exactly where the first that passes lies in it
pub any_in_front : {X : Type 0} (t : X → Bool) (xs : List X) (i n k : ℕ) → n ≡ i + k → list_any t (take k xs) ≡ given (position_from t i xs) false (λ j. nat_lt j n)
any_in_front t [] i n zero e = refl
any_in_front t [] i n (suc k) e = refl
any_in_front t (x ∷ xs) i n zero e = sym (none_lower t (x ∷ xs) i n (omega (arith, e)))
any_in_front t (x ∷ xs) i n (suc k) e = by (t x) (any_in_front t xs (i + 1) n k (omega (arith, e)))
  where
    by : (b : Bool) → list_any t (take k xs) ≡ given (position_from t (i + 1) xs) false (λ j. nat_lt j n) → (b || list_any t (take k xs)) ≡ given (cond b (Some i) (position_from t (i + 1) xs)) false (λ j. nat_lt j n)
    by true rest = sym (lower_than i n (omega (arith, e)))
    by false rest = rest

pub front_of_first : {X : Type 0} (t : X → Bool) (xs : List X) (n : ℕ) → list_any t (take n xs) ≡ given (position_from t 0 xs) false (λ j. nat_lt j n)
front_of_first t xs n = any_in_front t xs 0 n n (omega arith)

-- the first that passes does pass
pub first_passes : {X : Type 0} (t : X → Bool) (xs : List X) (n : ℕ) (d : X) → n < length xs → position_from t 0 xs ≡ Some n → t (get_or xs n d) ≡ true
first_passes t xs n d lt is =
    let before : list_any t (take n xs) ≡ false = front_of_first t xs n ∙ ap (λ (o : Option ℕ). given o false (λ j. nat_lt j n)) is ∙ not_lower n n (omega arith) in
    let through : list_any t (take (n + 1) xs) ≡ true = front_of_first t xs (n + 1) ∙ ap (λ (o : Option ℕ). given o false (λ j. nat_lt j (n + 1))) is ∙ lower_than n (n + 1) (omega arith) in
    let more : list_any t (take (n + 1) xs) ≡ (list_any t (take n xs) || t (get_or xs n d)) = list_any_more t xs n d lt in
    sym (rw before at more) ∙ through
