-- The first of a list that passes a test, against tests of the front of the list.
use Rattle.std.proofs.Common.{◌≡◌, ℕ, zero, suc, ◌+◌, ◌<◌, ◌≤◌, List, [], ◌∷◌, length, take, get_or, Bool, true, false, cond, Option, Some, None, refl, sym, ap, ◌∙◌, arith, nat_lt, ◌||◌}
use Rattle.std.specs.List.{position_from, list_any}
use Rattle.std.proofs.lemmas.List.Folds.{list_any_more}
use Rattle.std.specs.Option.{IfSome}
use Rattle.type_layout.specs.Schemas.{given}

lower_than : (i n : ℕ) → i < n → nat_lt i n ≡ true
lower_than i n l = grind arith

not_lower : (i n : ℕ) → n ≤ i → nat_lt i n ≡ false
not_lower i n l = grind arith

pub none_lower : {X : Type 0} (t : X → Bool) (xs : List X) (i n : ℕ) → n ≤ i → given (position_from t i xs) false (λ j. nat_lt j n) ≡ false
none_lower t [] i n le = refl
none_lower t (x ∷ xs) i n le = by (t x) (none_lower t xs (i + 1) n (omega (arith, le)))
  where
    by : (b : Bool) → given (position_from t (i + 1) xs) false (λ j. nat_lt j n) ≡ false → given (cond b (Some i) (position_from t (i + 1) xs)) false (λ j. nat_lt j n) ≡ false
    by true rest = not_lower i n le
    by false rest = rest

-- the front has one that passes exactly where the first that passes lies in it
pub any_in_front : {X : Type 0} (t : X → Bool) (xs : List X) (i n k : ℕ) → n ≡ i + k → list_any t (take k xs) ≡ given (position_from t i xs) false (λ j. nat_lt j n)
any_in_front t [] i n zero e = refl
any_in_front t [] i n (suc k) e = refl
any_in_front t (x ∷ xs) i n zero e = sym (none_lower t (x ∷ xs) i n (omega (arith, e)))
any_in_front t (x ∷ xs) i n (suc k) e = by (t x) (any_in_front t xs (i + 1) n k (omega (arith, e)))
  where
    by : (b : Bool) → list_any t (take k xs) ≡ given (position_from t (i + 1) xs) false (λ j. nat_lt j n) → (b || list_any t (take k xs)) ≡ given (cond b (Some i) (position_from t (i + 1) xs)) false (λ j. nat_lt j n)
    by true rest = sym (lower_than i n (omega (arith, e)))
    by false rest = rest

pub front_of_first : {X : Type 0} (t : X → Bool) (xs : List X) (n : ℕ) → list_any t (take n xs) ≡ given (position_from t 0 xs) false (λ j. nat_lt j n)
front_of_first t xs n = any_in_front t xs 0 n n (omega arith)

-- the first that passes does pass
pub first_passes : {X : Type 0} (t : X → Bool) (xs : List X) (n : ℕ) (d : X) → n < length xs → position_from t 0 xs ≡ Some n → t (get_or xs n d) ≡ true
first_passes t xs n d lt is =
    let before : list_any t (take n xs) ≡ false = front_of_first t xs n ∙ ap (λ (o : Option ℕ). given o false (λ j. nat_lt j n)) is ∙ not_lower n n (omega arith) in
    let through : list_any t (take (n + 1) xs) ≡ true = front_of_first t xs (n + 1) ∙ ap (λ (o : Option ℕ). given o false (λ j. nat_lt j (n + 1))) is ∙ lower_than n (n + 1) (omega arith) in
    let more : list_any t (take (n + 1) xs) ≡ (list_any t (take n xs) || t (get_or xs n d)) = list_any_more t xs n d lt in
    sym (rw before at more) ∙ through

-- where none passes one test, none passes a stronger one
pub none_stronger : {X : Type 0} (t u : X → Bool) (xs : List X) → ((x : X) → t x ≡ false → u x ≡ false) → list_any t xs ≡ false → list_any u xs ≡ false
none_stronger t u [] f e = refl
none_stronger t u (x ∷ xs) f e = by (t x) refl e (λ r. none_stronger t u xs f r)
  where
    by : (b : Bool) → t x ≡ b → (b || list_any t xs) ≡ false → (list_any t xs ≡ false → list_any u xs ≡ false) → (u x || list_any u xs) ≡ false
    by true h e rest = absurd (cc)
    by false h e rest = rw (f x h) (rest e)

-- where none passes one test, two others that agree then are passed alike
pub alike_where_none : {X : Type 0} (t u v : X → Bool) (xs : List X) → ((x : X) → t x ≡ false → u x ≡ v x) → list_any t xs ≡ false → list_any u xs ≡ list_any v xs
alike_where_none t u v [] f e = refl
alike_where_none t u v (x ∷ xs) f e = by (t x) refl e (λ r. alike_where_none t u v xs f r)
  where
    by : (b : Bool) → t x ≡ b → (b || list_any t xs) ≡ false → (list_any t xs ≡ false → list_any u xs ≡ list_any v xs) → (u x || list_any u xs) ≡ (v x || list_any v xs)
    by true h e rest = absurd (cc)
    by false h e rest = rw (f x h) (ap (λ (r : Bool). v x || r) (rest e))

there_from : {X : Type 0} (t : X → Bool) (xs : List X) (i n : ℕ) → position_from t i xs ≡ Some n → n < i + length xs
there_from t [] i n h = absurd (cc)
there_from t (x ∷ xs) i n h = by (t x) h (there_from t xs (i + 1) n)
  where
    by : (b : Bool) → cond b (Some i) (position_from t (i + 1) xs) ≡ Some n → (position_from t (i + 1) xs ≡ Some n → n < i + 1 + length xs) → n < i + suc (length xs)
    by true e rest = let same : i ≡ n = cc in omega (arith, same)
    by false e rest = omega (arith, rest e)

-- the first that passes is one of them
pub first_there : {X : Type 0} (t : X → Bool) (xs : List X) (o : Option ℕ) → o ≡ position_from t 0 xs → IfSome o (λ n. n < length xs)
first_there t xs None e = tt
first_there t xs (Some n) e = omega (arith, there_from t xs 0 n (sym e))
