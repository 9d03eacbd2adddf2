-- What a change at one serial leaves at the others.
use Rattle.std.proofs.Common.{ℕ, ◌≡◌, ◌==◌, List, Bool, true, false, refl, ap, ◌∙◌, arith, suc, zero, [], ◌∷◌, ◌≤◌, length, drop, take, map, get_or, ◌++◌, ◌+◌, ◌<◌}
use Rattle.std.specs.List.{slice_get}
use Rattle.type_layout.specs.Schemas.{given, nth}

pub by_test : (P : Bool → Type 0) (b : Bool) → (b ≡ true → P true) → (b ≡ false → P false) → P b
by_test P true f g = f refl
by_test P false f g = g refl

pub same_number : (s q : ℕ) → (s == q) ≡ true → s ≡ q
same_number s q e = grind (arith, e)

pub drop_end : {X : Type 0} (xs : List X) (i : ℕ) → length xs ≤ i → drop i xs ≡ []
drop_end [] zero over = refl
drop_end [] (suc i) over = refl
drop_end (x ∷ xs) zero over = absurd (omega (arith, over))
drop_end (x ∷ xs) (suc i) over = drop_end xs i (omega (arith, over))

pub no_items : {X : Type 0} (xs : List X) → length xs ≡ 0 → xs ≡ []
no_items [] none = refl
no_items (x ∷ xs) none = absurd (omega (arith, none))

map_on : {X Y : Type 0} (f : X → Y) (xs : List X) (i : ℕ) (d : X) → i < length xs → map f (take (suc i) xs) ≡ map f (take i xs) ++ f (get_or xs i d) ∷ []
map_on f [] i d within = absurd (omega (arith, within))
map_on f (x ∷ xs) zero d within = refl
map_on f (x ∷ xs) (suc i) d within = ap (λ ys. f x ∷ ys) (map_on f xs i d (omega (arith, within)))

pub map_more : {X Y : Type 0} (f : X → Y) (xs : List X) (i : ℕ) (d : X) → i < length xs → map f (take (i + 1) xs) ≡ map f (take i xs) ++ f (get_or xs i d) ∷ []
map_more f xs i d within = let e : i + 1 ≡ suc i = omega arith in ap (λ (n : ℕ). map f (take n xs)) e ∙ map_on f xs i d within

pub take_end : {X : Type 0} (xs : List X) (i : ℕ) → length xs ≤ i → take i xs ≡ xs
take_end [] zero over = refl
take_end [] (suc i) over = refl
take_end (x ∷ xs) zero over = absurd (omega (arith, over))
take_end (x ∷ xs) (suc i) over = ap (λ ys. x ∷ ys) (take_end xs i (omega (arith, over)))

-- one more behind those that say nothing
pub pushed : {X A : Type 0} (part : X → A) (d : A) (xs : List X) (x : X) (i : ℕ) → given (slice_get xs i) d part ≡ d → part x ≡ d → given (slice_get (xs ++ x ∷ []) i) d part ≡ d
pushed part d [] x zero none last = last
pushed part d [] x (suc i) none last = refl
pushed part d (y ∷ ys) x zero none last = none
pushed part d (y ∷ ys) x (suc i) none last = pushed part d ys x i none last

pub pushed_nth : {X A : Type 0} (part : X → A) (d : A) (xs : List X) (x : X) (h : ℕ) → given (nth xs h) d part ≡ d → part x ≡ d → given (nth (xs ++ x ∷ []) h) d part ≡ d
pushed_nth part d xs x zero none last = refl
pushed_nth part d xs x (suc h) none last = pushed part d xs x h none last

pub one_longer : {X : Type 0} (xs : List X) (x : X) → length (xs ++ x ∷ []) ≡ length xs + 1
one_longer [] x = omega arith
one_longer (y ∷ ys) x = let rest = one_longer ys x in omega (arith, rest)
