-- One more of a list.
use Rattle.std.proofs.Common.{◌≡◌, ℕ, zero, suc, ◌+◌, ◌<◌, List, [], ◌∷◌, ◌++◌, length, take, get_or, map, refl, ap, arith, add-one}

pub map_more : {X Y : Type 0} (f : X → Y) (xs : List X) (i : ℕ) (d : X) → i < length xs → map f (take (i + 1) xs) ≡ map f (take i xs) ++ f (get_or xs i d) ∷ []
map_more {X} f [] i d lt = absurd (omega (arith, lt))
map_more {X} f (x ∷ xs) zero d lt = refl
map_more f (x ∷ xs) (suc i) d lt =
    let more : map f (take (suc i) xs) ≡ map f (take i xs) ++ f (get_or xs i d) ∷ [] = rw add-one at (map_more f xs i d (omega (arith, lt))) in
    rw (add-one (suc i)) (ap (λ l. f x ∷ l) more)

pub take_more : {X : Type 0} (xs : List X) (i : ℕ) (d : X) → i < length xs → take (i + 1) xs ≡ take i xs ++ get_or xs i d ∷ []
take_more {X} [] i d lt = absurd (omega (arith, lt))
take_more {X} (x ∷ xs) zero d lt = refl
take_more (x ∷ xs) (suc i) d lt =
    let more : take (suc i) xs ≡ take i xs ++ get_or xs i d ∷ [] = rw add-one at (take_more xs i d (omega (arith, lt))) in
    rw (add-one (suc i)) (ap (λ l. x ∷ l) more)
