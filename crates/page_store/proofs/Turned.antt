-- Objects get other places.
use Rattle.std.proofs.Common.{ℕ, zero, suc, ◌≡◌, ◌<◌, ◌≤◌, ◌+◌, cond, List, [], ◌∷◌, ◌++◌, length, length-append, get_or, take, map, Some, refl, ap, ◌∙◌, arith}
use Rattle.std.specs.declared.option.Option.{Option}
use Rattle.page_store.specs.Placed.{is_object, placed}
use Rattle.page_format.specs.declared.new_page.NewPage.{NewPage}

pub take_end : {X : Type 0} (xs : List X) (i : ℕ) → length xs ≤ i → take i xs ≡ xs
take_end [] zero le = refl
take_end [] (suc i) le = refl
take_end (x ∷ xs) zero le = absurd (omega (arith, le))
take_end (x ∷ xs) (suc i) le = ap (λ l. x ∷ l) (take_end xs i (omega (arith, le)))

pub placed-append : (pages more : List NewPage) (q : ℕ) (slot : Option ℕ) → placed (pages ++ more) q slot ≡ placed more q (placed pages q slot)
placed-append [] more q slot = refl
placed-append (page ∷ pages) more q slot = placed-append pages more q (cond (is_object q page.entries) (Some page.slot) slot)

pub take_more : {X : Type 0} (xs : List X) (i : ℕ) (d : X) → i < length xs → take (i + 1) xs ≡ take i xs ++ get_or xs i d ∷ []
take_more [] i d lt = absurd (omega (arith, lt))
take_more (x ∷ xs) zero d lt = refl
take_more (x ∷ xs) (suc i) d lt = ap (λ n. take n (x ∷ xs)) (let e : suc i + 1 ≡ suc (i + 1) = omega arith in e) ∙ ap (λ l. x ∷ l) (take_more xs i d (omega (arith, lt)))

pub nothing_left : {X : Type 0} (xs : List X) → length xs ≡ 0 → xs ≡ []
nothing_left [] none = refl
nothing_left (x ∷ xs) none = absurd (omega (arith, none))

pub map-append : {X Y : Type 0} (f : X → Y) (xs ys : List X) → map f (xs ++ ys) ≡ map f xs ++ map f ys
map-append f [] ys = refl
map-append f (x ∷ xs) ys = ap (λ l. f x ∷ l) (map-append f xs ys)

-- of so many as there are places, one is left
pub few_left : {X : Type 0} (done left all rest : List X) (x : X) (k n : ℕ) → done ++ left ≡ all → left ≡ x ∷ rest → k ≡ length done → length all ≡ n → k < n
few_left done left all rest x k n both is at same =
    let e = ap length both in
    let f = ap length is in
    let g = length-append done left in
    omega arith
