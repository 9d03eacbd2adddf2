-- Bits of a number by halves, and rows in the order of the bits that are set.
use Rattle.std.proofs.Common.{ℕ, ◌≡◌, ◌==◌, ◌⊎◌, inl, inr, ◌+◌, ◌*◌, ◌/◌, ◌%◌, ◌^◌, ◌<◌, ◌≤◌, ◌-◌, List, [], ◌∷◌, Option, Some, None, true, false, cond, refl, sym, ap, ◌∙◌, suc, zero, length, get_or, set, IsSome, arith, subst, bit_and, eq-eqb}
use lib.Count.{ones}
use Rattle.std.specs.Prelude.{count_ones}
use Rattle.std.specs.Option.{IfSome, option_map}
use Rattle.std.specs.List.{insert, remove, slice_get}
use Rattle.std.proofs.lemmas.List.{get_or-set_same, get_or-set_other}
use Rattle.std.proofs.lemmas.Nat.{shr-shr, mod-pow-add, ones_cat, and_mask}
use Rattle.storage_home.specs.declared.rows.Row.{Row}
use Rattle.storage_home.specs.Cells.{has_bit, ones_below, cells_of, TurnsCell}
use Rattle.storage_home.proofs.Places.{by_test, same_number}

-- ---- a number by its half and its lowest bit

parity : (bits : ℕ) → (bits % 2 ≡ 0) ⊎ (bits % 2 ≡ 1)
parity bits = by (bits % 2) refl
  where
    by : (r : ℕ) → bits % 2 ≡ r → (r ≡ 0) ⊎ (r ≡ 1)
    by zero e = inl refl
    by (suc zero) e = inr refl
    by (suc (suc r)) e = absurd (omega (arith, e))

is_odd : (bits : ℕ) → (bits % 2 == 1) ≡ true → bits % 2 ≡ 1
is_odd bits e = grind (arith, e)

is_even : (bits : ℕ) → (bits % 2 == 1) ≡ false → bits % 2 ≡ 0
is_even bits e = by (parity bits)
  where
    by : (bits % 2 ≡ 0) ⊎ (bits % 2 ≡ 1) → bits % 2 ≡ 0
    by (inl even) = even
    by (inr odd) = absurd (grind (arith, e, odd))

half_sum : (bits k : ℕ) → (bits + 2 * k) / 2 ≡ bits / 2 + k
half_sum bits k = omega arith

low_sum : (bits k : ℕ) → (bits + 2 * k) % 2 ≡ bits % 2
low_sum bits k = omega arith

half_rest : (bits k : ℕ) → k ≤ bits / 2 → (bits - 2 * k) / 2 ≡ bits / 2 - k
half_rest bits k less = omega (arith, less)

low_rest : (bits k : ℕ) → k ≤ bits / 2 → (bits - 2 * k) % 2 ≡ bits % 2
low_rest bits k less = omega (arith, less)

-- ---- what the code computes

ones_of_low : (bits : ℕ) → count_ones (bits % 2) ≡ bits % 2
unfolding ones
ones_of_low bits = by (parity bits)
  where
    by : (bits % 2 ≡ 0) ⊎ (bits % 2 ≡ 1) → count_ones (bits % 2) ≡ bits % 2
    by (inl e) = ap count_ones e ∙ sym e
    by (inr e) = ap count_ones e ∙ sym e

no_ones : count_ones 0 ≡ 0
unfolding ones
no_ones = refl

lowest : (bits : ℕ) → bit_and bits 1 ≡ bits % 2
lowest bits = and_mask bits 1

pub bit_is : (place bits : ℕ) → (bit_and (bits / 2 ^ place) 1 == 1) ≡ has_bit place bits
unfolding has_bit
bit_is zero bits = ap (λ n. bit_and n 1 == 1) (omega arith) ∙ ap (λ n. n == 1) (lowest bits)
bit_is (suc place) bits =
    let more : suc place ≡ 1 + place = omega arith in
    ap (λ k. bit_and (bits / 2 ^ k) 1 == 1) more ∙ ap (λ n. bit_and n 1 == 1) (sym (shr-shr bits 1 place)) ∙ bit_is place (bits / 2)

pub ones_are : (place bits : ℕ) → count_ones (bits % 2 ^ place) ≡ ones_below place bits
unfolding ones_below
ones_are zero bits =
    let none : bits % 2 ^ 0 ≡ 0 = omega arith in
    ap count_ones none ∙ no_ones
ones_are (suc place) bits =
    let more : suc place ≡ place + 1 = omega arith in
    let low : bits % 2 < 2 = omega arith in
    let rest = ones_are place (bits / 2) in
    let first = ones_of_low bits in
    let both : count_ones (bits % 2 ^ suc place) ≡ count_ones (bits / 2 % 2 ^ place) + count_ones (bits % 2) =
    ap (λ k. count_ones (bits % 2 ^ k)) more ∙ ap count_ones (mod-pow-add bits place 1) ∙ ones_cat 1 (bits / 2 % 2 ^ place) (bits % 2) low in
    omega (arith, rest, first, both)

-- ---- which bits are set

pub bit_fits : (place bits : ℕ) → has_bit place bits ≡ true → 2 ^ place ≤ bits
unfolding has_bit
bit_fits zero bits has = let odd = is_odd bits has in omega (arith, odd)
bit_fits (suc place) bits has = let rest = bit_fits place (bits / 2) has in omega (arith, rest)

pub bit_added : (n place bits : ℕ) → place < n → bits < 2 ^ n → has_bit place bits ≡ false → bits + 2 ^ place < 2 ^ n
unfolding has_bit
bit_added zero place bits within fits free = absurd (omega (arith, within))
bit_added (suc n) zero bits within fits free = let even = is_even bits free in omega (arith, even, fits)
bit_added (suc n) (suc place) bits within fits free = let rest = bit_added n place (bits / 2) (omega (arith, within)) (omega (arith, fits)) free in omega (arith, rest)

pub fewer_below : (n place bits : ℕ) → place ≤ n → ones_below place bits ≤ ones_below n bits
unfolding ones_below
fewer_below n zero bits within = omega arith
fewer_below zero (suc place) bits within = absurd (omega (arith, within))
fewer_below (suc n) (suc place) bits within = let rest = fewer_below n place (bits / 2) (omega (arith, within)) in omega (arith, rest)

pub bit_counts : (n place bits : ℕ) → place < n → has_bit place bits ≡ true → ones_below place bits < ones_below n bits
unfolding has_bit ones_below
bit_counts zero place bits within has = absurd (omega (arith, within))
bit_counts (suc n) zero bits within has = let odd = is_odd bits has in omega (arith, odd)
bit_counts (suc n) (suc place) bits within has = let rest = bit_counts n place (bits / 2) (omega (arith, within)) has in omega (arith, rest)

pub ones_added : (n place bits : ℕ) → place < n → has_bit place bits ≡ false → ones_below n (bits + 2 ^ place) ≡ ones_below n bits + 1
unfolding has_bit ones_below
ones_added zero place bits within free = absurd (omega (arith, within))
ones_added (suc n) zero bits within free =
    let even = is_even bits free in
    let half : (bits + 1) / 2 ≡ bits / 2 = omega (arith, even) in
    let low : (bits + 1) % 2 ≡ 1 = omega (arith, even) in
    let same = ap (ones_below n) half in
    omega (arith, even, low, same)
ones_added (suc n) (suc place) bits within free =
    let rest = ones_added n place (bits / 2) (omega (arith, within)) free in
    let twice : 2 ^ suc place ≡ 2 * 2 ^ place = omega arith in
    let half : (bits + 2 ^ suc place) / 2 ≡ bits / 2 + 2 ^ place = ap (λ k. (bits + k) / 2) twice ∙ half_sum bits (2 ^ place) in
    let low : (bits + 2 ^ suc place) % 2 ≡ bits % 2 = ap (λ k. (bits + k) % 2) twice ∙ low_sum bits (2 ^ place) in
    let same = ap (ones_below n) half in
    omega (arith, rest, low, same)

pub ones_taken : (n place bits : ℕ) → place < n → has_bit place bits ≡ true → ones_below n (bits - 2 ^ place) + 1 ≡ ones_below n bits
unfolding has_bit ones_below
ones_taken zero place bits within has = absurd (omega (arith, within))
ones_taken (suc n) zero bits within has =
    let odd = is_odd bits has in
    let half : (bits - 1) / 2 ≡ bits / 2 = omega (arith, odd) in
    let low : (bits - 1) % 2 ≡ 0 = omega (arith, odd) in
    let same = ap (ones_below n) half in
    omega (arith, odd, low, same)
ones_taken (suc n) (suc place) bits within has =
    let rest = ones_taken n place (bits / 2) (omega (arith, within)) has in
    let fits = bit_fits place (bits / 2) has in
    let twice : 2 ^ suc place ≡ 2 * 2 ^ place = omega arith in
    let half : (bits - 2 ^ suc place) / 2 ≡ bits / 2 - 2 ^ place = ap (λ k. (bits - k) / 2) twice ∙ half_rest bits (2 ^ place) fits in
    let low : (bits - 2 ^ suc place) % 2 ≡ bits % 2 = ap (λ k. (bits - k) % 2) twice ∙ low_rest bits (2 ^ place) fits in
    let same = ap (ones_below n) half in
    omega (arith, rest, low, same)

-- ---- rows in the order of the bits

cells_even : (n bits : ℕ) (rows : List Row) → bits % 2 ≡ 0 → cells_of (suc n) bits rows ≡ None ∷ cells_of n (bits / 2) rows
unfolding cells_of
cells_even n bits [] even = refl
cells_even n bits (row ∷ rows) even = ap (λ r. cond (r == 1) (Some row ∷ cells_of n (bits / 2) rows) (None ∷ cells_of n (bits / 2) (row ∷ rows))) even

cells_odd : (n bits : ℕ) (row : Row) (rows : List Row) → bits % 2 ≡ 1 → cells_of (suc n) bits (row ∷ rows) ≡ Some row ∷ cells_of n (bits / 2) rows
unfolding cells_of
cells_odd n bits row rows odd = ap (λ r. cond (r == 1) (Some row ∷ cells_of n (bits / 2) rows) (None ∷ cells_of n (bits / 2) (row ∷ rows))) odd

pub cells_none : (n bits q : ℕ) → get_or (cells_of n bits []) q None ≡ None
unfolding cells_of
cells_none zero bits q = refl
cells_none (suc n) bits zero = refl
cells_none (suc n) bits (suc q) = cells_none n (bits / 2) q

cells_many : (n bits : ℕ) (rows : List Row) → length (cells_of n bits rows) ≡ n
unfolding cells_of
cells_many zero bits rows = refl
cells_many (suc n) bits [] = let rest = cells_many n (bits / 2) [] in omega (arith, rest)
cells_many (suc n) bits (row ∷ rows) =
    by_test (λ b. length (cond b (Some row ∷ cells_of n (bits / 2) rows) (None ∷ cells_of n (bits / 2) (row ∷ rows))) ≡ suc n) (bits % 2 == 1)
    (λ _. (let rest = cells_many n (bits / 2) rows in omega (arith, rest)))
    (λ _. (let rest = cells_many n (bits / 2) (row ∷ rows) in omega (arith, rest)))

cell_set : (l : List (Option Row)) (place : ℕ) (row : Option Row) → place < length l → TurnsCell l (set l place row) place row
cell_set l place row within q =
    by_test (λ b. (place == q) ≡ b → get_or (set l place row) q None ≡ cond b row (get_or l q None)) (place == q)
    (λ _ here. ap (λ (k : ℕ). get_or (set l place row) k None) (sym (same_number place q here)) ∙ get_or-set_same l place row None within)
    (λ _ other. get_or-set_other l place q row None (λ e. (let no : true ≡ false = sym (eq-eqb place q (sym e)) ∙ other in cc)))
    refl

cell_turned : (n place bits : ℕ) (rows : List Row) → place < n → (l : List (Option Row)) (row : Option Row) → l ≡ set (cells_of n bits rows) place row → TurnsCell (cells_of n bits rows) l place row
cell_turned n place bits rows within l row is = subst (λ x. TurnsCell (cells_of n bits rows) x place row) (sym is) (cell_set (cells_of n bits rows) place row (let all = cells_many n bits rows in omega (arith, all, within)))

cells_past : (n bits : ℕ) → cells_of (suc n) bits [] ≡ None ∷ cells_of n (bits / 2) []
unfolding cells_of
cells_past n bits = refl

pub cell_at : (n place bits : ℕ) (rows : List Row) → place < n → get_or (cells_of n bits rows) place None ≡ cond (has_bit place bits) (slice_get rows (ones_below place bits)) None
unfolding has_bit ones_below
cell_at zero place bits rows within = absurd (omega (arith, within))
cell_at (suc n) zero bits rows within = by (parity bits) rows
  where
    by : (bits % 2 ≡ 0) ⊎ (bits % 2 ≡ 1) → (rows : List Row) → get_or (cells_of (suc n) bits rows) 0 None ≡ cond (bits % 2 == 1) (slice_get rows 0) None
    by (inl even) rows = ap (λ l. get_or l 0 None) (cells_even n bits rows even) ∙ ap (λ r. cond (r == 1) (slice_get rows 0) None) (sym even)
    by (inr odd) [] = ap (λ l. get_or l 0 None) (cells_past n bits) ∙ ap (λ r. cond (r == 1) None None) (sym odd)
    by (inr odd) (row ∷ rows) = ap (λ l. get_or l 0 None) (cells_odd n bits row rows odd) ∙ ap (λ r. cond (r == 1) (Some row) None) (sym odd)
cell_at (suc n) (suc place) bits rows within = by (λ l. cell_at n place (bits / 2) l (omega (arith, within))) (parity bits) rows
  where
    by :
        ((l : List Row) → get_or (cells_of n (bits / 2) l) place None ≡ cond (has_bit place (bits / 2)) (slice_get l (ones_below place (bits / 2))) None)
        → (bits % 2 ≡ 0) ⊎ (bits % 2 ≡ 1) → (rows : List Row)
        → get_or (cells_of (suc n) bits rows) (suc place) None ≡ cond (has_bit place (bits / 2)) (slice_get rows (bits % 2 + ones_below place (bits / 2))) None
    by rest (inl even) rows =
        let before : ones_below place (bits / 2) ≡ bits % 2 + ones_below place (bits / 2) = omega (arith, even) in
        ap (λ l. get_or l (suc place) None) (cells_even n bits rows even) ∙ rest rows ∙ ap (λ k. cond (has_bit place (bits / 2)) (slice_get rows k) None) before
    by rest (inr odd) [] = ap (λ l. get_or l (suc place) None) (cells_past n bits) ∙ rest []
    by rest (inr odd) (row ∷ rows) =
        let before : suc (ones_below place (bits / 2)) ≡ bits % 2 + ones_below place (bits / 2) = omega (arith, odd) in
        ap (λ l. get_or l (suc place) None) (cells_odd n bits row rows odd) ∙ rest rows ∙ ap (λ k. cond (has_bit place (bits / 2)) (slice_get (row ∷ rows) k) None) before

pub cells_put :
    (n place bits : ℕ) (rows : List Row) (row : Row) → place < n → length rows ≡ ones_below n bits → has_bit place bits ≡ false
    → cells_of n (bits + 2 ^ place) (insert rows (ones_below place bits) row) ≡ set (cells_of n bits rows) place (Some row)
unfolding has_bit ones_below
cells_put zero place bits rows row within size free = absurd (omega (arith, within))
cells_put (suc n) zero bits rows row within size free =
    let even = is_even bits free in
    let half : (bits + 1) / 2 ≡ bits / 2 = omega (arith, even) in
    let low : (bits + 1) % 2 ≡ 1 = omega (arith, even) in
    cells_odd n (bits + 1) row rows low ∙ ap (λ h. Some row ∷ cells_of n h rows) half ∙ ap (λ l. set l 0 (Some row)) (sym (cells_even n bits rows even))
cells_put (suc n) (suc place) bits rows row within size free = by (λ l fits. cells_put n place (bits / 2) l row (omega (arith, within)) fits free) (parity bits) rows size
  where
    twice : 2 ^ suc place ≡ 2 * 2 ^ place
    twice = omega arith

    half : (bits + 2 ^ suc place) / 2 ≡ bits / 2 + 2 ^ place
    half = ap (λ j. (bits + j) / 2) twice ∙ half_sum bits (2 ^ place)

    low : (bits + 2 ^ suc place) % 2 ≡ bits % 2
    low = ap (λ j. (bits + j) % 2) twice ∙ low_sum bits (2 ^ place)

    by :
        ((l : List Row) → length l ≡ ones_below n (bits / 2) → cells_of n (bits / 2 + 2 ^ place) (insert l (ones_below place (bits / 2)) row) ≡ set (cells_of n (bits / 2) l) place (Some row))
        → (bits % 2 ≡ 0) ⊎ (bits % 2 ≡ 1) → (rows : List Row) → length rows ≡ bits % 2 + ones_below n (bits / 2)
        → cells_of (suc n) (bits + 2 ^ suc place) (insert rows (bits % 2 + ones_below place (bits / 2)) row) ≡ set (cells_of (suc n) bits rows) (suc place) (Some row)
    by rest (inl even) rows size =
        let before : bits % 2 + ones_below place (bits / 2) ≡ ones_below place (bits / 2) = omega (arith, even) in
        ap (λ j. cells_of (suc n) (bits + 2 ^ suc place) (insert rows j row)) before
        ∙ cells_even n (bits + 2 ^ suc place) (insert rows (ones_below place (bits / 2)) row) (low ∙ even)
        ∙ ap (λ h. None ∷ cells_of n h (insert rows (ones_below place (bits / 2)) row)) half
        ∙ ap (λ l. None ∷ l) (rest rows (omega (arith, size, even)))
        ∙ ap (λ l. set l (suc place) (Some row)) (sym (cells_even n bits rows even))
    by rest (inr odd) [] size = absurd (omega (arith, size, odd))
    by rest (inr odd) (first ∷ rows) size =
        let before : bits % 2 + ones_below place (bits / 2) ≡ suc (ones_below place (bits / 2)) = omega (arith, odd) in
        ap (λ j. cells_of (suc n) (bits + 2 ^ suc place) (insert (first ∷ rows) j row)) before
        ∙ cells_odd n (bits + 2 ^ suc place) first (insert rows (ones_below place (bits / 2)) row) (low ∙ odd)
        ∙ ap (λ h. Some first ∷ cells_of n h (insert rows (ones_below place (bits / 2)) row)) half
        ∙ ap (λ l. Some first ∷ l) (rest rows (omega (arith, size, odd)))
        ∙ ap (λ l. set l (suc place) (Some row)) (sym (cells_odd n bits first rows odd))

pub cells_taken :
    (n place bits : ℕ) (rows : List Row) → place < n → length rows ≡ ones_below n bits → has_bit place bits ≡ true
    → cells_of n (bits - 2 ^ place) (remove rows (ones_below place bits)) ≡ set (cells_of n bits rows) place None
unfolding has_bit ones_below
cells_taken zero place bits rows within size has = absurd (omega (arith, within))
cells_taken (suc n) zero bits [] within size has = let odd = is_odd bits has in absurd (omega (arith, size, odd))
cells_taken (suc n) zero bits (row ∷ rows) within size has =
    let odd = is_odd bits has in
    let half : (bits - 1) / 2 ≡ bits / 2 = omega (arith, odd) in
    let low : (bits - 1) % 2 ≡ 0 = omega (arith, odd) in
    cells_even n (bits - 1) rows low ∙ ap (λ h. None ∷ cells_of n h rows) half ∙ ap (λ l. set l 0 None) (sym (cells_odd n bits row rows odd))
cells_taken (suc n) (suc place) bits rows within size has = by (λ l fits. cells_taken n place (bits / 2) l (omega (arith, within)) fits has) (parity bits) rows size
  where
    twice : 2 ^ suc place ≡ 2 * 2 ^ place
    twice = omega arith

    half : (bits - 2 ^ suc place) / 2 ≡ bits / 2 - 2 ^ place
    half = ap (λ j. (bits - j) / 2) twice ∙ half_rest bits (2 ^ place) (bit_fits place (bits / 2) has)

    low : (bits - 2 ^ suc place) % 2 ≡ bits % 2
    low = ap (λ j. (bits - j) % 2) twice ∙ low_rest bits (2 ^ place) (bit_fits place (bits / 2) has)

    by :
        ((l : List Row) → length l ≡ ones_below n (bits / 2) → cells_of n (bits / 2 - 2 ^ place) (remove l (ones_below place (bits / 2))) ≡ set (cells_of n (bits / 2) l) place None)
        → (bits % 2 ≡ 0) ⊎ (bits % 2 ≡ 1) → (rows : List Row) → length rows ≡ bits % 2 + ones_below n (bits / 2)
        → cells_of (suc n) (bits - 2 ^ suc place) (remove rows (bits % 2 + ones_below place (bits / 2))) ≡ set (cells_of (suc n) bits rows) (suc place) None
    by rest (inl even) rows size =
        let before : bits % 2 + ones_below place (bits / 2) ≡ ones_below place (bits / 2) = omega (arith, even) in
        ap (λ j. cells_of (suc n) (bits - 2 ^ suc place) (remove rows j)) before
        ∙ cells_even n (bits - 2 ^ suc place) (remove rows (ones_below place (bits / 2))) (low ∙ even)
        ∙ ap (λ h. None ∷ cells_of n h (remove rows (ones_below place (bits / 2)))) half
        ∙ ap (λ l. None ∷ l) (rest rows (omega (arith, size, even)))
        ∙ ap (λ l. set l (suc place) None) (sym (cells_even n bits rows even))
    by rest (inr odd) [] size = absurd (omega (arith, size, odd))
    by rest (inr odd) (first ∷ rows) size =
        let before : bits % 2 + ones_below place (bits / 2) ≡ suc (ones_below place (bits / 2)) = omega (arith, odd) in
        ap (λ j. cells_of (suc n) (bits - 2 ^ suc place) (remove (first ∷ rows) j)) before
        ∙ cells_odd n (bits - 2 ^ suc place) first (remove rows (ones_below place (bits / 2))) (low ∙ odd)
        ∙ ap (λ h. Some first ∷ cells_of n h (remove rows (ones_below place (bits / 2)))) half
        ∙ ap (λ l. Some first ∷ l) (rest rows (omega (arith, size, odd)))
        ∙ ap (λ l. set l (suc place) None) (sym (cells_odd n bits first rows odd))

pub cells_written :
    (n place bits : ℕ) (rows : List Row) (row : Row) → place < n → length rows ≡ ones_below n bits → has_bit place bits ≡ true
    → cells_of n bits (set rows (ones_below place bits) row) ≡ set (cells_of n bits rows) place (Some row)
unfolding has_bit ones_below
cells_written zero place bits rows row within size has = absurd (omega (arith, within))
cells_written (suc n) zero bits [] row within size has = let odd = is_odd bits has in absurd (omega (arith, size, odd))
cells_written (suc n) zero bits (first ∷ rows) row within size has =
    let odd = is_odd bits has in
    cells_odd n bits row rows odd ∙ ap (λ l. set l 0 (Some row)) (sym (cells_odd n bits first rows odd))
cells_written (suc n) (suc place) bits rows row within size has = by (λ l fits. cells_written n place (bits / 2) l row (omega (arith, within)) fits has) (parity bits) rows size
  where
    by :
        ((l : List Row) → length l ≡ ones_below n (bits / 2) → cells_of n (bits / 2) (set l (ones_below place (bits / 2)) row) ≡ set (cells_of n (bits / 2) l) place (Some row))
        → (bits % 2 ≡ 0) ⊎ (bits % 2 ≡ 1) → (rows : List Row) → length rows ≡ bits % 2 + ones_below n (bits / 2)
        → cells_of (suc n) bits (set rows (bits % 2 + ones_below place (bits / 2)) row) ≡ set (cells_of (suc n) bits rows) (suc place) (Some row)
    by rest (inl even) rows size =
        let before : bits % 2 + ones_below place (bits / 2) ≡ ones_below place (bits / 2) = omega (arith, even) in
        ap (λ j. cells_of (suc n) bits (set rows j row)) before
        ∙ cells_even n bits (set rows (ones_below place (bits / 2)) row) even
        ∙ ap (λ l. None ∷ l) (rest rows (omega (arith, size, even)))
        ∙ ap (λ l. set l (suc place) (Some row)) (sym (cells_even n bits rows even))
    by rest (inr odd) [] size = absurd (omega (arith, size, odd))
    by rest (inr odd) (first ∷ rows) size =
        let before : bits % 2 + ones_below place (bits / 2) ≡ suc (ones_below place (bits / 2)) = omega (arith, odd) in
        ap (λ j. cells_of (suc n) bits (set (first ∷ rows) j row)) before
        ∙ cells_odd n bits first (set rows (ones_below place (bits / 2)) row) odd
        ∙ ap (λ l. Some first ∷ l) (rest rows (omega (arith, size, odd)))
        ∙ ap (λ l. set l (suc place) (Some row)) (sym (cells_odd n bits first rows odd))

-- ---- what stands in a place

some_within : (rows : List Row) (k : ℕ) → k < length rows → slice_get rows k ≡ None → ⊥
some_within [] k within none = omega (arith, within)
some_within (row ∷ rows) zero within none = cc
some_within (row ∷ rows) (suc k) within none = some_within rows k (omega (arith, within)) none

-- a place with a row has its bit
pub bit_there : (n place bits : ℕ) (rows : List Row) → place < n → IsSome (get_or (cells_of n bits rows) place None) → has_bit place bits ≡ true
bit_there n place bits rows within there =
    by_test (λ b. has_bit place bits ≡ b → has_bit place bits ≡ true) (has_bit place bits) (λ e _. e)
    (λ e _. (let never = subst IsSome (cell_at n place bits rows within ∙ ap (λ b. cond b (slice_get rows (ones_below place bits)) None) e) there in cc))
    refl

-- a place without a row has none
pub bit_free : (n place bits : ℕ) (rows : List Row) → place < n → length rows ≡ ones_below n bits → get_or (cells_of n bits rows) place None ≡ None → has_bit place bits ≡ false
bit_free n place bits rows within size none =
    by_test (λ b. has_bit place bits ≡ b → has_bit place bits ≡ false) (has_bit place bits)
    (λ e _. absurd (some_within rows (ones_below place bits) (let less = bit_counts n place bits within e in omega (arith, less, size)) (sym (cell_at n place bits rows within ∙ ap (λ b. cond b (slice_get rows (ones_below place bits)) None) e) ∙ none)))
    (λ e _. e)
    refl

-- the row in a place is the one with as many before it
pub row_there : (n place bits : ℕ) (rows : List Row) → place < n → has_bit place bits ≡ true → get_or (cells_of n bits rows) place None ≡ slice_get rows (ones_below place bits)
row_there n place bits rows within has = cell_at n place bits rows within ∙ ap (λ b. cond b (slice_get rows (ones_below place bits)) None) has

pub none_there : (n place bits : ℕ) (rows : List Row) → place < n → has_bit place bits ≡ false → get_or (cells_of n bits rows) place None ≡ None
none_there n place bits rows within free = cell_at n place bits rows within ∙ ap (λ b. cond b (slice_get rows (ones_below place bits)) None) free

pub no_bits : (n : ℕ) → ones_below n 0 ≡ 0
unfolding ones_below
no_bits zero = refl
no_bits (suc n) = let rest = no_bits n in omega (arith, rest)

pub found_within : (rows : List Row) (k : ℕ) (row : Row) → k < length rows → row ≡ get_or rows k row → slice_get rows k ≡ Some row
found_within [] k row within is = absurd (omega (arith, within))
found_within (first ∷ rows) zero row within is = ap Some (sym is)
found_within (first ∷ rows) (suc k) row within is = found_within rows k row (omega (arith, within)) is

-- what is read at an index that is there
pub read_is :
    {T : Type 0} (value : T → Row) (rows : List Row) (k : ℕ) (read : Option T) → k < length rows → (k < length rows → IsSome read) → IfSome read (λ x. value x ≡ get_or rows k (value x))
    → option_map value read ≡ slice_get rows k
read_is value rows k None within there is = let never = there within in cc
read_is value rows k (Some x) within there is = sym (found_within rows k (value x) within is)

pub within_rows : (n place bits k : ℕ) (rows : List Row) → place < n → length rows ≡ ones_below n bits → k ≡ ones_below place bits → has_bit place bits ≡ true → k < length rows
within_rows n place bits k rows within size is has = let less = bit_counts n place bits within has in omega (arith, less, size, is)

-- ---- a chunk of so many places

module _ (n place bits k : ℕ) (rows : List Row) (within : place < n) (size : length rows ≡ ones_below n bits) (is : k ≡ ones_below place bits) where
  -- the place has a row, the one with this index
  module _ (there : IsSome (get_or (cells_of n bits rows) place None)) where
    has : has_bit place bits ≡ true
    has = bit_there n place bits rows within there

    pub index_fits : k < length rows
    index_fits = within_rows n place bits k rows within size is has

    pub is_written : (row : Row) → TurnsCell (cells_of n bits rows) (cells_of n bits (set rows k row)) place (Some row)
    is_written row = cell_turned n place bits rows within _ (Some row) (ap (λ j. cells_of n bits (set rows j row)) is ∙ cells_written n place bits rows row within size has)

    pub row_is : get_or (cells_of n bits rows) place None ≡ slice_get rows k
    row_is = row_there n place bits rows within has ∙ ap (slice_get rows) (sym is)

    pub bit_less : 2 ^ place ≤ bits
    bit_less = bit_fits place bits has

    pub is_taken : (b : ℕ) → b ≡ 2 ^ place → (rest : List Row) → rest ≡ remove rows k → TurnsCell (cells_of n bits rows) (cells_of n (bits - b) rest) place None
    is_taken b bit rest removed = cell_turned n place bits rows within _ None (ap (λ c. cells_of n (bits - c) rest) bit ∙ ap (cells_of n (bits - 2 ^ place)) (removed ∙ ap (remove rows) is) ∙ cells_taken n place bits rows within size has)

    pub fewer : (b : ℕ) → b ≡ 2 ^ place → (rest : List Row) → length rest + 1 ≡ length rows → length rest ≡ ones_below n (bits - b)
    fewer b bit rest less =
        let one = ones_taken n place bits within has in
        let same = ap (λ c. ones_below n (bits - c)) bit in
        omega (arith, one, same, less, size)

  -- the place is free
  module _ (none : get_or (cells_of n bits rows) place None ≡ None) where
    free : has_bit place bits ≡ false
    free = bit_free n place bits rows within size none

    pub index_at_most : k ≤ length rows
    index_at_most = let less = fewer_below n place bits (omega (arith, within)) in omega (arith, less, size, is)

    pub bits_fit : (b : ℕ) → b ≡ 2 ^ place → bits < 2 ^ n → bits + b < 2 ^ n
    bits_fit b bit fits = let more = bit_added n place bits within fits free in omega (arith, more, bit)

    pub is_put : (b : ℕ) → b ≡ 2 ^ place → (row : Row) (all : List Row) → all ≡ insert rows k row → TurnsCell (cells_of n bits rows) (cells_of n (bits + b) all) place (Some row)
    is_put b bit row all inserted = cell_turned n place bits rows within _ (Some row) (ap (λ c. cells_of n (bits + c) all) bit ∙ ap (cells_of n (bits + 2 ^ place)) (inserted ∙ ap (λ j. insert rows j row) is) ∙ cells_put n place bits rows row within size free)

    pub more : (b : ℕ) → b ≡ 2 ^ place → (all : List Row) → length all ≡ length rows + 1 → length all ≡ ones_below n (bits + b)
    more b bit all longer =
        let one = ones_added n place bits within free in
        let same = ap (λ c. ones_below n (bits + c)) bit in
        omega (arith, one, same, longer, size)
