-- Lists that stand one behind the other, and what is cut out of them.
use Rattle.std.proofs.Common.{◌≡◌, ℕ, zero, suc, ◌+◌, ◌-◌, ◌<◌, ◌≤◌, List, [], ◌∷◌, ◌++◌, Bool, true, false, cond, ◌&&◌, nat_lt, length, take, drop, get_or, map, refl, sym, ap, ◌∙◌, arith, append_assoc, length-append}
use Rattle.std.specs.Prelude.{nat_le}
use Rattle.std.specs.List.{flat_map, range_with_len}
use Rattle.std.proofs.Math.Seq.{drop-append_seam}
use Rattle.std.proofs.lemmas.List.{take_all, take-append-le}
use Rattle.std.proofs.lemmas.List.FromFn.{get_or-map-range_with_len, length-map-range_with_len}
use Rattle.std.proofs.lemmas.Bool.{lt-ltb, le-leb, le-ltb, and_from}
use Rattle.std.proofs.lemmas.Grind.{flat_map-append}
use Rattle.psdl_directory.proofs.Ranged.{range_next}
use Rattle.psdl_lineage.proofs.Listing.{take_more}
use Rattle.psdl_members.specs.inner.Flat.{flat, begins, piece, piece_of}

pub take_none : {A : Type 0} (xs : List A) → take 0 xs ≡ []
take_none [] = refl
take_none (x ∷ xs) = refl

pub append_none : {A : Type 0} (xs : List A) → xs ++ [] ≡ xs
append_none [] = refl
append_none (x ∷ xs) = ap (λ l. x ∷ l) (append_none xs)

pub flat_more : {A : Type 0} (g : ℕ → List A) (n : ℕ) → flat g (n + 1) ≡ flat g n ++ g n
flat_more {A} g n =
    ap (λ (l : List ℕ). flat_map g l) (range_next n) ∙ flat_map-append g (range_with_len 0 n) (n ∷ []) ∙ ap (λ (l : List A). flat g n ++ l) (append_none (g n))

-- what one declaration more has
pub next_piece : {A : Type 0} (g : ℕ → List A) (ds : List ℕ) (i : ℕ) → i < length ds → flat_map g (take (i + 1) ds) ≡ flat_map g (take i ds) ++ g (get_or ds i 0)
next_piece {A} g ds i lt =
    ap (λ (l : List ℕ). flat_map g l) (take_more ds i 0 lt) ∙ flat_map-append g (take i ds) (get_or ds i 0 ∷ [])
    ∙ ap (λ (l : List A). flat_map g (take i ds) ++ l) (append_none (g (get_or ds i 0)))

cut_from : {A : Type 0} (g : ℕ → List A) (n k a m b c : ℕ) → m ≡ n + suc k → b ≡ a + n → c ≡ b + 1 → flat_map g (range_with_len a m) ≡ flat_map g (range_with_len a n) ++ (g b ++ flat_map g (range_with_len c k))
cut_from g zero k a m b c e f h =
    let one : m ≡ suc k = omega (arith, e) in
    let same : b ≡ a = omega (arith, f) in
    let next : c ≡ a + 1 = omega (arith, f, h) in
    rw (one, same, next) refl
cut_from g (suc n) k a zero b c e f h = absurd (omega (arith, e))
cut_from {A} g (suc n) k a (suc m) b c e f h =
    ap (λ (l : List A). g a ++ l) (cut_from g n k (a + 1) m b c (omega (arith, e)) (omega (arith, f)) h)
    ∙ sym (append_assoc (g a) (flat_map g (range_with_len (a + 1) n)) (g b ++ flat_map g (range_with_len c k)))

pub cut : {A : Type 0} (g : ℕ → List A) (n count : ℕ) → n < count → flat g count ≡ flat g n ++ (g n ++ flat_map g (range_with_len (n + 1) (count - (n + 1))))
cut g n count lt = cut_from g n (count - (n + 1)) 0 count n (n + 1) (omega (arith, lt)) (omega arith) refl

front_of : {A : Type 0} (xs ys : List A) → take (length xs) (xs ++ ys) ≡ xs
front_of xs ys = take-append-le (length xs) xs ys (omega arith) ∙ take_all (length xs) xs (omega arith)

pub begin_at : {A : Type 0} (g : ℕ → List A) (count i : ℕ) → i < count → get_or (begins g count) i 0 ≡ length (flat g i)
begin_at g count i lt = get_or-map-range_with_len (λ j. length (flat g j)) 0 count i i 0 lt (omega arith)

-- what a declaration has is the piece that begins where it begins
pub piece_is : {A : Type 0} (g : ℕ → List A) (count n : ℕ) → n < count → piece (begins g (count + 1)) n (flat g count) ≡ g n
piece_is {A} g count n lt =
    let rest : List A = flat_map g (range_with_len (n + 1) (count - (n + 1))) in
    let from : get_or (begins g (count + 1)) n 0 ≡ length (flat g n) = begin_at g (count + 1) n (omega (arith, lt)) in
    let to : get_or (begins g (count + 1)) (n + 1) 0 ≡ length (flat g n) + length (g n) =
    begin_at g (count + 1) (n + 1) (omega (arith, lt)) ∙ ap (λ (l : List A). length l) (flat_more g n) ∙ length-append (flat g n) (g n) in
    let many : get_or (begins g (count + 1)) (n + 1) 0 - get_or (begins g (count + 1)) n 0 ≡ length (g n) = omega (arith, from, to) in
    ap (λ (k : ℕ). take k (drop (get_or (begins g (count + 1)) n 0) (flat g count))) many
    ∙ ap (λ (k : ℕ). take (length (g n)) (drop k (flat g count))) from
    ∙ ap (λ (l : List A). take (length (g n)) (drop (length (flat g n)) l)) (cut g n count lt)
    ∙ ap (λ (l : List A). take (length (g n)) l) (drop-append_seam (flat g n) (g n ++ rest))
    ∙ front_of (g n) rest

map_take : {A B : Type 0} (f : A → B) (k : ℕ) (xs : List A) → map f (take k xs) ≡ take k (map f xs)
map_take f zero [] = refl
map_take f zero (x ∷ xs) = refl
map_take f (suc k) [] = refl
map_take f (suc k) (x ∷ xs) = ap (λ l. f x ∷ l) (map_take f k xs)

map_drop : {A B : Type 0} (f : A → B) (k : ℕ) (xs : List A) → map f (drop k xs) ≡ drop k (map f xs)
map_drop f zero [] = refl
map_drop f zero (x ∷ xs) = refl
map_drop f (suc k) [] = refl
map_drop f (suc k) (x ∷ xs) = map_drop f k xs

pub map_piece : {A B : Type 0} (f : A → B) (starts : List ℕ) (n : ℕ) (items : List A) → map f (piece starts n items) ≡ piece starts n (map f items)
map_piece {A} {B} f starts n items =
    map_take f (get_or starts (n + 1) 0 - get_or starts n 0) (drop (get_or starts n 0) items)
    ∙ ap (λ (l : List B). take (get_or starts (n + 1) 0 - get_or starts n 0) l) (map_drop f (get_or starts n 0) items)

-- ---- pieces by where each begins

pub length-map_is : {A B C : Type 0} (f : A → C) (g : B → C) (xs : List A) (ys : List B) → map f xs ≡ map g ys → length xs ≡ length ys
length-map_is f g [] [] e = refl
length-map_is f g [] (y ∷ ys) e = absurd (cc)
length-map_is f g (x ∷ xs) [] e = absurd (cc)
length-map_is f g (x ∷ xs) (y ∷ ys) e = let rest : map f xs ≡ map g ys = cc in omega (arith, length-map_is f g xs ys rest)

length-begins : {A : Type 0} (g : ℕ → List A) (count : ℕ) → length (begins g count) ≡ count
length-begins g count = length-map-range_with_len (λ i. length (flat g i)) 0 count

-- it stands in order and within the list
pub is_piece : {A B : Type 0} (g : ℕ → List A) (count n : ℕ) (items : List B) → n < count → length items ≡ length (flat g count) → piece_of (begins g (count + 1)) n items ≡ piece (begins g (count + 1)) n items
is_piece {A} {B} g count n items lt sized =
    let starts : List ℕ = begins g (count + 1) in
    let rest : List A = flat_map g (range_with_len (n + 1) (count - (n + 1))) in
    let from : get_or starts n 0 ≡ length (flat g n) = begin_at g (count + 1) n (omega (arith, lt)) in
    let to : get_or starts (n + 1) 0 ≡ length (flat g n) + length (g n) =
    begin_at g (count + 1) (n + 1) (omega (arith, lt)) ∙ ap (λ (l : List A). length l) (flat_more g n) ∙ length-append (flat g n) (g n) in
    let whole : length (flat g count) ≡ length (flat g n) + (length (g n) + length rest) =
    ap (λ (l : List A). length l) (cut g n count lt) ∙ length-append (flat g n) (g n ++ rest) ∙ ap (λ k. length (flat g n) + k) (length-append (g n) rest) in
    let there : nat_lt (n + 1) (length starts) ≡ true = lt-ltb (n + 1) (length starts) (omega (arith, lt, length-begins g (count + 1))) in
    let ordered : nat_le (get_or starts n 0) (get_or starts (n + 1) 0) ≡ true = le-leb (get_or starts n 0) (get_or starts (n + 1) 0) (omega (arith, from, to)) in
    let within : nat_le (get_or starts (n + 1) 0) (length items) ≡ true = le-leb (get_or starts (n + 1) 0) (length items) (omega (arith, to, whole, sized)) in
    let right : nat_lt (n + 1) (length starts) && (nat_le (get_or starts n 0) (get_or starts (n + 1) 0) && nat_le (get_or starts (n + 1) 0) (length items)) ≡ true =
    and_from (nat_lt (n + 1) (length starts)) (nat_le (get_or starts n 0) (get_or starts (n + 1) 0) && nat_le (get_or starts (n + 1) 0) (length items)) there
    (and_from (nat_le (get_or starts n 0) (get_or starts (n + 1) 0)) (nat_le (get_or starts (n + 1) 0) (length items)) ordered within) in
    ap (λ (b : Bool). cond b (piece starts n items) []) right

pub no_piece : {A B : Type 0} (g : ℕ → List A) (count n : ℕ) (items : List B) → count ≤ n → piece_of (begins g (count + 1)) n items ≡ []
no_piece g count n items past =
    let starts : List ℕ = begins g (count + 1) in
    let off : nat_lt (n + 1) (length starts) ≡ false = le-ltb (n + 1) (length starts) (omega (arith, past, length-begins g (count + 1))) in
    ap (λ (b : Bool). cond (b && (nat_le (get_or starts n 0) (get_or starts (n + 1) 0) && nat_le (get_or starts (n + 1) 0) (length items))) (piece starts n items) []) off
