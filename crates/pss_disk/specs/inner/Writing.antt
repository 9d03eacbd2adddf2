-- What a write leaves of a content, octet by octet.
use Rattle.std.proofs.Common.{ℕ, zero, suc, ◌≡◌, ◌<◌, ◌≤◌, ◌+◌, ◌-◌, ◌⊎◌, ⊎_elim, List, [], ◌∷◌, ◌++◌, length, take, drop, replicate, max, slice_get, ◌||◌, Bool, true, false, refl, ap, ◌∙◌, arith, length-append, length-drop}
use Rattle.std.proofs.lemmas.List.{length-take-le, length-replicate}
use Rattle.std.proofs.lemmas.Bool.{true≢false}
use Rattle.std.proofs.lemmas.Grind.{common_steps}
use Rattle.pss_disk.specs.Moments.{Range, Disk, IsImage, is_within, is_covered, pend, reach, end_of}
use Rattle.pss_disk.specs.Octets.{octets_in, range_of, write, SameOutside}

pub in_first : (xs ys : List ℕ) (i : ℕ) → i < length xs → slice_get (xs ++ ys) i ≡ slice_get xs i
in_first [] ys i lt = absurd (omega (arith, lt))
in_first (x ∷ xs) ys zero lt = refl
in_first (x ∷ xs) ys (suc i) lt = in_first xs ys i (omega (arith, lt))

pub in_second : (xs ys : List ℕ) (i k : ℕ) → k ≡ length xs + i → slice_get (xs ++ ys) k ≡ slice_get ys i
in_second [] ys i k e = ap (slice_get ys) (let s : k ≡ i = omega (arith, e) in s)
in_second (x ∷ xs) ys i zero e = absurd (omega (arith, e))
in_second (x ∷ xs) ys i (suc k) e = in_second xs ys i k (omega (arith, e))

pub in_drop : (n : ℕ) (xs : List ℕ) (i k : ℕ) → k ≡ n + i → slice_get (drop n xs) i ≡ slice_get xs k
in_drop zero xs i k e = ap (slice_get xs) (let s : i ≡ k = omega (arith, e) in s)
in_drop (suc n) [] i k e = refl
in_drop (suc n) (x ∷ xs) i zero e = absurd (omega (arith, e))
in_drop (suc n) (x ∷ xs) i (suc k) e = in_drop n xs i k (omega (arith, e))

pub in_take : (n : ℕ) (xs : List ℕ) (i : ℕ) → i < n → slice_get (take n xs) i ≡ slice_get xs i
in_take zero xs i lt = absurd (omega (arith, lt))
in_take (suc n) [] i lt = refl
in_take (suc n) (x ∷ xs) zero lt = refl
in_take (suc n) (x ∷ xs) (suc i) lt = in_take n xs i (omega (arith, lt))

pub length-octets_in : (range : Range) (content : List ℕ) → length (octets_in range content) ≡ range.count
length-octets_in range content = length-take-le range.count _ (omega (arith, length-append (drop range.at content) (replicate range.count 0), length-replicate {A = ℕ} range.count 0))

abbrev front : ℕ → List ℕ → List ℕ
front at content = octets_in (record { at = 0; count = at }) content

front_length : (at : ℕ) (content : List ℕ) → length (front at content) ≡ at
front_length at content = length-octets_in (record { at = 0; count = at }) content

-- in front of what is written the content stays
pub write_before : (at : ℕ) (bytes content : List ℕ) (i : ℕ) → i < at → i < length content → slice_get (write at bytes content) i ≡ slice_get content i
write_before at [] content i lt within = refl
write_before at (b ∷ bytes) content i lt within =
    let rest = drop (at + length (b ∷ bytes)) content in
    in_first (front at content ++ (b ∷ bytes)) rest i (omega (arith, lt, front_length at content, length-append (front at content) (b ∷ bytes)))
    ∙ in_first (front at content) (b ∷ bytes) i (omega (arith, lt, front_length at content))
    ∙ in_take at _ i lt ∙ in_first content (replicate at 0) i within

-- there it is
pub write_within : (at : ℕ) (bytes content : List ℕ) (i k : ℕ) → i < length bytes → k ≡ at + i → slice_get (write at bytes content) k ≡ slice_get bytes i
write_within at [] content i k lt e = absurd (omega (arith, lt))
write_within at (b ∷ bytes) content i k lt e =
    let rest = drop (at + length (b ∷ bytes)) content in
    in_first (front at content ++ (b ∷ bytes)) rest k (omega (arith, lt, e, front_length at content, length-append (front at content) (b ∷ bytes)))
    ∙ in_second (front at content) (b ∷ bytes) i k (omega (arith, e, front_length at content))

-- behind it the content stays
pub write_behind : (at : ℕ) (bytes content : List ℕ) (k : ℕ) → at + length bytes ≤ k → slice_get (write at bytes content) k ≡ slice_get content k
write_behind at [] content k le = refl
write_behind at (b ∷ bytes) content k le = by (k - (at + length (b ∷ bytes))) (omega (arith, le))
  where
    by : (j : ℕ) → k ≡ at + length (b ∷ bytes) + j → slice_get (write at (b ∷ bytes) content) k ≡ slice_get content k
    by j e =
        let rest = drop (at + length (b ∷ bytes)) content in
        in_second (front at content ++ (b ∷ bytes)) rest j k (omega (arith, e, front_length at content, length-append (front at content) (b ∷ bytes)))
        ∙ in_drop (at + length (b ∷ bytes)) content j k (omega (arith, e))

pub length-write : (at : ℕ) (bytes content : List ℕ) → length (write at bytes content) ≡ max (length content) (reach (range_of at bytes))
length-write at [] content = omega arith
length-write at (b ∷ bytes) content =
    let all = b ∷ bytes in
    let rest = drop (at + length all) content in
    let e : length (write at all content) ≡ length ((front at content ++ all) ++ rest) = refl in
    omega (arith, e, length-append (front at content ++ all) rest, length-append (front at content) all, front_length at content, length-drop (at + length all) content)

-- a place is in the range or not
pub outside : (range : Range) (i : ℕ) → is_within range i ≡ false → (i < range.at) ⊎ (range.at + range.count ≤ i)
outside range i out = grind (arith, common_steps)

pub inside : (range : Range) (i : ℕ) → is_within range i ≡ true → (range.at ≤ i) × (i < range.at + range.count)
inside range i h = (grind (arith, common_steps), grind (arith, common_steps))

pub write_outside : (at : ℕ) (bytes content : List ℕ) (i : ℕ) → is_within (range_of at bytes) i ≡ false → i < length content → slice_get (write at bytes content) i ≡ slice_get content i
write_outside at bytes content i out lt =
    ⊎_elim (λ less. write_before at bytes content i less lt) (λ more. write_behind at bytes content i more) (outside (range_of at bytes) i out)

pub neither : (a b : Bool) → (a || b) ≡ false → (a ≡ false) × (b ≡ false)
neither true b e = absurd (true≢false e)
neither false b e = (refl, e)

reach_more : (at m n : ℕ) → m ≤ n → end_of at m ≤ end_of at n
reach_more at zero n le = omega arith
reach_more at (suc m) zero le = absurd (omega (arith, le))
reach_more at (suc m) (suc n) le = omega (arith, le)

fewer : (at m n i : ℕ) → m ≤ n → is_within (record { at = at; count = n }) i ≡ false → is_within (record { at = at; count = m }) i ≡ false
fewer at m n i le out = grind (arith, common_steps)

-- first octets of a write leave an image of a disk on which the write is pending
pub written_is_image : (disk : Disk) (at count : ℕ) (bytes content : List ℕ) → length bytes ≤ count → IsImage disk content → IsImage (pend (record { at = at; count = count }) disk) (write at bytes content)
written_is_image disk at count bytes content few is = record {
  no_shorter = omega (arith, is.no_shorter, length-write at bytes content);
  no_longer = omega (arith, is.no_longer, length-write at bytes content, reach_more at (length bytes) count few);
  others = λ i lt clear.
      let both = neither (is_within (record { at = at; count = count }) i) (is_covered disk.pending i) clear in
      write_outside at bytes content i (fewer at (length bytes) count i few both.0) (omega (arith, lt, is.no_shorter)) ∙ is.others i lt both.1;
}

pub stays_outside : (at count : ℕ) (bytes content : List ℕ) → length bytes ≤ count → SameOutside (record { at = at; count = count }) content (write at bytes content)
stays_outside at count bytes content few = record {
  no_shorter = omega (arith, length-write at bytes content);
  no_longer = omega (arith, length-write at bytes content, reach_more at (length bytes) count few);
  others = λ i lt out. write_outside at bytes content i (fewer at (length bytes) count i few out) lt;
}

pub stays_same : (range : Range) (content : List ℕ) → SameOutside range content content
stays_same range content = record { no_shorter = omega arith; no_longer = omega arith; others = λ i lt out. refl }
