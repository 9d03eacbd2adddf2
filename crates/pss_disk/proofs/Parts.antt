-- Parts of images, octet by octet.
use Rattle.std.proofs.Common.{ℕ, zero, suc, ◌≡◌, ◌<◌, ◌≤◌, ◌+◌, ◌-◌, ◌⊎◌, ⊎_elim, List, [], ◌∷◌, ◌++◌, length, take, drop, replicate, get_or, slice_get, None, Some, refl, sym, ap, ◌∙◌, subst, arith, length-append, length-drop}
use Rattle.std.proofs.lemmas.Bool.{cases_lt}
use Rattle.std.proofs.lemmas.Grind.{common_steps}
use Rattle.std.proofs.lemmas.List.{get_or_past, get_or-drop, get_or-replicate, get_or-take, length-replicate, length-take-le}
use Rattle.std.proofs.lemmas.Option.{get_or_from_slice_get, slice_get-get_or, unwrap_or-slice_get}
use Rattle.std.specs.Option.{unwrap_or}
use Rattle.pss_disk.specs.Images.{Agrees}
use Rattle.pss_disk.specs.Moments.{Range}
use Rattle.pss_disk.specs.Octets.{octets_in, range_of, write}
use Rattle.pss_disk.specs.Parts.{Stands, octet_at}
use Rattle.pss_disk.specs.inner.Writing.{length-octets_in, write_within}

-- lists of the same octets
pub same_by_place : (xs ys : List ℕ) → length xs ≡ length ys → ((i : ℕ) → i < length xs → get_or xs i 0 ≡ get_or ys i 0) → xs ≡ ys
same_by_place [] [] e f = refl
same_by_place [] (y ∷ ys) e f = absurd (omega (arith, e))
same_by_place (x ∷ xs) [] e f = absurd (omega (arith, e))
same_by_place (x ∷ xs) (y ∷ ys) e f =
    ap (λ z. z ∷ xs) (f 0 (omega arith)) ∙ ap (λ zs. y ∷ zs) (same_by_place xs ys (omega (arith, e)) (λ i lt. f (suc i) (omega (arith, lt))))

left : (xs ys : List ℕ) (i : ℕ) → i < length xs → get_or (xs ++ ys) i 0 ≡ get_or xs i 0
left [] ys i lt = absurd (omega (arith, lt))
left (x ∷ xs) ys zero lt = refl
left (x ∷ xs) ys (suc i) lt = left xs ys i (omega (arith, lt))

right : (xs ys : List ℕ) (i k : ℕ) → k ≡ length xs + i → get_or (xs ++ ys) k 0 ≡ get_or ys i 0
right [] ys i k e = ap (λ n. get_or ys n 0) (let h : k ≡ i = omega (arith, e) in h)
right (x ∷ xs) ys i zero e = absurd (omega (arith, e))
right (x ∷ xs) ys i (suc k) e = right xs ys i k (omega (arith, e))

-- an octet of a part
pub in_part : (range : Range) (image : List ℕ) (i : ℕ) → i < range.count → get_or (octets_in range image) i 0 ≡ octet_at image (range.at + i)
in_part range image i lt =
    let rest = drop range.at image in
    let zeros : List ℕ = replicate range.count 0 in
    get_or-take range.count (rest ++ zeros) i 0 lt ∙ ⊎_elim
    (λ less. left rest zeros i less ∙ get_or-drop range.at image i 0)
    (λ more.
    let j = i - length rest in
    right rest zeros j i (omega (arith, more)) ∙ get_or-replicate range.count j 0 0 (omega (arith, lt)) ∙ sym (get_or_past image (range.at + i) 0 (omega (arith, more, length-drop range.at image))))
    (cases_lt i (length rest))

-- images that have the same octets in a range have the same part
pub same_part : (range : Range) (a b : List ℕ) → ((i : ℕ) → range.at ≤ i → i < range.at + range.count → octet_at a i ≡ octet_at b i) → octets_in range a ≡ octets_in range b
same_part range a b same =
    same_by_place (octets_in range a) (octets_in range b) (length-octets_in range a ∙ sym (length-octets_in range b))
    (λ i lt.
    let few : i < range.count = omega (arith, lt, length-octets_in range a) in
    in_part range a i few ∙ same (range.at + i) (omega arith) (omega (arith, few)) ∙ sym (in_part range b i few))

-- a part in two
pub part_in_two : (at m n : ℕ) (image : List ℕ) → octets_in (record { at = at; count = m + n }) image ≡ octets_in (record { at = at; count = m }) image ++ octets_in (record { at = at + m; count = n }) image
part_in_two at m n image =
    let whole = octets_in (record { at = at; count = m + n }) image in
    let one = octets_in (record { at = at; count = m }) image in
    let two = octets_in (record { at = at + m; count = n }) image in
    let l : length whole ≡ m + n = length-octets_in (record { at = at; count = m + n }) image in
    let l1 : length one ≡ m = length-octets_in (record { at = at; count = m }) image in
    let l2 : length two ≡ n = length-octets_in (record { at = at + m; count = n }) image in
    same_by_place whole (one ++ two) (omega (arith, l, l1, l2, length-append one two))
    (λ i lt.
    in_part (record { at = at; count = m + n }) image i (omega (arith, lt, l)) ∙ ⊎_elim
    (λ less. sym (left one two i (omega (arith, less, l1)) ∙ in_part (record { at = at; count = m }) image i less))
    (λ more.
    let j = i - m in
    let e : at + i ≡ at + m + j = omega (arith, more) in
    ap (octet_at image) e ∙ sym (right one two j i (omega (arith, more, l1)) ∙ in_part (record { at = at + m; count = n }) image j (omega (arith, more, lt, l))))
    (cases_lt i m))

-- what stands there, place by place
pub stands_at : (image xs : List ℕ) (at i : ℕ) → Stands image at xs → i < length xs → octet_at image (at + i) ≡ get_or xs i 0
stands_at image xs at i s lt = sym (in_part (range_of at xs) image i lt) ∙ ap (λ l. get_or l i 0) s

pub stands_by : (image xs : List ℕ) (at : ℕ) → ((i : ℕ) → i < length xs → octet_at image (at + i) ≡ get_or xs i 0) → Stands image at xs
stands_by image xs at f =
    same_by_place (octets_in (range_of at xs) image) xs (length-octets_in (range_of at xs) image)
    (λ i lt. let few : i < length xs = omega (arith, lt, length-octets_in (range_of at xs) image) in in_part (range_of at xs) image i few ∙ f i few)

-- of two lists in a row each one stands
pub stands_first : (image xs ys : List ℕ) (at : ℕ) → Stands image at (xs ++ ys) → Stands image at xs
stands_first image xs ys at s = stands_by image xs at (λ i lt. stands_at image (xs ++ ys) at i s (omega (arith, lt, length-append xs ys)) ∙ left xs ys i lt)

pub stands_second : (image xs ys : List ℕ) (at to : ℕ) → to ≡ at + length xs → Stands image at (xs ++ ys) → Stands image to ys
stands_second image xs ys at to e s =
    stands_by image ys to (λ i lt.
    ap (octet_at image) (let h : to + i ≡ at + (length xs + i) = omega (arith, e) in h)
    ∙ stands_at image (xs ++ ys) at (length xs + i) s (omega (arith, lt, length-append xs ys)) ∙ right xs ys i (length xs + i) refl)

pub stands_both : (image xs ys : List ℕ) (at to : ℕ) → to ≡ at + length xs → Stands image at xs → Stands image to ys → Stands image at (xs ++ ys)
stands_both image xs ys at to e s t =
    stands_by image (xs ++ ys) at (λ i lt. ⊎_elim
    (λ less. stands_at image xs at i s less ∙ sym (left xs ys i less))
    (λ more.
    let j = i - length xs in
    let here : at + i ≡ to + j = omega (arith, e, more) in
    ap (octet_at image) here ∙ stands_at image ys to j t (omega (arith, lt, more, length-append xs ys)) ∙ sym (right xs ys j i (omega (arith, more))))
    (cases_lt i (length xs)))

-- what was written stands there
pub written_stands : (at : ℕ) (bytes content : List ℕ) → Stands (write at bytes content) at bytes
written_stands at bytes content = stands_by (write at bytes content) bytes at (λ i lt. get_or_from_slice_get (write at bytes content) (at + i) _ 0 (write_within at bytes content i (at + i) lt refl ∙ slice_get-get_or bytes i 0 lt))

-- octets where an image agrees
pub agrees_at : (S : ℕ → Type 0) (content image : List ℕ) (i : ℕ) → Agrees S content image → S i → i < length content → octet_at image i ≡ octet_at content i
agrees_at S content image i same s lt = sym (unwrap_or-slice_get image i 0) ∙ ap (λ o. unwrap_or o 0) (same i s lt) ∙ unwrap_or-slice_get content i 0

-- what stands in a content stands in each image that agrees there
pub stands_still : (S : ℕ → Type 0) (content image xs : List ℕ) (at : ℕ) → Agrees S content image → ((i : ℕ) → at ≤ i → i < at + length xs → S i) → at + length xs ≤ length content → Stands content at xs → Stands image at xs
stands_still S content image xs at same inside le s =
    stands_by image xs at (λ i lt. agrees_at S content image (at + i) same (inside (at + i) (omega arith) (omega (arith, lt))) (omega (arith, lt, le)) ∙ stands_at content xs at i s lt)

-- a part of a part
pub part_of_part : (at n k m : ℕ) (image : List ℕ) → k + m ≤ n → take m (drop k (octets_in (record { at = at; count = n }) image)) ≡ octets_in (record { at = at + k; count = m }) image
part_of_part at n k m image le =
    let whole = octets_in (record { at = at; count = n }) image in
    let part = octets_in (record { at = at + k; count = m }) image in
    let l : length whole ≡ n = length-octets_in (record { at = at; count = n }) image in
    let lp : length part ≡ m = length-octets_in (record { at = at + k; count = m }) image in
    let lt0 : length (take m (drop k whole)) ≡ m = length-take-le m (drop k whole) (omega (arith, le, l, length-drop k whole)) in
    same_by_place (take m (drop k whole)) part (lt0 ∙ sym lp)
    (λ i lt.
    let few : i < m = omega (arith, lt, lt0) in
    get_or-take m (drop k whole) i 0 few ∙ get_or-drop k whole i 0 ∙ in_part (record { at = at; count = n }) image (k + i) (omega (arith, few, le))
    ∙ ap (octet_at image) (let e : at + (k + i) ≡ at + k + i = omega arith in e) ∙ sym (in_part (record { at = at + k; count = m }) image i few))
