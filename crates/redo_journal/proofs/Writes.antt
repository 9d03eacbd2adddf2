-- Writes in a row are one write.
use Rattle.std.proofs.Common.{ℕ, zero, suc, ◌≡◌, ◌≤◌, ◌+◌, List, [], ◌∷◌, ◌++◌, length, take, drop, replicate, refl, sym, ap, ◌∙◌, append_assoc, arith, length-append}
use Rattle.std.proofs.Math.Seq.{take-append_seam, drop-append-add}
use Rattle.pss_disk.specs.Octets.{octets_in, write}
use Rattle.pss_disk.specs.inner.Writing.{length-octets_in}
use Rattle.pss_disk.proofs.Parts.{part_of_part}

abbrev pub front : ℕ → List ℕ → List ℕ
front at content = octets_in (record { at = 0; count = at }) content

-- the first octets of a content that has more
front_of : (n : ℕ) (xs ys : List ℕ) → length xs ≡ n → front n (xs ++ ys) ≡ xs
front_of n xs ys e =
    ap (λ k. take k ((xs ++ ys) ++ replicate k 0)) (sym e) ∙ ap (take (length xs)) (append_assoc xs ys (replicate (length xs) 0)) ∙ take-append_seam xs (ys ++ replicate (length xs) 0)

behind_of : (n k : ℕ) (xs ys : List ℕ) → length xs ≡ n → drop (n + k) (xs ++ ys) ≡ drop k ys
behind_of n k xs ys e = ap (λ m. drop (m + k) (xs ++ ys)) (sym e) ∙ drop-append-add xs ys k

drop_more : (n k m : ℕ) (xs : List ℕ) → m ≡ n + k → drop k (drop n xs) ≡ drop m xs
drop_more zero k m xs e = ap (λ i. drop i xs) (let h : k ≡ m = omega (arith, e) in h)
drop_more (suc n) k zero xs e = absurd (omega (arith, e))
drop_more (suc n) k (suc m) [] e = drop_nil k
  where
    drop_nil : (k : ℕ) → drop {A = ℕ} k [] ≡ []
    drop_nil zero = refl
    drop_nil (suc k) = refl
drop_more (suc n) k (suc m) (x ∷ xs) e = drop_more n k m xs (omega (arith, e))

-- a write and one behind it
pub write_then : (at to : ℕ) (x : ℕ) (xs ys content : List ℕ) → to ≡ at + length (x ∷ xs) → write to ys (write at (x ∷ xs) content) ≡ write at ((x ∷ xs) ++ ys) content
write_then at to x xs [] content e = ap (λ l. write at l content) (sym (append_nil (x ∷ xs)))
  where
    append_nil : (l : List ℕ) → l ++ [] ≡ l
    append_nil [] = refl
    append_nil (z ∷ zs) = ap (λ l. z ∷ l) (append_nil zs)
write_then at to x xs (y ∷ ys) content e =
    let first = x ∷ xs in
    let second = y ∷ ys in
    let head = front at content ++ first in
    let rest = drop (at + length first) content in
    let l : length head ≡ to = omega (arith, e, length-append (front at content) first, length-octets_in (record { at = 0; count = at }) content) in
    let one : front to (head ++ rest) ≡ head = front_of to head rest l in
    let two : drop (to + length second) (head ++ rest) ≡ drop (length second) rest = behind_of to (length second) head rest l in
    let three : drop (length second) rest ≡ drop (at + length (first ++ second)) content = drop_more (at + length first) (length second) (at + length (first ++ second)) content (omega (arith, length-append first second)) in
    ap (λ f. (f ++ second) ++ drop (to + length second) (head ++ rest)) one ∙ ap (λ d. (head ++ second) ++ d) (two ∙ three)
    ∙ ap (λ l. l ++ drop (at + length (first ++ second)) content) (append_assoc (front at content) first second)

-- a write and one in front of it
pub write_in_front : (at to : ℕ) (x y : ℕ) (xs ys content : List ℕ) → to ≡ at + length (x ∷ xs) → write at (x ∷ xs) (write to (y ∷ ys) content) ≡ write at ((x ∷ xs) ++ (y ∷ ys)) content
write_in_front at to x y xs ys content e =
    let first = x ∷ xs in
    let second = y ∷ ys in
    let rest = drop (to + length second) content in
    let lf : length (front to content) ≡ to = length-octets_in (record { at = 0; count = to }) content in
    let whole = (front to content ++ second) ++ rest in
    let one : front at whole ≡ front at content = front_front in
    let two : drop (at + length first) whole ≡ second ++ rest =
    ap (λ k. drop k whole) (let h : at + length first ≡ to + 0 = omega (arith, e) in h) ∙ ap (drop (to + 0)) (append_assoc (front to content) second rest) ∙ behind_of to 0 (front to content) (second ++ rest) lf in
    let three : rest ≡ drop (at + length (first ++ second)) content = ap (λ k. drop k content) (let h : to + length second ≡ at + length (first ++ second) = omega (arith, e, length-append first second) in h) in
    ap (λ f. (f ++ first) ++ drop (at + length first) whole) one ∙ ap (λ d. (front at content ++ first) ++ d) two
    ∙ ap (λ r. (front at content ++ first) ++ (second ++ r)) three
    ∙ sym (append_assoc (front at content ++ first) second (drop (at + length (first ++ second)) content))
    ∙ ap (λ l. l ++ drop (at + length (first ++ second)) content) (append_assoc (front at content) first second)
  where
    small : (n : ℕ) (ws zs : List ℕ) → n ≤ length ws → take n (ws ++ zs) ≡ take n ws
    small zero ws zs le = refl
    small (suc n) [] zs le = absurd (omega (arith, le))
    small (suc n) (w ∷ ws) zs le = ap (λ l. w ∷ l) (small n ws zs (omega (arith, le)))

    front_front : front at ((front to content ++ (y ∷ ys)) ++ drop (to + length (y ∷ ys)) content) ≡ front at content
    front_front =
        let lf : length (front to content) ≡ to = length-octets_in (record { at = 0; count = to }) content in
        let second = y ∷ ys in
        let rest = drop (to + length second) content in
        let zeros : List ℕ = replicate at 0 in
        ap (λ l. take at (l ++ zeros)) (append_assoc (front to content) second rest) ∙ ap (take at) (append_assoc (front to content) (second ++ rest) zeros)
        ∙ small at (front to content) ((second ++ rest) ++ zeros) (omega (arith, lf, e))
        ∙ part_of_part 0 to 0 at content (omega (arith, e))
