-- What octets copied or filled in place leave.
use Rattle.std.proofs.Common.{ℕ, zero, suc, ◌≡◌, ◌<◌, ◌≤◌, ◌+◌, ◌-◌, ⊎_elim, ◌≢◌, List, [], ◌∷◌, ◌++◌, length, take, drop, replicate, max, slice_get, nat_le, ◌||◌, Bool, true, false, Some, refl, sym, ap, ◌∙◌, subst, arith, length-append, length-drop}
use Rattle.std.proofs.lemmas.Bool.{true≢false}
use Rattle.std.proofs.lemmas.Grind.{common_steps}
use Rattle.std.proofs.lemmas.List.{length-take-le, length-replicate, take-replicate, drop_all}
use Rattle.pss_disk.specs.Moments.{Range, is_within, pend, settled}
use Rattle.pss_disk.specs.Octets.{range_of, write}
use Rattle.pss_disk.specs.Tape.{IsFilled}
use Rattle.pss_disk.specs.inner.Writing.{in_first, in_second, in_drop, in_take, inside, neither, outside}

-- enough zeros behind the end are as good as any number of them
padded : (n m : ℕ) (xs : List ℕ) → n ≤ length xs + m → take n (xs ++ replicate m 0) ≡ take n (xs ++ replicate n 0)
padded n m [] le = take-replicate n m 0 (omega (arith, le)) ∙ sym (take-replicate n n 0 (omega arith))
padded zero m (x ∷ xs) le = refl
padded (suc n) m (x ∷ xs) le =
    ap (λ l. x ∷ l) (padded n m xs (omega (arith, le)) ∙ sym (padded n (suc n) xs (omega arith)))

dropped : (n m z : ℕ) (xs : List ℕ) → m ≡ n - length xs → drop n (xs ++ replicate m z) ≡ drop n xs
dropped n m z [] e = drop_all n (replicate m z) (omega (arith, e, length-replicate m z)) ∙ sym (drop_all n [] (omega arith))
dropped zero zero z (x ∷ xs) e = ap (λ l. x ∷ l) (dropped zero zero z xs (omega arith))
dropped zero (suc m) z (x ∷ xs) e = absurd (omega (arith, e))
dropped (suc n) m z (x ∷ xs) e = dropped n m z xs (omega (arith, e))

-- octets copied into a content that was made long enough are a write
pub copied_is_write : (at : ℕ) (bytes content long : List ℕ) → length bytes ≢ 0 → long ≡ content ++ replicate (at + length bytes - length content) 0 → take at long ++ bytes ++ drop (at + length bytes) long ≡ write at bytes content
copied_is_write at [] content long some e = absurd (some refl)
copied_is_write at (b ∷ bytes) content long some e =
    let n = length (b ∷ bytes) in
    let m = at + n - length content in
    let front : take at long ≡ take at (content ++ replicate at 0) = ap (take at) e ∙ padded at m content (omega arith) in
    let back : drop (at + n) long ≡ drop (at + n) content = ap (drop (at + n)) e ∙ dropped (at + n) m 0 content refl in
    ap (λ l. l ++ (b ∷ bytes) ++ drop (at + n) long) front ∙ ap (λ l. take at (content ++ replicate at 0) ++ (b ∷ bytes) ++ l) back

in_replicate : (n z i : ℕ) → i < n → slice_get (replicate n z) i ≡ Some z
in_replicate zero z i lt = absurd (omega (arith, lt))
in_replicate (suc n) z zero lt = refl
in_replicate (suc n) z (suc i) lt = in_replicate n z i (omega (arith, lt))

-- a range of octets that were made enough is filled
module _ (at n octet : ℕ) (image long : List ℕ) (is : long ≡ image ++ replicate (at + n - length image) octet) where
  abbrev result : List ℕ
  result = take at long ++ replicate n octet ++ drop (at + n) long

  length-long : length long ≡ max (length image) (at + n)
  length-long = omega (arith, ap length is, length-append image (replicate (at + n - length image) octet), length-replicate (at + n - length image) octet)

  front_is : length (take at long) ≡ at
  front_is = length-take-le at long (omega (arith, length-long))

  length-result : length result ≡ max (length image) (at + n)
  length-result = omega (arith, length-long, front_is, length-append (take at long ++ replicate n octet) (drop (at + n) long), length-append (take at long) (replicate n octet), length-replicate n octet, length-drop (at + n) long)

  long_old : (i : ℕ) → i < length image → slice_get long i ≡ slice_get image i
  long_old i lt = ap (λ l. slice_get l i) is ∙ in_first image (replicate (at + n - length image) octet) i lt

  long_new : (i : ℕ) → length image ≤ i → i < length long → slice_get long i ≡ Some octet
  long_new i le lt =
      ap (λ l. slice_get l i) is ∙ in_second image (replicate (at + n - length image) octet) (i - length image) i (omega (arith, le)) ∙ in_replicate (at + n - length image) octet (i - length image) (omega (arith, le, lt, length-long))

  before : (i : ℕ) → i < at → slice_get result i ≡ slice_get long i
  before i lt =
      in_first (take at long ++ replicate n octet) (drop (at + n) long) i (omega (arith, lt, front_is, length-append (take at long) (replicate n octet)))
      ∙ in_first (take at long) (replicate n octet) i (omega (arith, lt, front_is)) ∙ in_take at long i lt

  there : (i : ℕ) → at ≤ i → i < at + n → slice_get result i ≡ Some octet
  there i le lt =
      in_first (take at long ++ replicate n octet) (drop (at + n) long) i (omega (arith, lt, front_is, length-append (take at long) (replicate n octet), length-replicate n octet))
      ∙ in_second (take at long) (replicate n octet) (i - at) i (omega (arith, le, front_is)) ∙ in_replicate n octet (i - at) (omega (arith, le, lt))

  behind : (i : ℕ) → at + n ≤ i → slice_get result i ≡ slice_get long i
  behind i le =
      in_second (take at long ++ replicate n octet) (drop (at + n) long) (i - (at + n)) i (omega (arith, le, front_is, length-append (take at long) (replicate n octet), length-replicate n octet))
      ∙ in_drop (at + n) long (i - (at + n)) i (omega (arith, le))

  off : (i : ℕ) → is_within (record { at = at; count = n }) i ≡ false → slice_get result i ≡ slice_get long i
  off i out = ⊎_elim (λ less. before i less) (λ more. behind i more) (outside (record { at = at; count = n }) i out)

behind_end : (w : Bool) (n i : ℕ) → w ≡ false → ((w || false) || nat_le n i) ≡ true → n ≤ i
behind_end true n i e h = absurd (true≢false e)
behind_end false n i e h = grind (arith, common_steps)

pub filled_range : (at octet : ℕ) (bytes image long new : List ℕ) → length bytes ≢ 0 → long ≡ image ++ replicate (at + length bytes - length image) octet → new ≡ take at long ++ replicate (length bytes) octet ++ drop (at + length bytes) long → IsFilled octet (pend (range_of at bytes) (settled image)) new
filled_range at octet [] image long new some is e = absurd (some refl)
filled_range at octet (b ∷ bytes) image long new some is e = subst (IsFilled octet (pend range (settled image))) (sym e) record {
  no_shorter = omega (arith, length-result at n octet image long is);
  long = length-result at n octet image long is;
  filled = λ i lt h. by i lt (is_within range i) refl h;
  others = λ i lt clear. let both = neither (is_within range i) false clear in off at n octet image long is i both.0 ∙ long_old at n octet image long is i lt;
}
  where
    range : Range
    range = range_of at (b ∷ bytes)

    n : ℕ
    n = length (b ∷ bytes)

    by : (i : ℕ) → i < max (length image) (at + n) → (w : Bool) → is_within range i ≡ w → ((is_within range i || false) || nat_le (length image) i) ≡ true → slice_get (take at long ++ replicate n octet ++ drop (at + n) long) i ≡ Some octet
    by i lt true e h = let t = inside range i e in there at n octet image long is i t.0 t.1
    by i lt false e h =
        off at n octet image long is i e
        ∙ long_new at n octet image long is i (behind_end (is_within range i) (length image) i e h) (omega (arith, lt, length-long at n octet image long is))
