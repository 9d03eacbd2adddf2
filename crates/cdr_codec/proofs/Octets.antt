-- Numbers and their octets.
use Rattle.std.proofs.Common.{◌≡◌, ℕ, ◌+◌, ◌*◌, ◌%◌, ◌^◌, ◌<◌, ◌≤◌, List, [], ◌∷◌, length, take, drop, get_or, sym, ap, ◌∙◌, arith}
use Rattle.std.proofs.lemmas.List.{get_or-drop}
use Rattle.std.specs.Int.{w16, w32, w64, from_be_bytes}
use Rattle.std.proofs.lemmas.Nat.{be_bytes_2, be_bytes_4, be_bytes_8}
use Rattle.std.proofs.lemmas.List.{length-take, get_or-take, get_or_past}
use Rattle.std.proofs.lemmas.Bool.{cases_lt}
use Rattle.std.proofs.Common.{inl, inr}
use Rattle.cdr_codec.specs.Primitives.{One, Two, Four, Eight, Primitive, Flag, Pad, Plain, Logical, Enumerator, TextLength, ItemCount, Home, Serial, Letters, width_of}
use Rattle.byteorder.specs.Endian.{big_number, big_bytes}
use Rattle.byteorder.specs.Numbers.{big_from-lt, big_from-take}

pub number_fits : (width : ℕ) (xs : List ℕ) → ((i : ℕ) → get_or xs i 0 < 256) → big_number width xs < 256 ^ width
number_fits width xs h = big_from-lt 0 width xs h

pub first_octet : (bytes : List ℕ) (at : ℕ) → big_number 1 (drop at bytes) ≡ get_or bytes at 0
first_octet bytes at = (let first : get_or (drop at bytes) 0 0 ≡ get_or bytes (at + 0) 0 = get_or-drop at bytes 0 0 in omega (arith, first, ap (λ (k : ℕ). get_or bytes k 0) (let e : at + 0 ≡ at = omega arith in e)))

taken_octets : (xs : List ℕ) (n : ℕ) → ((i : ℕ) → get_or xs i 0 < 256) → (i : ℕ) → get_or (take n xs) i 0 < 256
taken_octets xs n h i =
    elim (cases_lt i n) [
      | inl lt ↦ rw (get_or-take n xs i 0 lt) (h i)
      | inr le ↦ rw (get_or_past (take n xs) i 0 (omega (arith, length-take n xs))) (omega arith)
    ]

-- the octets of the number that octets are, once for each width

back_1 : (xs : List ℕ) → ((i : ℕ) → get_or xs i 0 < 256) → 1 ≤ length xs → big_bytes 1 (big_number 1 xs) ≡ take 1 xs
back_1 [] h long = absurd (omega arith)
back_1 (x ∷ xs) h long = (let small : x < 256 = h 0 in let e : (x * 1 + 0) % 256 ≡ x = omega arith in ap (λ (k : ℕ). k ∷ []) e)

back_2 : (xs : List ℕ) → ((i : ℕ) → get_or xs i 0 < 256) → 2 ≤ length xs → big_bytes 2 (big_number 2 xs) ≡ take 2 xs
back_2 xs h long =
    let same : big_number 2 xs ≡ from_be_bytes w16 (take 2 xs) = sym (big_from-take 0 2 2 xs (omega arith)) ∙ (let e : big_number 2 (take 2 xs) ≡ from_be_bytes w16 (take 2 xs) = omega arith in e) in
    be_bytes_2 (take 2 xs) (big_number 2 xs) (omega (arith, length-take 2 xs)) (taken_octets xs 2 h) same

back_4 : (xs : List ℕ) → ((i : ℕ) → get_or xs i 0 < 256) → 4 ≤ length xs → big_bytes 4 (big_number 4 xs) ≡ take 4 xs
back_4 xs h long =
    let same : big_number 4 xs ≡ from_be_bytes w32 (take 4 xs) = sym (big_from-take 0 4 4 xs (omega arith)) ∙ (let e : big_number 4 (take 4 xs) ≡ from_be_bytes w32 (take 4 xs) = omega arith in e) in
    be_bytes_4 (take 4 xs) (big_number 4 xs) (omega (arith, length-take 4 xs)) (taken_octets xs 4 h) same

back_8 : (xs : List ℕ) → ((i : ℕ) → get_or xs i 0 < 256) → 8 ≤ length xs → big_bytes 8 (big_number 8 xs) ≡ take 8 xs
back_8 xs h long =
    let same : big_number 8 xs ≡ from_be_bytes w64 (take 8 xs) = sym (big_from-take 0 8 8 xs (omega arith)) ∙ (let e : big_number 8 (take 8 xs) ≡ from_be_bytes w64 (take 8 xs) = omega arith in e) in
    be_bytes_8 (take 8 xs) (big_number 8 xs) (omega (arith, length-take 8 xs)) (taken_octets xs 8 h) same

abbrev pub IsNumber : Primitive → Type 0
IsNumber (Letters n) = ⊥
IsNumber _ = Unit {0}

pub turned_back : (p : Primitive) → IsNumber p → (xs : List ℕ) → ((i : ℕ) → get_or xs i 0 < 256) → width_of p ≤ length xs → big_bytes (width_of p) (big_number (width_of p) xs) ≡ take (width_of p) xs
turned_back (Letters n) is xs h long = absurd is
turned_back Flag is xs h long = back_1 xs h long
turned_back Pad is xs h long = back_1 xs h long
turned_back (Plain One) is xs h long = back_1 xs h long
turned_back (Plain Two) is xs h long = back_2 xs h long
turned_back (Plain Four) is xs h long = back_4 xs h long
turned_back (Plain Eight) is xs h long = back_8 xs h long
turned_back Logical is xs h long = back_1 xs h long
turned_back (Enumerator count) is xs h long = back_4 xs h long
turned_back (TextLength bound) is xs h long = back_4 xs h long
turned_back (ItemCount bound) is xs h long = back_4 xs h long
turned_back (Home homes) is xs h long = back_4 xs h long
turned_back (Serial home) is xs h long = back_8 xs h long
