-- The first wrong octet of a string, and a string that has the octets in front of it.
use Rattle.std.proofs.Common.{◌≡◌, ℕ, zero, suc, ◌+◌, ◌<◌, ◌≤◌, Bool, true, false, cond, eqb, ltb, List, [], ◌∷◌, ◌++◌, length, get_or, take, Option, Some, None, refl, sym, ap, subst, ◌∙◌, arith}
use Rattle.std.specs.Prelude.{◌==◌, ◌||◌, ◌&&◌}
use Rattle.std.specs.List.{position, position_from}
use Rattle.std.proofs.Common.{inl, inr}
use Rattle.std.proofs.lemmas.Bool.{cases_lt, lt-ltb}
use Rattle.std.proofs.lemmas.List.{take-take, length-take, get_or-take, get_or_past}
use Rattle.std.proofs.lemmas.Iterator.Adapters.{position_from-zero}
use Rattle.type_layout.specs.Values.{has_zero, are_bytes}
use Rattle.cdr_codec.specs.Primitives.{given, wrong_letter}
use Rattle.cdr_codec.specs.Laws.{AreOctets}

either : (a b : Bool) → (a || b) ≡ false → (a ≡ false) × (b ≡ false)
either true b e = absurd cc
either false b e = (refl, e)

-- ---- octets of 0

none_has : (i : ℕ) (xs : List ℕ) → position_from (λ b. b == 0) i xs ≡ None → has_zero xs ≡ false
none_has i [] e = refl
none_has i (x ∷ xs) e = by_test (eqb x 0) e (none_has (i + 1) xs)
  where
    by_test : (t : Bool) → cond t (Some i) (position_from (λ b. b == 0) (i + 1) xs) ≡ None → (position_from (λ b. b == 0) (i + 1) xs ≡ None → has_zero xs ≡ false) → (t || has_zero xs) ≡ false
    by_test true e later = absurd cc
    by_test false e later = later e

pub position_none : (xs : List ℕ) → position (λ b. b == 0) xs ≡ None → has_zero xs ≡ false
position_none xs e = none_has 0 xs (sym (position_from-zero (λ b. b == 0) xs) ∙ e)

-- the first 0 stands at this place from one on
record FirstZero (from at : ℕ) (xs : List ℕ) : Type 0 where
  before : ℕ
  is : at ≡ from + before
  within : before < length xs
  none : has_zero (take before xs) ≡ false
  some : has_zero (take (suc before) xs) ≡ true

first_zero : (from at : ℕ) (xs : List ℕ) → position_from (λ b. b == 0) from xs ≡ Some at → FirstZero from at xs
first_zero from at [] e = absurd cc
first_zero from at (x ∷ xs) e = by_test (eqb x 0) refl e (first_zero (from + 1) at xs)
  where
    by_test : (t : Bool) → eqb x 0 ≡ t → cond t (Some from) (position_from (λ b. b == 0) (from + 1) xs) ≡ Some at → (position_from (λ b. b == 0) (from + 1) xs ≡ Some at → FirstZero (from + 1) at xs) → FirstZero from at (x ∷ xs)
    by_test true test e later =
        let here : from ≡ at = cc in
        record { before = 0; is = omega (arith, here); within = omega arith; none = refl; some = ap (λ (t : Bool). t || false) test }
    by_test false test e later =
        let l = later e in
        record {
          before = suc l.before;
          is = omega (arith, l.is);
          within = omega (arith, l.within);
          none = ap (λ (t : Bool). t || has_zero (take l.before xs)) test ∙ l.none;
          some = ap (λ (t : Bool). t || has_zero (take (suc l.before) xs)) test ∙ l.some;
        }

clean_front : (n : ℕ) (xs : List ℕ) → has_zero xs ≡ false → has_zero (take n xs) ≡ false
clean_front zero xs e = refl
clean_front (suc n) [] e = refl
clean_front (suc n) (x ∷ xs) e = (let c = either (eqb x 0) (has_zero xs) e in ap (λ (t : Bool). t || has_zero (take n xs)) c.0 ∙ clean_front n xs c.1)

-- ---- the first wrong octet

-- nothing wrong: no 0 in front, and a 0 last
right : (n : ℕ) (o : Option ℕ) (t : Bool) → given {B = Option ℕ} o (cond t None (Some n)) Some ≡ None → (o ≡ None) × (t ≡ true)
right n None true e = (refl, refl)
right n None false e = absurd cc
right n (Some i) t e = absurd cc

abbrev IsWrong : ℕ → ℕ → List ℕ → Type 0
IsWrong n i xs = (i ≤ n) × (i < length xs) × (has_zero (take i xs) ≡ false)

pub wrong_is : (n i : ℕ) (xs : List ℕ) → wrong_letter n (take (n + 1) xs) ≡ Some i → IsWrong n i xs
wrong_is n i xs e = by_position (position (λ b. b == 0) (take n ys)) (eqb (get_or ys n 0) 0) refl refl e
  where
    ys : List ℕ
    ys = take (n + 1) xs

    front : take n ys ≡ take n xs
    front = take-take n (n + 1) xs (omega arith)

    last : eqb (get_or ys n 0) 0 ≡ false → n < length xs
    last test = elim (cases_lt n (length xs)) [
      | inl lt ↦ lt
      | inr le ↦ absurd (let nul : get_or ys n 0 ≡ 0 = get_or-take (n + 1) xs n 0 (omega arith) ∙ get_or_past xs n 0 le in let no : true ≡ false = ap (λ (k : ℕ). eqb k 0) (sym nul) ∙ test in cc)
    ]

    by_position : (o : Option ℕ) (t : Bool) → position (λ b. b == 0) (take n ys) ≡ o → eqb (get_or ys n 0) 0 ≡ t → given o (cond t None (Some n)) Some ≡ Some i → IsWrong n i xs
    by_position None true p test e = absurd cc
    by_position None false p test e =
        let here : n ≡ i = cc in
        subst (λ (k : ℕ). IsWrong n k xs) here (omega arith, last test, ap has_zero (sym front) ∙ position_none (take n ys) p)
    by_position (Some j) t p test e =
        let here : j ≡ i = cc in
        let z = first_zero 0 j (take n xs) (ap (position_from (λ b. b == 0) 0) (sym front) ∙ sym (position_from-zero (λ b. b == 0) (take n ys)) ∙ p) in
        let is : z.before ≡ i = omega (arith, z.is, here) in
        let low : z.before ≤ n = omega (arith, z.within, length-take n xs) in
        subst (λ (k : ℕ). IsWrong n k xs) is (low, omega (arith, z.within, length-take n xs), ap has_zero (sym (take-take z.before n xs low)) ∙ z.none)

-- ---- octets without a 0

-- the octets that stand there, with another in place of each 0
abbrev pub without_zeros : ℕ → List ℕ → List ℕ
without_zeros zero xs = []
without_zeros (suc n) [] = 97 ∷ without_zeros n []
without_zeros (suc n) (x ∷ xs) = cond (eqb x 0) 97 x ∷ without_zeros n xs

pub so_many : (n : ℕ) (xs : List ℕ) → length (without_zeros n xs) ≡ n
so_many zero xs = refl
so_many (suc n) [] = ap suc (so_many n [])
so_many (suc n) (x ∷ xs) = ap suc (so_many n xs)

pub are_no_zeros : (n : ℕ) (xs : List ℕ) → has_zero (without_zeros n xs) ≡ false
are_no_zeros zero xs = refl
are_no_zeros (suc n) [] = are_no_zeros n []
are_no_zeros (suc n) (x ∷ xs) = by_test (eqb x 0) refl (are_no_zeros n xs)
  where
    by_test : (t : Bool) → eqb x 0 ≡ t → has_zero (without_zeros n xs) ≡ false → (eqb (cond t 97 x) 0 || has_zero (without_zeros n xs)) ≡ false
    by_test true test later = later
    by_test false test later = ap (λ (t : Bool). t || has_zero (without_zeros n xs)) test ∙ later

pub stay_octets : (n : ℕ) (xs : List ℕ) → AreOctets xs → are_bytes (without_zeros n xs) ≡ true
stay_octets zero xs o = refl
stay_octets (suc n) [] o = stay_octets n [] o
stay_octets (suc n) (x ∷ xs) o = by_test (eqb x 0) (stay_octets n xs (λ i. o (suc i)))
  where
    by_test : (t : Bool) → are_bytes (without_zeros n xs) ≡ true → (ltb (cond t 97 x) 256 && are_bytes (without_zeros n xs)) ≡ true
    by_test true later = later
    by_test false later = ap (λ (t : Bool). t && are_bytes (without_zeros n xs)) (lt-ltb x 256 (o 0)) ∙ later

pub same_before : (n i : ℕ) (xs more : List ℕ) → i ≤ n → i < length xs → has_zero (take i xs) ≡ false → take i (without_zeros n xs ++ more) ≡ take i xs
same_before n zero xs more le lt clean = refl
same_before zero (suc i) xs more le lt clean = absurd (omega (arith, le))
same_before (suc n) (suc i) [] more le lt clean = absurd (omega (arith, lt))
same_before (suc n) (suc i) (x ∷ xs) more le lt clean =
    let c = either (eqb x 0) (has_zero (take i xs)) clean in
    let later = same_before n i xs more (omega (arith, le)) (omega (arith, lt)) c.1 in
    ap (λ (t : Bool). cond t 97 x ∷ take i (without_zeros n xs ++ more)) c.0 ∙ ap (λ (l : List ℕ). x ∷ l) later

-- ---- the octets up to the first wrong one decide

pub still_wrong : (n i : ℕ) (xs ys : List ℕ) → wrong_letter n xs ≡ Some i → take (i + 1) ys ≡ take (i + 1) xs → wrong_letter n ys ≡ None → ⊥
still_wrong n i xs ys e same fine = by_position (position (λ b. b == 0) (take n xs)) (eqb (get_or xs n 0) 0) refl refl e
  where
    clean : has_zero (take n ys) ≡ false
    clean = position_none (take n ys) (right n (position (λ b. b == 0) (take n ys)) (eqb (get_or ys n 0) 0) fine).0

    by_position : (o : Option ℕ) (t : Bool) → position (λ b. b == 0) (take n xs) ≡ o → eqb (get_or xs n 0) 0 ≡ t → given o (cond t None (Some n)) Some ≡ Some i → ⊥
    by_position None true p test e = absurd cc
    by_position None false p test e =
        let here : n ≡ i = cc in
        let same' : take (n + 1) ys ≡ take (n + 1) xs = subst (λ (k : ℕ). take (k + 1) ys ≡ take (k + 1) xs) (sym here) same in
        let octet : get_or ys n 0 ≡ get_or xs n 0 = sym (get_or-take (n + 1) ys n 0 (omega arith)) ∙ ap (λ (l : List ℕ). get_or l n 0) same' ∙ get_or-take (n + 1) xs n 0 (omega arith) in
        let no : true ≡ false = sym (right n (position (λ b. b == 0) (take n ys)) (eqb (get_or ys n 0) 0) fine).1 ∙ ap (λ (k : ℕ). eqb k 0) octet ∙ test in
        cc
    by_position (Some j) t p test e =
        let here : j ≡ i = cc in
        let z = first_zero 0 j (take n xs) (sym (position_from-zero (λ b. b == 0) (take n xs)) ∙ p) in
        let m : suc z.before ≡ i + 1 = omega (arith, z.is, here) in
        let low : suc z.before ≤ n = omega (arith, z.within, length-take n xs) in
        let prefix : take (suc z.before) xs ≡ take (suc z.before) ys = sym (subst (λ (k : ℕ). take k ys ≡ take k xs) (sym m) same) in
        let zero_in : has_zero (take (suc z.before) ys) ≡ true = ap has_zero (sym prefix) ∙ ap has_zero (sym (take-take (suc z.before) n xs low)) ∙ z.some in
        let none_in : has_zero (take (suc z.before) ys) ≡ false = ap has_zero (sym (take-take (suc z.before) n ys low)) ∙ clean_front (suc z.before) (take n ys) clean in
        let no : true ≡ false = sym zero_in ∙ none_in in
        cc
