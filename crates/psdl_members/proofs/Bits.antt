-- Bits of masks.
use Rattle.std.proofs.Common.{◌≡◌, ◌∙◌, ℕ, zero, suc, ◌+◌, ◌-◌, ◌*◌, ◌%◌, ◌^◌, ◌<◌, ◌≤◌, List, [], ◌∷◌, ◌++◌, Bool, true, false, not, ◌==◌, ◌||◌, ◌&&◌, get_or, length, map, max, min, refl, sym, ap, arith, ⊎_elim, w64}
use Rattle.std.specs.Int.{bit_at, bit_not, trailing_zeros}
use Rattle.std.specs.Int.RustNames.{bit_and, bit_or}
use Rattle.std.specs.List.{list_any}
use Rattle.std.proofs.Math.ListN.{replicate}
use Rattle.std.proofs.lemmas.Bool.{cases_Bool, cases_eq, cases_order, eq-eqb, ne_eqb, eqb-true, eqb-false}
use Rattle.std.proofs.lemmas.List.{get_or_past, get_or_append_left, get_or_push, length_push, length-map, map_push}
use Rattle.std.proofs.lemmas.Nat.Bits.{bit_at-zero, bit_at-lt, bit_at_and, bit_at_or, bit_at_not, bit_at_set_same, bit_at_set_other, bit_at-trailing_zeros}
use Rattle.std.proofs.lemmas.Nat.{and_le_l}
use Rattle.psdl_members.specs.declared.entry.Entry.{Entry}
use Rattle.psdl_members.specs.inner.Bits.{has_bit, answer_at, AreBits}

pub no_bit : (k : ℕ) → has_bit 0 k ≡ false
unfolding has_bit
no_bit k = ap (λ (b : ℕ). b == 1) (bit_at-zero k)

either : (a b : ℕ) → a < 2 → b < 2 → (max a b == 1) ≡ ((a == 1) || (b == 1))
either zero zero a b = refl
either zero (suc zero) a b = refl
either (suc zero) zero a b = refl
either (suc zero) (suc zero) a b = refl
either (suc (suc x)) y a b = absurd (omega (arith, a))
either zero (suc (suc y)) a b = absurd (omega (arith, b))
either (suc zero) (suc (suc y)) a b = absurd (omega (arith, b))

both : (a b : ℕ) → a < 2 → b < 2 → (min a b == 1) ≡ ((a == 1) && (b == 1))
both zero zero a b = refl
both zero (suc zero) a b = refl
both (suc zero) zero a b = refl
both (suc zero) (suc zero) a b = refl
both (suc (suc x)) y a b = absurd (omega (arith, a))
both zero (suc (suc y)) a b = absurd (omega (arith, b))
both (suc zero) (suc (suc y)) a b = absurd (omega (arith, b))

turned : (a : ℕ) → a < 2 → (1 - a == 1) ≡ not (a == 1)
turned zero a = refl
turned (suc zero) a = refl
turned (suc (suc x)) a = absurd (omega (arith, a))

pub or_bit : (a b k : ℕ) → has_bit (bit_or a b) k ≡ (has_bit a k || has_bit b k)
unfolding has_bit
or_bit a b k = ap (λ (n : ℕ). n == 1) (bit_at_or a b k) ∙ either (bit_at a k) (bit_at b k) (bit_at-lt a k) (bit_at-lt b k)

pub and_bit : (a b k : ℕ) → has_bit (bit_and a b) k ≡ (has_bit a k && has_bit b k)
unfolding has_bit
and_bit a b k = ap (λ (n : ℕ). n == 1) (bit_at_and a b k) ∙ both (bit_at a k) (bit_at b k) (bit_at-lt a k) (bit_at-lt b k)

pub not_bit : (a k : ℕ) → a < 2 ^ 64 → k < 64 → has_bit (bit_not w64 a) k ≡ not (has_bit a k)
unfolding has_bit
not_bit a k long low = ap (λ (n : ℕ). n == 1) (bit_at_not w64 a k long low) ∙ turned (bit_at a k) (bit_at-lt a k)

or_true : (b : Bool) → (b || true) ≡ true
or_true true = refl
or_true false = refl

or_false : (b : Bool) → (b || false) ≡ b
or_false true = refl
or_false false = refl

-- one bit more
pub put_bit : (mask bit k : ℕ) → bit < 64 → k < 64 → has_bit (bit_or mask (1 * 2 ^ bit % 2 ^ 64)) k ≡ (has_bit mask k || k == bit)
unfolding has_bit
put_bit mask bit k low lt =
    ⊎_elim
    (λ same.
    ap (λ (j : ℕ). bit_at (bit_or mask (1 * 2 ^ bit % 2 ^ 64)) j == 1) same
    ∙ ap (λ (n : ℕ). n == 1) (bit_at_set_same w64 mask bit low)
    ∙ sym (ap (λ (b : Bool). (bit_at mask k == 1) || b) (eq-eqb k bit same) ∙ or_true (bit_at mask k == 1)))
    (λ differ. ap (λ (n : ℕ). n == 1) (bit_at_set_other w64 mask bit low k differ) ∙ sym (ap (λ (b : Bool). (bit_at mask k == 1) || b) (ne_eqb k bit differ) ∙ or_false (bit_at mask k == 1)))
    (cases_eq k bit)

-- ---- answers

-- one by one
pub answers_with : (op : Bool → Bool → Bool) → op false false ≡ false → (es : List Entry) (f g : Entry → Bool) (k : ℕ) → op (answer_at es f k) (answer_at es g k) ≡ answer_at es (λ e. op (f e) (g e)) k
answers_with op none [] f g k = none
answers_with op none (e ∷ es) f g zero = refl
answers_with op none (e ∷ es) f g (suc k) = answers_with op none es f g k

answers_alike : (es : List Entry) (f g : Entry → Bool) → ((e : Entry) → f e ≡ g e) → (k : ℕ) → answer_at es f k ≡ answer_at es g k
answers_alike [] f g h k = refl
answers_alike (e ∷ es) f g h zero = h e
answers_alike (e ∷ es) f g h (suc k) = answers_alike es f g h k

no_answer : (es : List Entry) (k : ℕ) → answer_at es (λ _. false) k ≡ false
no_answer [] k = refl
no_answer (e ∷ es) zero = refl
no_answer (e ∷ es) (suc k) = no_answer es k

pub bits_none : (es : List Entry) → AreBits 0 es (λ _. false)
bits_none es k low = no_bit k ∙ sym (no_answer es k)

pub bits_alike : (mask : ℕ) (es : List Entry) (f g : Entry → Bool) → ((e : Entry) → f e ≡ g e) → AreBits mask es f → AreBits mask es g
bits_alike mask es f g h are k low = are k low ∙ answers_alike es f g h k

pub bits_or : (a b : ℕ) (es : List Entry) (f g : Entry → Bool) → AreBits a es f → AreBits b es g → AreBits (bit_or a b) es (λ e. f e || g e)
bits_or a b es f g here there k low =
    or_bit a b k ∙ ap (λ (v : Bool). v || has_bit b k) (here k low) ∙ ap (λ (v : Bool). answer_at es f k || v) (there k low) ∙ answers_with (λ v w. v || w) refl es f g k

pub bits_and : (a b : ℕ) (es : List Entry) (f g : Entry → Bool) → AreBits a es f → AreBits b es g → AreBits (bit_and a b) es (λ e. f e && g e)
bits_and a b es f g here there k low =
    and_bit a b k ∙ ap (λ (v : Bool). v && has_bit b k) (here k low) ∙ ap (λ (v : Bool). answer_at es f k && v) (there k low) ∙ answers_with (λ v w. v && w) refl es f g k

pub bits_and_not : (a b : ℕ) (es : List Entry) (f g : Entry → Bool) → b < 2 ^ 64 → AreBits a es f → AreBits b es g → AreBits (bit_and a (bit_not w64 b)) es (λ e. f e && not (g e))
bits_and_not a b es f g long here there k low =
    and_bit a (bit_not w64 b) k
    ∙ ap (λ (v : Bool). v && has_bit (bit_not w64 b) k) (here k low)
    ∙ ap (λ (v : Bool). answer_at es f k && v) (not_bit b k long low ∙ ap (λ (v : Bool). not v) (there k low))
    ∙ answers_with (λ v w. v && not w) refl es f g k

-- ---- one entry more

and_true : (b : Bool) → (b && true) ≡ b
and_true true = refl
and_true false = refl

or_never : (a b : Bool) → (a || (b && false)) ≡ a
or_never true b = refl
or_never false true = refl
or_never false false = refl

answers_put : (es : List Entry) (e : Entry) (f : Entry → Bool) (k : ℕ) → answer_at (es ++ e ∷ []) f k ≡ (answer_at es f k || (f e && k == length es))
answers_put es e f k =
    let long : length (map f es) ≡ length es = length-map es f in
    ap (λ (l : List Bool). get_or l k false) (map_push f es e)
    ∙ ⊎_elim
    (λ same.
    get_or_push (map f es) (f e) false k (long ∙ sym same)
    ∙ sym (ap (λ (b : Bool). b || (f e && k == length es)) (get_or_past (map f es) k false (omega (arith, long, same))) ∙ ap (λ (b : Bool). f e && b) (eq-eqb k (length es) same) ∙ and_true (f e)))
    (λ apart.
    ⊎_elim
    (λ lt.
    get_or_append_left (map f es) (f e ∷ []) false k (omega (arith, long, lt))
    ∙ sym (ap (λ (b : Bool). answer_at es f k || (f e && b)) (ne_eqb k (length es) (λ same. absurd (omega (arith, lt, same)))) ∙ or_never (answer_at es f k) (f e)))
    (λ gt.
    get_or_past (map f es ++ f e ∷ []) k false (omega (arith, length_push (map f es) (f e), long, gt))
    ∙ sym
    (ap (λ (b : Bool). answer_at es f k || (f e && b)) (ne_eqb k (length es) (λ same. absurd (omega (arith, gt, same))))
    ∙ or_never (answer_at es f k) (f e)
    ∙ get_or_past (map f es) k false (omega (arith, long, gt))))
    apart)
    (cases_order k (length es))

-- what has a bit set for it passes the test
pub bits_put : (old new bit : ℕ) (es : List Entry) (e : Entry) (f : Entry → Bool) → length es ≡ bit → AreBits old es f → ((k : ℕ) → k < 64 → has_bit new k ≡ (has_bit old k || (f e && k == bit))) → AreBits new (es ++ e ∷ []) f
bits_put old new bit es e f long are put k low =
    put k low
    ∙ ap (λ (v : Bool). v || (f e && k == bit)) (are k low)
    ∙ ap (λ (n : ℕ). answer_at es f k || (f e && k == n)) (sym long)
    ∙ sym (answers_put es e f k)

pub replicated : {A : Type 0} (count n : ℕ) (x : A) → get_or (replicate count x) n x ≡ x
replicated zero n x = refl
replicated (suc count) zero x = refl
replicated (suc count) (suc n) x = replicated count n x

-- no entry, no bit
pub bits_cleared : (count n : ℕ) (f : Entry → Bool) → AreBits (get_or (replicate count 0) n 0) [] f
bits_cleared count n f k low =
    let none : ℕ = 0 in
    ap (λ (m : ℕ). has_bit m k) (replicated count n none) ∙ no_bit k

-- ---- a mask that is not 0

any_by : (es : List Entry) (f : Entry → Bool) (k : ℕ) → answer_at es f k ≡ true → list_any f es ≡ true
any_by [] f k h = absurd (cc)
any_by (e ∷ es) f zero h = ap (λ (b : Bool). b || list_any f es) h
any_by (e ∷ es) f (suc k) h = ap (λ (b : Bool). f e || b) (any_by es f k h) ∙ or_true (f e)

none_by : (es : List Entry) (f : Entry → Bool) → ((k : ℕ) → k < length es → answer_at es f k ≡ false) → list_any f es ≡ false
none_by [] f h = refl
none_by (e ∷ es) f h = ap (λ (b : Bool). b || list_any f es) (h 0 (omega arith)) ∙ none_by es f (λ k lt. h (suc k) (omega (arith, lt)))

set_there : (mask k : ℕ) → bit_at mask k ≡ 1 → has_bit mask k ≡ true
unfolding has_bit
set_there mask k one = ap (λ (n : ℕ). n == 1) one

pub bits_found : (mask : ℕ) (es : List Entry) (f : Entry → Bool) → mask < 2 ^ 64 → length es ≤ 64 → AreBits mask es f → not (mask == 0) ≡ list_any f es
bits_found mask es f long few are =
    ⊎_elim
    (λ t.
    let is : mask ≡ 0 = eqb-true mask 0 t in
    ap (λ (b : Bool). not b) t ∙ sym (none_by es f (λ k lt. sym (are k (omega (arith, lt, few))) ∙ ap (λ (m : ℕ). has_bit m k) is ∙ no_bit k)))
    (λ u. ap (λ (b : Bool). not b) u ∙ sym (some_bit (eqb-false mask 0 u)))
    (cases_Bool (mask == 0))
  where
    some_bit : (mask ≡ 0 → ⊥) → list_any f es ≡ true
    some_bit differ =
        let place = bit_at-trailing_zeros w64 mask (omega (arith, differ)) long in
        let k : ℕ = trailing_zeros w64 mask in
        any_by es f k (sym (are k place.0) ∙ set_there mask k place.1)

-- a part of a mask is no larger
pub and_low : (a b : ℕ) → a < 2 ^ 64 → bit_and a b < 2 ^ 64
and_low a b long = omega (arith, long, and_le_l a b)
