-- Bytes of a number that are written one by one: those that fill the word go in with the tail as one, and the others are the tail.
use Rattle.std.proofs.Common.{◌≡◌, ℕ, zero, suc, ◌+◌, ◌-◌, ◌*◌, ◌/◌, ◌%◌, ◌^◌, ◌<◌, ◌≤◌, List, [], ◌∷◌, ◌++◌, refl, sym, ap, ◌∙◌, arith, pow-add, eq-eqb, ne_eqb}
use Rattle.std.proofs.Math.Nat.{div-div-eq-div-mul, div-one, div-le_self, div-lt_iff_lt-mul, mul_comm, one-le-pow, pow-suc, suc-add, zero-add}
use Rattle.std.proofs.lemmas.Grind.{fold-append}
use Rattle.std.proofs.lemmas.Nat.Bits.{bit_at_or, same_from_bits}
use Rattle.std.specs.Hash.{le_bytes}
use Rattle.std.specs.Hash.DefaultHasher as sip
use Rattle.std.specs.Hash.DefaultHasher.{wrapping_add}
use Rattle.std.specs.Int.{byte_at, bytes_low_first}
use Rattle.std.specs.Int.Bits.{bit_or, or_shifted_r, or_zero_l, or_zero_r}
use Rattle.std.specs.Prelude.{fold}
use Rattle.table_hash.specs.declared.byte_hasher.ByteHasher.{ByteHasher}
use Rattle.table_hash.specs.Hashing.{plain, hashing, fed}

or_assoc : (a b c : ℕ) → bit_or (bit_or a b) c ≡ bit_or a (bit_or b c)
or_assoc a b c = same_from_bits _ _ (λ i.
    let left = bit_at_or (bit_or a b) c i in
    let right = bit_at_or a (bit_or b c) i in
    let first = bit_at_or a b i in
    let last = bit_at_or b c i in
    omega arith)

-- the lowest m bytes of y, the lowest first
abbrev bytes : ℕ → ℕ → List ℕ
bytes zero y = []
bytes (suc m) y = y % 256 ∷ bytes m (y / 256)

byte_is : (i x : ℕ) → byte_at i x ≡ x / 256 ^ i % 256
byte_is zero x = ap (λ y. y % 256) (sym (div-one x))
byte_is (suc i) x = refl

above : (i x : ℕ) → x / 256 ^ suc i ≡ x / 256 ^ i / 256
above i x = ap (λ p. x / p) (pow-suc 256 i) ∙ sym (div-div-eq-div-mul x (256 ^ i) 256)

bytes_are : (m i x : ℕ) → bytes_low_first i m x ≡ bytes m (x / 256 ^ i)
bytes_are zero i x = refl
bytes_are (suc m) i x = rw (byte_is i x, bytes_are m (suc i) x, above i x) refl

-- y, from the byte k of the word on
abbrev at : ℕ → ℕ → ℕ
at k y = (y * 2 ^ (8 * k)) % 2 ^ 64

meeting : (a b z n : ℕ) → a < 2 ^ n → b ≡ z * 2 ^ n → bit_or a b ≡ z * 2 ^ n + a
meeting a b z n p e = ap (bit_or a) e ∙ or_shifted_r z n a p

joined : (k y : ℕ) → k < 7 → bit_or (at k (y % 256)) (at (suc k) (y / 256)) ≡ at k y
joined zero y p = meeting (at 0 (y % 256)) (at 1 (y / 256)) (y / 256 % 2 ^ 56) 8 (omega arith) (omega arith) ∙ omega arith
joined (suc zero) y p = meeting (at 1 (y % 256)) (at 2 (y / 256)) (y / 256 % 2 ^ 48) 16 (omega arith) (omega arith) ∙ omega arith
joined (suc (suc zero)) y p = meeting (at 2 (y % 256)) (at 3 (y / 256)) (y / 256 % 2 ^ 40) 24 (omega arith) (omega arith) ∙ omega arith
joined (suc (suc (suc zero))) y p = meeting (at 3 (y % 256)) (at 4 (y / 256)) (y / 256 % 2 ^ 32) 32 (omega arith) (omega arith) ∙ omega arith
joined (suc (suc (suc (suc zero)))) y p = meeting (at 4 (y % 256)) (at 5 (y / 256)) (y / 256 % 2 ^ 24) 40 (omega arith) (omega arith) ∙ omega arith
joined (suc (suc (suc (suc (suc zero))))) y p = meeting (at 5 (y % 256)) (at 6 (y / 256)) (y / 256 % 2 ^ 16) 48 (omega arith) (omega arith) ∙ omega arith
joined (suc (suc (suc (suc (suc (suc zero)))))) y p = meeting (at 6 (y % 256)) (at 7 (y / 256)) (y / 256 % 2 ^ 8) 56 (omega arith) (omega arith) ∙ omega arith
joined (suc (suc (suc (suc (suc (suc (suc k))))))) y p = absurd (omega arith)

abbrev pub with_tail : ByteHasher → ℕ → ℕ → ByteHasher
with_tail s t n = record { v0 = s.v0; v1 = s.v1; v2 = s.v2; v3 = s.v3; tail = t; length = n }

-- the word w goes in
abbrev whole : ByteHasher → ℕ → ℕ → ByteHasher
whole s w n = with_tail (hashing (sip.write_word (plain s) w)) 0 n

inside : (k b : ℕ) (s : ByteHasher) → s.length % 8 ≡ k → k < 7 → fed s b ≡ with_tail s (bit_or s.tail (at k b)) (wrapping_add s.length 1)
unfolding sip.write_byte
inside k b s e p =
    let more : wrapping_add s.length 1 % 8 ≡ 0 → ⊥ = omega arith in
    rw (e, ne_eqb (wrapping_add s.length 1 % 8) 0 more)

last : (b : ℕ) (s : ByteHasher) → s.length % 8 ≡ 7 → fed s b ≡ whole s (bit_or s.tail (at 7 b)) (wrapping_add s.length 1)
unfolding sip.write_byte sip.write_word sip.round
last b s e =
    let full : wrapping_add s.length 1 % 8 ≡ 0 = omega arith in
    rw (e, eq-eqb (wrapping_add s.length 1 % 8) 0 full)

whole_alone : (s : ByteHasher) (t n : ℕ) (w v l m : ℕ) → w ≡ v → l ≡ m → whole (with_tail s t n) w l ≡ whole s v m
unfolding sip.write_word sip.round
whole_alone s t n w v l m e f = λ i. whole s (e i) (f i)

filling : (m k y : ℕ) (s : ByteHasher) → s.length % 8 ≡ k → k + m ≡ 7 → fold fed s (bytes (suc m) y) ≡ whole s (bit_or s.tail (at k y)) (wrapping_add s.length (suc m))
filling zero k y s e l =
    let seven : k ≡ 7 = omega arith in
    let same : at 7 (y % 256) ≡ at k y = rw seven (omega arith) in
    last (y % 256) s (e ∙ seven) ∙ ap (λ w. whole s (bit_or s.tail w) (wrapping_add s.length 1)) same
filling (suc m) k y s e l =
    let t = with_tail s (bit_or s.tail (at k (y % 256))) (wrapping_add s.length 1) in
    ap (λ x. fold fed x (bytes (suc m) (y / 256))) (inside k (y % 256) s e (omega arith))
    ∙ filling m (suc k) (y / 256) t (omega arith) (omega arith)
    ∙ whole_alone s t.tail t.length _ _ _ _ (or_assoc s.tail _ _ ∙ ap (bit_or s.tail) (joined k y (omega arith))) (omega arith)

waiting : (m k y : ℕ) (s : ByteHasher) → s.length % 8 ≡ k → k + m ≤ 7 → y < 256 ^ m → (m ≡ 0 → s.length < 2 ^ 64) → fold fed s (bytes m y) ≡ with_tail s (bit_or s.tail (at k y)) (wrapping_add s.length m)
waiting zero k y s e l small fits =
    let none : y ≡ 0 = omega arith in
    let empty : at k y ≡ 0 = rw none (omega arith) in
    let bits : s.tail ≡ bit_or s.tail (at k y) = sym (ap (bit_or s.tail) empty ∙ or_zero_r s.tail) in
    let within : s.length < 2 ^ 64 = fits refl in
    let count : s.length ≡ wrapping_add s.length 0 = omega arith in
    λ i. with_tail s (bits i) (count i)
waiting (suc m) k y s e l small fits =
    let t = with_tail s (bit_or s.tail (at k (y % 256))) (wrapping_add s.length 1) in
    let p = pow-suc 256 m in
    let bits = or_assoc s.tail (at k (y % 256)) (at (suc k) (y / 256)) ∙ ap (bit_or s.tail) (joined k y (omega arith)) in
    let count : wrapping_add t.length m ≡ wrapping_add s.length (suc m) = omega arith in
    ap (λ x. fold fed x (bytes m (y / 256))) (inside k (y % 256) s e (omega arith))
    ∙ waiting m (suc k) (y / 256) t (omega arith) (omega arith) (omega arith) (λ e. omega arith)
    ∙ (λ i. with_tail s (bits i) (count i))

parted : (a b y : ℕ) → bytes (a + b) y ≡ bytes a y ++ bytes b (y / 256 ^ a)
parted zero b y = rw (div-one y, zero-add b) refl
parted (suc a) b y =
    let rest : y / 256 ^ suc a ≡ y / 256 / 256 ^ a = ap (λ p. y / p) (pow-suc 256 a ∙ mul_comm (256 ^ a) 256) ∙ sym (div-div-eq-div-mul y 256 (256 ^ a)) in
    rw (suc-add a b, rest, parted a b (y / 256)) refl

powers : (m : ℕ) → 2 ^ (8 * m) ≡ 256 ^ m
powers zero = refl
powers (suc m) =
    let more : 8 * suc m ≡ 8 * m + 8 = omega arith in
    ap (λ n. 2 ^ n) more ∙ pow-add 2 (8 * m) 8 ∙ ap (λ p. p * 256) (powers m) ∙ sym (pow-suc 256 m)

-- the word that the tail and x make goes in
abbrev pub crossed : ByteHasher → ℕ → ByteHasher
crossed s x = hashing (sip.write_word (plain s) (bit_or s.tail (at (s.length % 8) x)))

-- A number of n bytes, of which m + 1 fill the word and r are left.
module _ (n m r k x : ℕ) (s : ByteHasher) (place : s.length % 8 ≡ k) (fill : k + m ≡ 7) (count : n ≡ suc m + r) (few : r ≤ 7) (fits : x < 256 ^ n) (short : x < 2 ^ 64) where
  crossing : with_tail (hashing (sip.write_word (plain s) (bit_or s.tail (at k x)))) (x / 256 ^ suc m) (wrapping_add s.length n) ≡ fold fed s (le_bytes n x)
  unfolding le_bytes
  crossing =
      let t = whole s (bit_or s.tail (at k x)) (wrapping_add s.length (suc m)) in
      let y = x / 256 ^ suc m in
      let all : 256 ^ n ≡ 256 ^ suc m * 256 ^ r = ap (λ b. 256 ^ b) count ∙ pow-add 256 (suc m) r in
      let positive : 0 < 256 ^ suc m = omega (arith, one-le-pow (suc m) 256) in
      let below : x < 256 ^ r * 256 ^ suc m = omega (arith, mul_comm (256 ^ suc m) (256 ^ r)) in
      let small : y < 256 ^ r = (div-lt_iff_lt-mul {k = 256 ^ suc m} {x = x} {y = 256 ^ r} positive).1 below in
      let tail : y ≡ bit_or 0 (at 0 y) = sym (or_zero_l _ ∙ omega (arith, div-le_self x (256 ^ suc m))) in
      let last : wrapping_add s.length n ≡ wrapping_add t.length r = omega arith in
      (λ i. with_tail t (tail i) (last i))
      ∙ sym (waiting r 0 y t (omega arith) (omega arith) small (λ e. omega arith))
      ∙ ap (λ z. fold fed z (bytes r y)) (sym (filling m k x s place fill))
      ∙ sym (fold-append fed s (bytes (suc m) x) (bytes r y))
      ∙ ap (fold fed s) (sym (parted (suc m) r x) ∙ ap (λ b. bytes b x) (sym count) ∙ sym (ap (bytes n) (div-one x)) ∙ sym (bytes_are n 0 x))

module _ (s : ByteHasher) (x : ℕ) where
  pub eight : x < 2 ^ 64 → with_tail (crossed s x) (x / 256 / 2 ^ (56 - 8 * (s.length % 8))) (wrapping_add s.length 8) ≡ fold fed s (le_bytes 8 x)
  eight fits =
      let k = s.length % 8 in
      let m = 7 - k in
      let places : 56 - 8 * k ≡ 8 * m = omega arith in
      let left : x / 256 / 2 ^ (56 - 8 * k) ≡ x / 256 ^ suc m =
      ap (λ n. x / 256 / 2 ^ n) places ∙ ap (λ p. x / 256 / p) (powers m) ∙ div-div-eq-div-mul x 256 (256 ^ m) ∙ ap (λ p. x / p) (mul_comm 256 (256 ^ m) ∙ sym (pow-suc 256 m)) in
      ap (λ t. with_tail (crossed s x) t (wrapping_add s.length 8)) left ∙ crossing 8 m k k x s refl (omega arith) (omega arith) (omega arith) fits (omega arith)

  pub four_within : x < 2 ^ 32 → s.length % 8 < 4 → with_tail s (bit_or s.tail (at (s.length % 8) x)) (wrapping_add s.length 4) ≡ fold fed s (le_bytes 4 x)
  unfolding le_bytes
  four_within fits room = sym (waiting 4 (s.length % 8) x s refl (omega arith) fits (λ e. absurd (omega arith))) ∙ ap (fold fed s) (sym (ap (bytes 4) (div-one x)) ∙ sym (bytes_are 4 0 x))

  pub four_across : x < 2 ^ 32 → 4 ≤ s.length % 8 → with_tail (crossed s x) (x / 2 ^ (64 - 8 * (s.length % 8))) (wrapping_add s.length 4) ≡ fold fed s (le_bytes 4 x)
  four_across fits over =
      let k = s.length % 8 in
      let m = 7 - k in
      let places : 64 - 8 * k ≡ 8 * suc m = omega arith in
      let left : x / 2 ^ (64 - 8 * k) ≡ x / 256 ^ suc m = ap (λ n. x / 2 ^ n) places ∙ ap (λ p. x / p) (powers (suc m)) in
      ap (λ t. with_tail (crossed s x) t (wrapping_add s.length 4)) left ∙ crossing 4 m (k - 4) k x s refl (omega arith) (omega arith) (omega arith) fits (omega arith)
