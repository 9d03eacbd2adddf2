-- Places that are marked in a word, and the blocks of an extent where one of them changes.
use Rattle.std.proofs.Common.{ℕ, ◌≡◌, ◌<◌, ◌≤◌, ◌+◌, ◌-◌, ◌*◌, ◌^◌, ◌==◌, ◌/◌, ◌%◌, List, [], ◌∷◌, slice_get, Option, Some, None, Bool, true, false, cond, refl, sym, ap, subst, ◌∙◌, arith, zero, suc, inl, inr, w64, eq-eqb}
use Rattle.std.specs.Prelude.{◌||◌}
use Rattle.std.specs.Int.{bit_at, bit_not, trailing_zeros}
use Rattle.std.specs.Int.RustNames.{bit_and, bit_or}
use Rattle.std.specs.Option.{unwrap_or, option_map}
use Rattle.std.specs.Ordering.{nat_cmp}
use Rattle.std.specs.Map.{lookup, keys_of}
use Rattle.std.specs.BTreeMap.{is_at}
use Rattle.std.specs.Cmp.{unsigned_ties}
use Rattle.std.proofs.lemmas.Bool.{lt-ltb, ltb-true}
use Rattle.std.proofs.lemmas.Nat.{shr-shr, shr_le}
use Rattle.std.proofs.lemmas.Nat.Bits.{shr_and_one, bit_at-zero, bit_at_above, bit_at_set_same, bit_at_set_other, bit_at_clear_same, bit_at_clear_other, bit_at-trailing_zeros}
use Rattle.storage_home.specs.declared.extents.Block.{Block}
use Rattle.storage_home.specs.Cells.{has_bit}
use Rattle.storage_home.specs.Blocks.{TurnsBit, IsLeastBit, IsLeastIn, is_number, Blocks, block_at, holds_in, enters_in}
use Rattle.storage_home.specs.Extents.{TurnsHeld, KeepsHeld, TurnsEntered, KeepsEntered}
use Rattle.pss_catalog.proofs.Forest.{Compared, compared}
use Rattle.storage_home.proofs.Places.{by_test, same_number}
use Rattle.storage_home.proofs.Bits.{bit_is}
use Rattle.storage_home.proofs.Chunks.{one_place, far_apart}

-- ---- a word

pub bit_by : (place bits : ℕ) → has_bit place bits ≡ (bit_at bits place == 1)
bit_by place bits = sym (bit_is place bits) ∙ ap (λ n. n == 1) (shr_and_one bits place)

pub no_bit : (place : ℕ) → has_bit place 0 ≡ false
no_bit place = bit_by place 0 ∙ ap (λ n. n == 1) (bit_at-zero place)

other_number : (s q : ℕ) → (s == q) ≡ false → q ≡ s → ⊥
other_number s q e same = let never = sym (eq-eqb s q (sym same)) ∙ e in cc

module _ (bits place : ℕ) (low : place < 64) where
  pub bit_set : TurnsBit bits (bit_or bits (1 * 2 ^ place % 2 ^ 64)) place true
  bit_set q within =
      bit_by q _
      ∙ by_test (λ b. (place == q) ≡ b → (bit_at (bit_or bits (1 * 2 ^ place % 2 ^ 64)) q == 1) ≡ cond b true (has_bit q bits)) (place == q)
      (λ _ same. ap (λ (k : ℕ). bit_at (bit_or bits (1 * 2 ^ place % 2 ^ 64)) k == 1) (sym (same_number place q same)) ∙ ap (λ n. n == 1) (bit_at_set_same w64 bits place low))
      (λ _ apart. ap (λ n. n == 1) (bit_at_set_other w64 bits place low q (other_number place q apart)) ∙ sym (bit_by q bits))
      refl

  pub bit_cleared : TurnsBit bits (bit_and bits (bit_not w64 (1 * 2 ^ place % 2 ^ 64))) place false
  bit_cleared q within =
      bit_by q _
      ∙ by_test (λ b. (place == q) ≡ b → (bit_at (bit_and bits (bit_not w64 (1 * 2 ^ place % 2 ^ 64))) q == 1) ≡ cond b false (has_bit q bits)) (place == q)
      (λ _ same. ap (λ (k : ℕ). bit_at (bit_and bits (bit_not w64 (1 * 2 ^ place % 2 ^ 64))) k == 1) (sym (same_number place q same)) ∙ ap (λ n. n == 1) (bit_at_clear_same w64 bits place low))
      (λ _ apart. ap (λ n. n == 1) (bit_at_clear_other w64 bits place low q within (other_number place q apart)) ∙ sym (bit_by q bits))
      refl

-- the places from one on, at the start of a word
shifted : (bits from q : ℕ) → from ≤ q → bit_at bits q ≡ bit_at (bits / 2 ^ from) (q - from)
shifted bits from q le = let whole : q ≡ from + (q - from) = omega (arith, le) in ap (bit_at bits) whole ∙ ap (λ n. n % 2) (sym (shr-shr bits from (q - from)))

pub none_from : (bits from : ℕ) → bits / 2 ^ from ≡ 0 → IsLeastBit bits from None
none_from bits from none q le within = bit_by q bits ∙ ap (λ n. n == 1) (shifted bits from q le ∙ ap (λ n. bit_at n (q - from)) none ∙ bit_at-zero (q - from))

-- what is marked is in the word
in_word : (bits p : ℕ) → bits < 2 ^ 64 → bit_at bits p ≡ 1 → p < 64
in_word bits p word marked = by (compared p 64)
  where
    by : Compared p 64 → p < 64
    by (inl less) = less
    by (inr (inl is)) = let none = bit_at_above bits 64 p word (omega (arith, is)) in absurd (omega (arith, none, marked))
    by (inr (inr more)) = let none = bit_at_above bits 64 p word (omega (arith, more)) in absurd (omega (arith, none, marked))

positive : (n : ℕ) → (n ≡ 0 → ⊥) → 0 < n
positive zero some = absurd (some refl)
positive (suc n) some = omega arith

module _ (bits from : ℕ) (word : bits < 2 ^ 64) (some : bits / 2 ^ from ≡ 0 → ⊥) where
  lowest : (trailing_zeros w64 (bits / 2 ^ from) < 64) × (bit_at (bits / 2 ^ from) (trailing_zeros w64 (bits / 2 ^ from)) ≡ 1) × ((i : ℕ) → i < trailing_zeros w64 (bits / 2 ^ from) → bit_at (bits / 2 ^ from) i ≡ 0)
  lowest = let less = shr_le bits from in bit_at-trailing_zeros w64 (bits / 2 ^ from) (positive (bits / 2 ^ from) some) (omega (arith, less, word))

  pub least_bit : (p : ℕ) → p ≡ from + trailing_zeros w64 (bits / 2 ^ from) → IsLeastBit bits from (Some p)
  least_bit p is =
      let back : p - from ≡ trailing_zeros w64 (bits / 2 ^ from) = omega (arith, is) in
      let le : from ≤ p = omega (arith, is) in
      let marked : bit_at bits p ≡ 1 = shifted bits from p le ∙ ap (bit_at (bits / 2 ^ from)) back ∙ lowest.1 in (
        le,
        in_word bits p word marked,
        bit_by p bits ∙ ap (λ n. n == 1) marked,
        λ q low less. bit_by q bits ∙ ap (λ n. n == 1) (shifted bits from q low ∙ lowest.2 (q - from) (omega (arith, is, low, less))),
      )

-- ---- a block

pub is_numbered : (s : ℕ) → s < 2 ^ 64 → is_number (s / 64) ≡ true
unfolding is_number
is_numbered s fits = lt-ltb (s / 64) 288230376151711744 (omega (arith, fits))

pub beyond_last : (n : ℕ) → 288230376151711743 < n → is_number n ≡ true → ⊥
unfolding is_number
beyond_last n over numbered = let within = ltb-true n 288230376151711744 numbered in omega (arith, over, within)

up_to_last : (n : ℕ) → n ≤ 288230376151711743 → is_number n ≡ true
unfolding is_number
up_to_last n within = lt-ltb n 288230376151711744 (omega (arith, within))

pub least_serial : (n p from : ℕ) (b : Block) → n ≤ 288230376151711743 → IsLeastBit b.held from (Some p) → IsLeastIn n b from (Some (n * 64 + p))
least_serial n p from b within least =
    let low : p < 64 = least.1 in
    let at : (n * 64 + p) / 64 ≡ n = omega (arith, low) in
    let is : (n * 64 + p) % 64 ≡ p = omega (arith, low) in
    (up_to_last n within, at, subst (λ (q : ℕ). IsLeastBit b.held from (Some q)) (sym is) least)

pub block_turned :
    (old new : Blocks) (n : ℕ) (w : Option Block) → is_number n ≡ true
    → ((q : ℕ) → lookup (is_at (nat_cmp q)) new ≡ cond (is_at (nat_cmp n) q) w (lookup (is_at (nat_cmp q)) old)) → (q : ℕ) → block_at q new ≡ cond (n == q) w (block_at q old)
block_turned old new n w numbered updates q =
    by_test (λ b. is_number q ≡ b → cond b (lookup (is_at (nat_cmp q)) new) None ≡ cond (n == q) w (cond b (lookup (is_at (nat_cmp q)) old) None)) (is_number q)
    (λ _ _. updates q ∙ ap (λ b. cond b w (lookup (is_at (nat_cmp q)) old)) (sym (unsigned_ties n q)))
    (λ _ none. by_test (λ b. (n == q) ≡ b → None ≡ cond b w None) (n == q) (λ _ same. (let clash = sym numbered ∙ ap is_number (same_number n q same) ∙ none in cc)) (λ _ _. refl) refl)
    refl

module _ (part : Option Block → ℕ → Bool) (old new : Blocks) (s : ℕ) (w : Option Block) (turns : (n : ℕ) → block_at n new ≡ cond (s / 64 == n) w (block_at n old)) where
  part_put :
      (a : Bool) → ((p : ℕ) → p < 64 → part w p ≡ cond (s % 64 == p) a (part (block_at (s / 64) old) p)) → (q : ℕ)
      → part (block_at (q / 64) new) (q % 64) ≡ cond (s == q) a (part (block_at (q / 64) old) (q % 64))
  part_put a parts q =
      ap (λ o. part o (q % 64)) (turns (q / 64))
      ∙ by_test (λ b. (s / 64 == q / 64) ≡ b → part (cond b w (block_at (q / 64) old)) (q % 64) ≡ cond (s == q) a (part (block_at (q / 64) old) (q % 64))) (s / 64 == q / 64)
      (λ _ same.
      let near = same_number (s / 64) (q / 64) same in
      parts (q % 64) (omega arith) ∙ ap (λ b. cond b a (part (block_at (s / 64) old) (q % 64))) (one_place s q near) ∙ ap (λ (n : ℕ). cond (s == q) a (part (block_at n old) (q % 64))) near)
      (λ _ far. ap (λ b. cond b a (part (block_at (q / 64) old) (q % 64))) (sym (far_apart s q far)))
      refl

  part_stays : ((p : ℕ) → part w p ≡ part (block_at (s / 64) old) p) → (q : ℕ) → part (block_at (q / 64) new) (q % 64) ≡ part (block_at (q / 64) old) (q % 64)
  part_stays parts q =
      ap (λ o. part o (q % 64)) (turns (q / 64))
      ∙ by_test (λ b. (s / 64 == q / 64) ≡ b → part (cond b w (block_at (q / 64) old)) (q % 64) ≡ part (block_at (q / 64) old) (q % 64)) (s / 64 == q / 64)
      (λ _ same. parts (q % 64) ∙ ap (λ (n : ℕ). part (block_at n old) (q % 64)) (same_number (s / 64) (q / 64) same))
      (λ _ _. refl)
      refl

joined : (t e h x y : Bool) → (cond t e x || cond t h y) ≡ cond t (e || h) (x || y)
joined true e h x y = refl
joined false e h x y = refl

joined_first : (t x y : Bool) → (cond t true x || y) ≡ cond t true (x || y)
joined_first true x y = refl
joined_first false x y = refl

pub found_is : (es : Blocks) (s : ℕ) → s < 2 ^ 64 → (o : Option Block) → o ≡ lookup (is_at (nat_cmp (s / 64))) es → o ≡ block_at (s / 64) es
found_is es s fits o is = is ∙ ap (λ b. cond b (lookup (is_at (nat_cmp (s / 64))) es) None) (sym (is_numbered s fits))

module _ (old new : Blocks) (s : ℕ) (fits : s < 2 ^ 64) where
  -- a block that is there
  module _
      (was after : Block) (is : Some was ≡ lookup (is_at (nat_cmp (s / 64))) old)
      (updates : (q : ℕ) → lookup (is_at (nat_cmp q)) new ≡ cond (is_at (nat_cmp (s / 64)) q) (Some after) (lookup (is_at (nat_cmp q)) old)) where
    turns : (n : ℕ) → block_at n new ≡ cond (s / 64 == n) (Some after) (block_at n old)
    turns = block_turned old new (s / 64) (Some after) (is_numbered s fits) updates

    pub held_turned : (h : Bool) → TurnsBit was.held after.held (s % 64) h → TurnsHeld old new s h
    held_turned h marks = part_put holds_in old new s (Some after) turns h (λ p low. marks p low ∙ ap (λ o. cond (s % 64 == p) h (holds_in o p)) (found_is old s fits (Some was) is))

    pub held_same : after.held ≡ was.held → KeepsHeld old new
    held_same same = part_stays holds_in old new s (Some after) turns (λ p. ap (has_bit p) same ∙ ap (λ o. holds_in o p) (found_is old s fits (Some was) is))

    entered_by : (a : Bool) → ((p : ℕ) → p < 64 → (has_bit p after.entered || has_bit p after.held) ≡ cond (s % 64 == p) a (has_bit p was.entered || has_bit p was.held)) → TurnsEntered old new s a
    entered_by a marks = part_put enters_in old new s (Some after) turns a (λ p low. marks p low ∙ ap (λ o. cond (s % 64 == p) a (enters_in o p)) (found_is old s fits (Some was) is))

    pub entered_turned : (e h : Bool) → TurnsBit was.entered after.entered (s % 64) e → TurnsBit was.held after.held (s % 64) h → TurnsEntered old new s (e || h)
    entered_turned e h enters holds = entered_by (e || h) (λ p low. (λ i. enters p low i || holds p low i) ∙ joined (s % 64 == p) e h (has_bit p was.entered) (has_bit p was.held))

    pub entered_too : after.held ≡ was.held → TurnsBit was.entered after.entered (s % 64) true → TurnsEntered old new s true
    entered_too same enters = entered_by true (λ p low. (λ i. enters p low i || has_bit p (same i)) ∙ joined_first (s % 64 == p) (has_bit p was.entered) (has_bit p was.held))

  -- a block that is new
  module _
      (none : block_at (s / 64) old ≡ None) (after : Block) (empty : after.held ≡ 0) (enters : TurnsBit 0 after.entered (s % 64) true)
      (updates : (q : ℕ) → lookup (is_at (nat_cmp q)) new ≡ cond (is_at (nat_cmp (s / 64)) q) (Some after) (lookup (is_at (nat_cmp q)) old)) where
    begun : (n : ℕ) → block_at n new ≡ cond (s / 64 == n) (Some after) (block_at n old)
    begun = block_turned old new (s / 64) (Some after) (is_numbered s fits) updates

    pub held_begun : KeepsHeld old new
    held_begun = part_stays holds_in old new s (Some after) begun (λ p. ap (has_bit p) empty ∙ no_bit p ∙ ap (λ o. holds_in o p) (sym none))

    pub entered_begun : TurnsEntered old new s true
    entered_begun =
        part_put enters_in old new s (Some after) begun true
        (λ p low. (λ i. enters p low i || has_bit p (empty i)) ∙ joined_first (s % 64 == p) (has_bit p 0) (has_bit p 0) ∙ (λ i. cond (s % 64 == p) true (no_bit p i || no_bit p i)) ∙ ap (λ o. cond (s % 64 == p) true (enters_in o p)) (sym none))

  -- a block in which nothing is marked goes
  module _
      (unmarked : (q : ℕ) → enters_in (block_at (s / 64) old) q ≡ false)
      (updates : (q : ℕ) → lookup (is_at (nat_cmp q)) new ≡ cond (is_at (nat_cmp (s / 64)) q) None (lookup (is_at (nat_cmp q)) old)) where
    ended : (n : ℕ) → block_at n new ≡ cond (s / 64 == n) None (block_at n old)
    ended = block_turned old new (s / 64) None (is_numbered s fits) updates

    pub entered_ended : KeepsEntered old new
    entered_ended = part_stays enters_in old new s None ended (λ p. sym (unmarked p))

    pub held_ended : KeepsHeld old new
    held_ended = part_stays holds_in old new s None ended (λ p. sym (none_held (block_at (s / 64) old) p (unmarked p)))
      where
        second : (x y : Bool) → (x || y) ≡ false → y ≡ false
        second true y e = cc
        second false y e = e

        none_held : (o : Option Block) (p : ℕ) → enters_in o p ≡ false → holds_in o p ≡ false
        none_held None p e = refl
        none_held (Some b) p e = second (has_bit p b.entered) (has_bit p b.held) e

-- the last block, which is reached without a search
pub key_there : {X : Type 0} (es : List (ℕ × X)) (i : ℕ) (e : ℕ × X) → slice_get es i ≡ Some e → slice_get (keys_of es) i ≡ Some e.0
key_there [] i e is = cc
key_there (x ∷ xs) zero e is = ap (option_map (λ p. p.0)) is
key_there (x ∷ xs) (suc i) e is = key_there xs i e is

pub last_is : {o : Option ℕ} (key n : ℕ) → Some key ≡ o → o ≡ Some n → key ≡ n
last_is key n at is = ap (λ o. unwrap_or o 0) (at ∙ is)

pub found_last : (es : Blocks) (key s : ℕ) (block : Block) (o : Option Block) → key ≡ s / 64 → o ≡ Some block → o ≡ lookup (is_at (nat_cmp key)) es → Some block ≡ lookup (is_at (nat_cmp (s / 64))) es
found_last es key s block o same is at = sym is ∙ at ∙ ap (λ (n : ℕ). lookup (is_at (nat_cmp n)) es) same

pub updated_last :
    (old new : Blocks) (key n : ℕ) (w : Option Block) → key ≡ n
    → ((q : ℕ) → lookup (is_at (nat_cmp q)) new ≡ cond (is_at (nat_cmp key) q) w (lookup (is_at (nat_cmp q)) old)) → (q : ℕ) → lookup (is_at (nat_cmp q)) new ≡ cond (is_at (nat_cmp n) q) w (lookup (is_at (nat_cmp q)) old)
updated_last old new key n w same updates q = updates q ∙ ap (λ (k : ℕ). cond (is_at (nat_cmp k) q) w (lookup (is_at (nat_cmp q)) old)) same

pub unmarked_words : (b : Block) → b.entered ≡ 0 → b.held ≡ 0 → (q : ℕ) → enters_in (Some b) q ≡ false
unmarked_words b entered held q = λ i. (ap (has_bit q) entered ∙ no_bit q) i || (ap (has_bit q) held ∙ no_bit q) i

-- what is there is entered
pub held_enters : (o : Option Block) (p : ℕ) → holds_in o p ≡ true → enters_in o p ≡ true
held_enters None p e = e
held_enters (Some b) p e = second (has_bit p b.entered) (has_bit p b.held) e
  where
    second : (x y : Bool) → y ≡ true → (x || y) ≡ true
    second true y e = refl
    second false y e = e
