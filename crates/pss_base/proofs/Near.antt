-- The first of some bytes that pass a test, by the mask of a vector of them.
use Rattle.std.proofs.Common.{◌≡◌, ℕ, ◌+◌, ◌*◌, ◌<◌, ◌≤◌, Bool, true, false, not, cond, List, [], ◌∷◌, map, length, drop, Some, None, refl, sym, ap, ◌∙◌, arith}
use Rattle.std.proofs.lemmas.Simd.{chunk-drop, length-chunk, trailing_mask_l}
use Rattle.std.proofs.lemmas.List.Folds.{prefix_len-append}
use Rattle.std.proofs.lemmas.List.Sums.{prefix_len-le-length}
use Rattle.std.proofs.lemmas.Bool.{ne_eqb, lt-ltb}
use Rattle.std.specs.Prelude.{position}
use Rattle.std.specs.List.{prefix_len}
use lib.Lanes.{chunk, mask_l}
use lib.Count.{count_trailing_zeros}

none_fails : (b : Bool) (n l m : ℕ) → n ≤ l → cond (not b) (1 + n) 0 ≡ 1 + l → (n ≡ l → m ≡ 0) → cond b 1 0 + 2 * m ≡ 0
none_fails true n l m le e ih = let no : ⊥ = omega arith in absurd no
none_fails false n l m le e ih = let z = ih (omega arith) in omega arith

module _ (p : ℕ → Bool) where
  none : (xs : List ℕ) → prefix_len (λ x. not (p x)) xs ≡ length xs → mask_l (map p xs) ≡ 0
  none [] e = refl
  none (x ∷ xs) e = none_fails (p x) _ (length xs) _ (prefix_len-le-length (λ y. not (p y)) xs) (omega arith) (none xs)

  pub near : (xs : List ℕ) (n : ℕ) → n ≤ length xs → n ≤ 64 → 0 < mask_l (map p (chunk 0 n xs)) → position p xs ≡ Some (count_trailing_zeros 64 (mask_l (map p (chunk 0 n xs))))
  near xs n room short some =
      let c = chunk 0 n xs in
      let long = length-chunk 0 n xs (omega arith) in
      let q : ℕ → Bool = λ x. not (p x) in
      let missed : prefix_len q c ≡ length c → ⊥ = λ e. omega (arith, none c e) in
      let whole : prefix_len q xs ≡ prefix_len q c = ap (prefix_len q) (chunk-drop 0 n xs) ∙ prefix_len-append q c (drop (0 + n) xs) ∙ ap (λ b. cond b (length c + prefix_len q (drop (0 + n) xs)) (prefix_len q c)) (ne_eqb _ _ missed) in
      let below : prefix_len q xs < length xs = omega (arith, whole, prefix_len-le-length q c, missed) in
      ap (λ b. cond b (Some (prefix_len q xs)) None) (lt-ltb _ _ below) ∙ ap Some (whole ∙ sym (trailing_mask_l p 64 c (omega (arith, long)) some))
