-- Holders and reservations of keys, where the index of one key changes.
use Rattle.std.proofs.Common.{ℕ, ◌≡◌, ◌==◌, List, [], ◌∷◌, Some, Bool, true, false, cond, refl, ap, ◌∙◌}
use Rattle.std.specs.Prelude.{◌&&◌, ◌||◌}
use Rattle.std.specs.Cmp.{nat_eq_equiv}
use Rattle.std.specs.Str.{bytes_eq}
use Rattle.type_layout.specs.declared.key.KeyNo.{KeyNo}
use Rattle.type_layout.specs.Schemas.{given}
use Rattle.key_index.specs.Index.{Index}
use Rattle.storage_home.specs.Indexes.{KeyIndexes, index_at, found_at, is_key_reserved, is_pair, lists, TurnsIndex, TurnsFoundAt, TurnsKeyReservedAt, MayPut}
use Rattle.storage_home.proofs.Holding.{same_bytes_turned}
use Rattle.storage_home.proofs.Places.{by_test, same_number}

module _ {A : Type 0} (part : Index → List ℕ → A) (d : A) where
  -- a part of the index of a key, where the key has one
  abbrev pub part_at : KeyIndexes → ℕ → List ℕ → A
  part_at indexes key q = given (index_at key indexes) d (λ i. part i q)

  pub part_of : (indexes : KeyIndexes) (k : ℕ) (a : Index) → Some a ≡ index_at k indexes → (q : List ℕ) → part a q ≡ part_at indexes k q
  part_of indexes k a is q = ap (λ o. given o d (λ i. part i q)) is

  module _ (old new : KeyIndexes) (k : ℕ) (b : Index) (turns : TurnsIndex old new k (Some b)) where
    pub one_turned : (bytes : List ℕ) (w : A) → ((q : List ℕ) → part b q ≡ cond (bytes_eq q bytes) w (part_at old k q)) → (key : ℕ) (q : List ℕ) → part_at new key q ≡ cond ((k == key) && bytes_eq q bytes) w (part_at old key q)
    one_turned bytes w one key q =
        ap (λ o. given o d (λ i. part i q)) (turns key)
        ∙ by_test (λ t. (k == key) ≡ t → given (cond t (Some b) (index_at key old)) d (λ i. part i q) ≡ cond (t && bytes_eq q bytes) w (part_at old key q)) (k == key)
        (λ _ same. one q ∙ ap (λ (n : ℕ). cond (bytes_eq q bytes) w (part_at old n q)) (same_number k key same))
        (λ _ _. refl)
        refl

    pub none_turned : ((q : List ℕ) → part b q ≡ part_at old k q) → (key : ℕ) (q : List ℕ) → part_at new key q ≡ part_at old key q
    none_turned same key q =
        ap (λ o. given o d (λ i. part i q)) (turns key)
        ∙ by_test (λ t. (k == key) ≡ t → given (cond t (Some b) (index_at key old)) d (λ i. part i q) ≡ part_at old key q) (k == key)
        (λ _ is. same q ∙ ap (λ (n : ℕ). part_at old n q) (same_number k key is))
        (λ _ _. refl)
        refl

-- ---- one key after the other

both_turned : (p q : KeyNo × List ℕ) → is_pair p q.0.0 q.1 ≡ is_pair q p.0.0 p.1
both_turned p q = ap (λ b. b && bytes_eq q.1 p.1) (nat_eq_equiv.symm p.0.0 q.0.0) ∙ ap (λ b. (q.0.0 == p.0.0) && b) (same_bytes_turned q.1 p.1)

no_either : (b r : Bool) → (b || r) ≡ false → (b ≡ false) × (r ≡ false)
no_either true r h = cc
no_either false r h = (refl, h)

-- after one key was put, the others may be put
pub may_put_rest : (now new : KeyIndexes) (p : KeyNo × List ℕ) (serial : ℕ) (rest : List (KeyNo × List ℕ)) → TurnsFoundAt now new p.0.0 p.1 (Some serial) → TurnsKeyReservedAt now new p.0.0 p.1 false → lists rest p.0.0 p.1 ≡ false → MayPut now rest → MayPut new rest
may_put_rest now new p serial [] found reserved other may = tt
may_put_rest now new p serial (q ∷ qs) found reserved other may =
    let split = no_either (is_pair q p.0.0 p.1) (lists qs p.0.0 p.1) other in
    let apart = both_turned p q ∙ split.0 in
    (reserved q.0.0 q.1 ∙ ap (λ b. cond b false (is_key_reserved now q.0.0 q.1)) apart ∙ may.0, found q.0.0 q.1 ∙ ap (λ b. cond b (Some serial) (found_at now q.0.0 q.1)) apart ∙ may.1, may.2, may_put_rest now new p serial qs found reserved split.1 may.3)
