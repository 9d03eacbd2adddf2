-- The parts that are kept follow the catalog.
use Rattle.std.proofs.Common.{ℕ, ◌≡◌, ◌==◌, ◌⊎◌, List, Some, None, Bool, true, false, inl, inr, cond, refl, sym, ap, ◌∙◌, arith}
use Rattle.std.specs.Prelude.{◌&&◌, ◌↔◌}
use Rattle.std.specs.Option.{option_map}
use Rattle.std.specs.FinMap.{get, insert, remove}
use Rattle.std.specs.BTreeMap.{BTreeMap}
use Rattle.type_layout.specs.declared.key.KeyNo.{KeyNo}
use Rattle.type_layout.specs.declared.schema.Schema.{Schema}
use Rattle.pss_catalog.specs.Catalog.{Object, Catalog, holds, IsUnique}
use Rattle.pss_catalog.proofs.Forest.{same_place, other_place}
use Rattle.storage_home.specs.Rows.{Chunks, object_at, TurnsObject}
use Rattle.storage_home.specs.declared.extents.Block.{Block}
use Rattle.storage_home.specs.Extents.{is_held_in, TurnsHeldIn}
use Rattle.storage_home.specs.Indexes.{KeyIndexes, found_at, lists, TurnsFound}
use Rattle.storage_home.specs.Kept.{stored, IsHolder, is_object_of}
use Rattle.storage_home.proofs.Places.{by_test}
use Rattle.storage_home.proofs.Keeping.{same_or_not, gone, stays, was_there, come, others}

abbrev pub RowsAre : Schema → Catalog → Chunks → Type 0
RowsAre S M rows = (serial : ℕ) → object_at serial rows ≡ option_map (stored S) (get M serial)

abbrev pub ExtentsAre : Catalog → List (BTreeMap ℕ Block) → Type 0
ExtentsAre M extents = (home serial : ℕ) → is_held_in extents home serial ≡ is_object_of home (get M serial)

abbrev pub KeysAre : Schema → Catalog → KeyIndexes → Type 0
KeysAre S M keys = (key : KeyNo) (bytes : List ℕ) (serial : ℕ) → (found_at keys key.0 bytes ≡ Some serial) ↔ IsHolder S M key bytes serial

module _ (S : Schema) (M : Catalog) (s : ℕ) where
  pub rows_without : (old new : Chunks) → RowsAre S M old → TurnsObject old new s None → RowsAre S (remove M s) new
  rows_without old new are turns t = turns t ∙ by (same_or_not t s)
    where
      by : (t ≡ s) ⊎ (t ≡ s → ⊥) → cond (s == t) None (object_at t old) ≡ option_map (stored S) (get (remove M s) t)
      by (inl same) = same_place t s None (object_at t old) (sym same) ∙ ap (option_map (stored S)) (sym (gone M s t same))
      by (inr other) = other_place t s None (object_at t old) (λ e. other (sym e)) ∙ are t ∙ ap (option_map (stored S)) (sym (stays M s t other))

  pub rows_with : (object : Object) (old new : Chunks) → RowsAre S M old → TurnsObject old new s (Some (stored S object)) → RowsAre S (insert M s object) new
  rows_with object old new are turns t = turns t ∙ by (same_or_not t s)
    where
      by : (t ≡ s) ⊎ (t ≡ s → ⊥) → cond (s == t) (Some (stored S object)) (object_at t old) ≡ option_map (stored S) (get (insert M s object) t)
      by (inl same) = same_place t s (Some (stored S object)) (object_at t old) (sym same) ∙ ap (option_map (stored S)) (sym (come M s object t same))
      by (inr other) = other_place t s (Some (stored S object)) (object_at t old) (λ e. other (sym e)) ∙ are t ∙ ap (option_map (stored S)) (sym (others M s object t other))

  pub extents_without : (object : Object) → get M s ≡ Some object → (old new : List (BTreeMap ℕ Block)) → ExtentsAre M old → TurnsHeldIn old new object.home.0 s false → ExtentsAre (remove M s) new
  extents_without object is old new are turns h t = turns h t ∙ by (same_or_not t s)
    where
      at_home : (b : Bool) → (object.home.0 == h) ≡ b → cond b false (is_held_in old h t) ≡ cond b false (is_object_of h (get M t))
      at_home true e = refl
      at_home false e = are h t

      by : (t ≡ s) ⊎ (t ≡ s → ⊥) → cond ((object.home.0 == h) && (s == t)) false (is_held_in old h t) ≡ is_object_of h (get (remove M s) t)
      by (inl same) =
          ap (λ b. cond ((object.home.0 == h) && b) false (is_held_in old h t)) (grind (arith, same))
          ∙ by_test (λ b. (object.home.0 == h) ≡ b → cond (b && true) false (is_held_in old h t) ≡ false) (object.home.0 == h) (λ _ _. refl) (λ _ off. are h t ∙ ap (is_object_of h) (ap (λ (k : ℕ). get M k) same ∙ is) ∙ off) refl
          ∙ ap (is_object_of h) (sym (gone M s t same))
      by (inr other) =
          by_test (λ b. (s == t) ≡ b → cond ((object.home.0 == h) && b) false (is_held_in old h t) ≡ is_held_in old h t) (s == t)
          (λ _ e. absurd (other (grind (arith, e))))
          (λ _ _. by_test (λ b. cond (b && false) false (is_held_in old h t) ≡ is_held_in old h t) (object.home.0 == h) (λ _. refl) (λ _. refl))
          refl
          ∙ are h t ∙ ap (is_object_of h) (sym (stays M s t other))

  pub extents_with : (object : Object) → get M s ≡ None → (old new : List (BTreeMap ℕ Block)) → ExtentsAre M old → TurnsHeldIn old new object.home.0 s true → ExtentsAre (insert M s object) new
  extents_with object none old new are turns h t = turns h t ∙ by (same_or_not t s)
    where
      by : (t ≡ s) ⊎ (t ≡ s → ⊥) → cond ((object.home.0 == h) && (s == t)) true (is_held_in old h t) ≡ is_object_of h (get (insert M s object) t)
      by (inl same) =
          ap (λ b. cond ((object.home.0 == h) && b) true (is_held_in old h t)) (grind (arith, same))
          ∙ by_test (λ b. cond (b && true) true (is_held_in old h t) ≡ b) (object.home.0 == h) (λ _. refl) (λ _. are h t ∙ ap (is_object_of h) (ap (λ (k : ℕ). get M k) same ∙ none))
          ∙ ap (is_object_of h) (sym (come M s object t same))
      by (inr other) =
          by_test (λ b. (s == t) ≡ b → cond ((object.home.0 == h) && b) true (is_held_in old h t) ≡ is_held_in old h t) (s == t)
          (λ _ e. absurd (other (grind (arith, e))))
          (λ _ _. by_test (λ b. cond (b && false) true (is_held_in old h t) ≡ is_held_in old h t) (object.home.0 == h) (λ _. refl) (λ _. refl))
          refl
          ∙ are h t ∙ ap (is_object_of h) (sym (others M s object t other))

  pub keys_without :
      (object : Object) → get M s ≡ Some object → (pairs : List (KeyNo × List ℕ)) → ((key : KeyNo) (bytes : List ℕ) → lists pairs key.0 bytes ≡ holds S key bytes object)
      → (old new : KeyIndexes) → KeysAre S M old → TurnsFound old new pairs None → KeysAre S (remove M s) new
  keys_without object is pairs listed old new are turns key bytes t = (λ found. down (lists pairs key.0 bytes) refl (sym (turns key.0 bytes) ∙ found), λ holder. turns key.0 bytes ∙ up holder (lists pairs key.0 bytes) refl)
    where
      down : (b : Bool) → lists pairs key.0 bytes ≡ b → cond b None (found_at old key.0 bytes) ≡ Some t → IsHolder S (remove M s) key bytes t
      down true e never = cc
      down false e found =
          let holder = (are key bytes t).0 found in
          let other : t ≡ s → ⊥ = λ same. (let one : Some holder.0 ≡ Some object = sym holder.1 ∙ ap (λ (k : ℕ). get M k) same ∙ is in let it : holder.0 ≡ object = cc in let no : true ≡ false = sym holder.2 ∙ ap (holds S key bytes) it ∙ sym (listed key bytes) ∙ e in cc) in
          (holder.0, stays M s t other ∙ holder.1, holder.2)

      up : IsHolder S (remove M s) key bytes t → (b : Bool) → lists pairs key.0 bytes ≡ b → cond b None (found_at old key.0 bytes) ≡ Some t
      up holder true e =
          let old_there = was_there M s t holder.0 holder.1 in
          let here = (are key bytes s).1 (object, is, sym (listed key bytes) ∙ e) in
          let there = (are key bytes t).1 (holder.0, old_there.0, holder.2) in
          let one : Some t ≡ Some s = sym there ∙ here in
          absurd (old_there.1 cc)
      up holder false e = (are key bytes t).1 (holder.0, (was_there M s t holder.0 holder.1).0, holder.2)

  pub keys_with :
      (object : Object) → get M s ≡ None → IsUnique S (insert M s object) → (pairs : List (KeyNo × List ℕ)) → ((key : KeyNo) (bytes : List ℕ) → lists pairs key.0 bytes ≡ holds S key bytes object)
      → (old new : KeyIndexes) → KeysAre S M old → TurnsFound old new pairs (Some s) → KeysAre S (insert M s object) new
  keys_with object none unique pairs listed old new are turns key bytes t = (λ found. down (lists pairs key.0 bytes) refl (sym (turns key.0 bytes) ∙ found), λ holder. turns key.0 bytes ∙ up holder (same_or_not t s) (lists pairs key.0 bytes) refl)
    where
      down : (b : Bool) → lists pairs key.0 bytes ≡ b → cond b (Some s) (found_at old key.0 bytes) ≡ Some t → IsHolder S (insert M s object) key bytes t
      down true e found = let same : t ≡ s = cc in (object, come M s object t same, sym (listed key bytes) ∙ e)
      down false e found =
          let holder = (are key bytes t).0 found in
          (holder.0, others M s object t (λ same. (let one : Some holder.0 ≡ None = sym holder.1 ∙ ap (λ (k : ℕ). get M k) same ∙ none in cc)) ∙ holder.1, holder.2)

      up : IsHolder S (insert M s object) key bytes t → (t ≡ s) ⊎ (t ≡ s → ⊥) → (b : Bool) → lists pairs key.0 bytes ≡ b → cond b (Some s) (found_at old key.0 bytes) ≡ Some t
      up holder (inl same) true e = ap Some (sym same)
      up holder (inl same) false e =
          let one : Some holder.0 ≡ Some object = sym holder.1 ∙ come M s object t same in
          let it : holder.0 ≡ object = cc in
          let no : true ≡ false = sym holder.2 ∙ ap (holds S key bytes) it ∙ sym (listed key bytes) ∙ e in
          absurd cc
      up holder (inr other) true e = absurd (other (unique key bytes t s holder.0 object holder.1 (come M s object s refl) holder.2 (sym (listed key bytes) ∙ e)))
      up holder (inr other) false e = (are key bytes t).1 (holder.0, sym (others M s object t other) ∙ holder.1, holder.2)
