-- That the keys of an object which no other holds may be put.
use Rattle.std.proofs.Common.{◌≡◌, ℕ, Bool, true, false, cond, not, ◌==◌, List, [], ◌∷◌, map, Option, Some, None, refl, sym, ap, subst, ◌∙◌, IsTrue}
use Rattle.std.specs.Prelude.{◌&&◌, ◌||◌, find}
use Rattle.std.specs.List.{list_any}
use Rattle.std.specs.Str.{bytes_eq}
use Rattle.std.specs.FinMap.{get}
use Rattle.std.proofs.lemmas.Bool.{eq-eqb}
use Rattle.std.proofs.lemmas.Slice.Eq.{bytes_eq-Decides}
use Rattle.type_layout.specs.declared.key.KeyNo.{KeyNo}
use Rattle.type_layout.specs.declared.schema.Home.{Home}
use Rattle.type_layout.specs.declared.schema.Schema.{Schema}
use Rattle.type_layout.specs.Keys.{key_bytes}
use Rattle.type_layout.specs.Schemas.{given, home_at, keys_at}
use Rattle.type_layout.specs.Sound.{IsSoundSchema, are_distinct, key_name}
use Rattle.pss_catalog.specs.Catalog.{Object, Catalog, holds, holders, IsUnique}
use Rattle.pss_catalog.proofs.Listing.{only_listed}
use Rattle.pss_machine.specs.Changes.{Changes}
use Rattle.pss_machine.specs.Alone.{is_taken, first_taken}
use Rattle.pss_laws.proofs.Listing.{no_others}
use Rattle.pss_laws.proofs.Logic.{and_left, and_right}
use Rattle.owner_view.specs.Keyed.{Pair, keyed, all_keyed, keys_of}
use Rattle.storage_home.specs.Indexes.{KeyIndexes, found_at, is_key_reserved, lists, TurnsFound, MayPut}
use Rattle.owner_view.specs.Overlay.{HasHolders}
use Rattle.owner_view.specs.Views.{seen_with, IsOwnHolder}
use Rattle.owner_view.proofs.Owning.{own_seen, not_held, contrary, lists_keyed}
use Rattle.owner_view.proofs.Tests.{by_test, same_number}

-- ---- a home has each of its keys once

same_key : (j k : KeyNo) → (j.0 == k.0) ≡ true → j ≡ k
same_key j k e = (let n = same_number j.0 k.0 e in λ i. record { 0 = n i })

pub named_once : (S : Schema) (k : KeyNo) (keys : List KeyNo) → list_any (bytes_eq (key_name S k)) (map (key_name S) keys) ≡ false → list_any (λ j. j.0 == k.0) keys ≡ false
named_once S k [] e = refl
named_once S k (j ∷ keys) e = by_test (λ b. (j.0 == k.0) ≡ b → (b || list_any (λ j. j.0 == k.0) keys) ≡ false) (j.0 == k.0)
    (λ _ is.
    let same : bytes_eq (key_name S k) (key_name S j) ≡ true = ap (λ (i : KeyNo). bytes_eq (key_name S k) (key_name S i)) (same_key j k is) ∙ (bytes_eq-Decides (key_name S k) (key_name S k)).1 refl in
    let no : true ≡ false = ap (λ (b : Bool). b || list_any (bytes_eq (key_name S k)) (map (key_name S) keys)) (sym same) ∙ e in
    absurd cc)
    (λ _ other. named_once S k keys (rest (bytes_eq (key_name S k) (key_name S j)) e))
    refl
  where
    rest : (b : Bool) → (b || list_any (bytes_eq (key_name S k)) (map (key_name S) keys)) ≡ false → list_any (bytes_eq (key_name S k)) (map (key_name S) keys) ≡ false
    rest true h = absurd cc
    rest false h = h

pub not_true : (b : Bool) → not b ≡ true → b ≡ false
not_true true e = absurd cc
not_true false e = refl

or_behind : (b x : Bool) → x ≡ true → (b || x) ≡ true
or_behind true x e = refl
or_behind false x e = e

-- ---- keys that no other object holds

module _ (S : Schema) (M : Catalog) (c : Changes) (s : ℕ) (y : Object) (old between : KeyIndexes) (unique : IsUnique S (seen_with M c)) (before : HasHolders S c old)
    (taken : TurnsFound old between (keys_of S (get (seen_with M c) s)) None) where
  free : (k : KeyNo) → is_taken S (seen_with M c) s y k ≡ false → found_at between k.0 (key_bytes S k y.values) ≡ None
  free k none = taken k.0 bytes ∙ by (lists had k.0 bytes) refl (found_at old k.0 bytes) (before k bytes)
    where
      bytes : List ℕ
      bytes = key_bytes S k y.values

      had : List Pair
      had = keys_of S (get (seen_with M c) s)

      by : (b : Bool) → lists had k.0 bytes ≡ b → (o : Option ℕ) → IsOwnHolder S c k bytes o → cond b None o ≡ None
      by true is o own = refl
      by false is None own = refl
      by false is (Some t) own =
          let there : get (seen_with M c) t ≡ Some own.0 = own_seen S M c s None t own.0 own.1 in
          let one : t ≡ s = (only_listed (holds S k bytes) (seen_with M c) s).0 (no_others s (holders S (seen_with M c) k bytes) none) t own.0 there own.2 in
          contrary (holds S k bytes own.0) own.2 (not_held S (get (seen_with M c) s) k bytes own.0 is (ap (get (seen_with M c)) (sym one) ∙ there))

  may_put_keys : (keys : List KeyNo) → find (is_taken S (seen_with M c) s y) keys ≡ None → are_distinct bytes_eq (map (key_name S) keys) ≡ true
      → ((k : KeyNo) → list_any (λ j. j.0 == k.0) keys ≡ true → is_key_reserved between k.0 (key_bytes S k y.values) ≡ true) → MayPut between (keyed S y.values keys)
  may_put_keys [] none distinct reserved = tt
  may_put_keys (k ∷ keys) none distinct reserved = by (is_taken S (seen_with M c) s y k) refl none (λ h. may_put_keys keys h (and_right _ _ distinct) (λ j there. reserved j (or_behind (k.0 == j.0) _ there)))
    where
      lone : list_any (λ j. j.0 == k.0) keys ≡ false
      lone = named_once S k keys (not_true _ (and_left _ _ distinct))

      own : (k.0 == k.0) ≡ true
      own = eq-eqb k.0 k.0 refl

      by : (b : Bool) → is_taken S (seen_with M c) s y k ≡ b → cond b (Some k) (find (is_taken S (seen_with M c) s y) keys) ≡ None → (find (is_taken S (seen_with M c) s y) keys ≡ None → MayPut between (keyed S y.values keys)) → MayPut between (keyed S y.values (k ∷ keys))
      by true is h behind = absurd cc
      by false is h behind = (
        reserved k (ap (λ (b : Bool). b || list_any (λ j. j.0 == k.0) keys) own),
        free k is,
        lists_keyed S y.values keys k (key_bytes S k y.values) ∙ ap (λ (b : Bool). b && bytes_eq (key_bytes S k y.values) (key_bytes S k y.values)) lone,
        behind h,
      )

  -- the keys of the object may be put
  pub may_put : IsSoundSchema S → (home : Home) → home_at S y.home ≡ Some home → first_taken S (seen_with M c) s y ≡ None
      → ((key : ℕ) (bytes : List ℕ) → IsTrue (lists (all_keyed S y) key bytes) → is_key_reserved between key bytes ≡ true) → MayPut between (all_keyed S y)
  may_put sound home there none reserved = may_put_keys (keys_at S y.home) none
      (subst (λ o. are_distinct bytes_eq (map (key_name S) (given o [] (λ (x : Home). x.keys))) ≡ true) (sym there) (sound.key_names y.home home there))
      (λ k is. reserved k.0 (key_bytes S k y.values) (lists_keyed S y.values (keys_at S y.home) k (key_bytes S k y.values) ∙ ap (λ (b : Bool). b && bytes_eq (key_bytes S k y.values) (key_bytes S k y.values)) is ∙ (bytes_eq-Decides (key_bytes S k y.values) (key_bytes S k y.values)).1 refl))
