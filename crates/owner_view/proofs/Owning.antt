-- Who holds keys among the changed objects after one more change.
use Rattle.std.proofs.Common.{◌≡◌, ℕ, Bool, true, false, cond, ◌==◌, List, [], ◌∷◌, Option, Some, None, refl, sym, ap, subst, ◌∙◌}
use Rattle.std.specs.Prelude.{◌&&◌, ◌||◌, unwrap_or}
use Rattle.std.specs.List.{list_any}
use Rattle.std.specs.Cmp.{nat_cmp_total}
use Rattle.std.specs.Cmp.Lexicographic.{nat_list_eq_equiv}
use Rattle.std.specs.Str.{bytes_eq}
use Rattle.std.proofs.lemmas.Bool.{eqb-true, eq-eqb}
use Rattle.std.proofs.lemmas.Option.{same_Some}
use Rattle.std.specs.FinMap.{get, insert, get-insert}
use Rattle.type_layout.specs.declared.key.KeyNo.{KeyNo}
use Rattle.type_layout.specs.declared.schema.Home.{Home}
use Rattle.type_layout.specs.declared.schema.Schema.{Schema}
use Rattle.type_layout.specs.Types.{PlainValue}
use Rattle.type_layout.specs.Keys.{key_bytes}
use Rattle.type_layout.specs.Schemas.{given, home_at, has_key, keys_at}
use Rattle.pss_catalog.specs.Catalog.{Object, Catalog, holds, IsUnique}
use Rattle.pss_catalog.proofs.Listing.{tie}
use Rattle.pss_machine.specs.Changes.{Changes}
use Rattle.owner_view.specs.Keyed.{keyed, all_keyed, keys_of}
use Rattle.storage_home.specs.Indexes.{KeyIndexes, found_at, lists}
use Rattle.owner_view.specs.Overlay.{HasHolders, FoundAfter}
use Rattle.owner_view.specs.Views.{seen_with, IsOwnHolder}
use Rattle.owner_view.proofs.Holding.{seen_at}
use Rattle.owner_view.proofs.Tests.{by_test, same_number}

turned_bytes : (a b : List ℕ) → bytes_eq a b ≡ bytes_eq b a
turned_bytes a b = nat_list_eq_equiv.symm a b

-- ---- the pairs of an object are the keys that it holds

first_or_rest : (any is : Bool) → (is || (any && is)) ≡ is
first_or_rest true true = refl
first_or_rest true false = refl
first_or_rest false true = refl
first_or_rest false false = refl

pub lists_keyed : (S : Schema) (values : List PlainValue) (keys : List KeyNo) (k : KeyNo) (bytes : List ℕ) → lists (keyed S values keys) k.0 bytes ≡ (list_any (λ j. j.0 == k.0) keys && bytes_eq (key_bytes S k values) bytes)
lists_keyed S values [] k bytes = refl
lists_keyed S values (j ∷ keys) k bytes = by_test (λ b. (j.0 == k.0) ≡ b → (b && bytes_eq bytes (key_bytes S j values) || lists (keyed S values keys) k.0 bytes) ≡ ((b || list_any (λ i. i.0 == k.0) keys) && bytes_eq (key_bytes S k values) bytes)) (j.0 == k.0)
    (λ e is.
    let one : j ≡ k = (let n = same_number j.0 k.0 is in λ i. record { 0 = n i }) in
    ap (λ (r : Bool). bytes_eq bytes (key_bytes S j values) || r) (lists_keyed S values keys k bytes)
    ∙ ap (λ (x : Bool). x || (list_any (λ i. i.0 == k.0) keys && bytes_eq (key_bytes S k values) bytes)) (turned_bytes bytes (key_bytes S j values) ∙ ap (λ (i : KeyNo). bytes_eq (key_bytes S i values) bytes) one)
    ∙ first_or_rest (list_any (λ i. i.0 == k.0) keys) (bytes_eq (key_bytes S k values) bytes))
    (λ e other. lists_keyed S values keys k bytes)
    refl

pub lists_held : (S : Schema) (x : Object) (k : KeyNo) (bytes : List ℕ) → lists (all_keyed S x) k.0 bytes ≡ holds S k bytes x
lists_held S x k bytes = lists_keyed S x.values (keys_at S x.home) k bytes ∙ ap (λ (b : Bool). b && bytes_eq (key_bytes S k x.values) bytes) (by (home_at S x.home))
  where
    by : (o : Option Home) → list_any (λ j. j.0 == k.0) (given o [] (λ home. home.keys)) ≡ given o false (λ home. has_key home k)
    by None = refl
    by (Some home) = refl

-- ---- after a change

held_by : (S : Schema) (state : Option Object) (k : KeyNo) (bytes : List ℕ) → lists (keys_of S state) k.0 bytes ≡ true → (x : Object) × (state ≡ Some x) × (holds S k bytes x ≡ true)
held_by S None k bytes e = absurd cc
held_by S (Some x) k bytes e = (x, refl, sym (lists_held S x k bytes) ∙ e)

pub not_held : (S : Schema) (state : Option Object) (k : KeyNo) (bytes : List ℕ) (x : Object) → lists (keys_of S state) k.0 bytes ≡ false → state ≡ Some x → holds S k bytes x ≡ false
not_held S None k bytes x e is = absurd cc
not_held S (Some y) k bytes x e is = (let one : y ≡ x = cc in ap (holds S k bytes) (sym one) ∙ sym (lists_held S y k bytes) ∙ e)

pub contrary : {A : Type 0} (b : Bool) → b ≡ true → b ≡ false → A
contrary b p q = absurd cc

module _ (S : Schema) (M : Catalog) (c : Changes) (s : ℕ) (state : Option Object) where
  after_here : get (insert c s state) s ≡ Some state
  after_here = get-insert nat_cmp_total c s state s ∙ ap (λ (b : Bool). cond b (Some state) (get c s)) (tie s s ∙ eq-eqb s s refl)

  after_there : (t : ℕ) → (t == s) ≡ false → get (insert c s state) t ≡ get c t
  after_there t other = get-insert nat_cmp_total c s state t ∙ ap (λ (b : Bool). cond b (Some state) (get c t)) (tie t s ∙ other)

  -- what stands at a serial after the change
  stands : (t : ℕ) (x : Object) (P : Type 0) → get (insert c s state) t ≡ Some (Some x) → ((t == s) ≡ true → state ≡ Some x → P) → ((t == s) ≡ false → get c t ≡ Some (Some x) → P) → P
  stands t x P there here other = by (t == s) refl
    where
      by : (b : Bool) → (t == s) ≡ b → P
      by true same = here same (same_Some state (Some x) (sym after_here ∙ ap (get (insert c s state)) (sym (eqb-true t s same)) ∙ there))
      by false apart = other apart (sym (after_there t apart) ∙ there)

  -- an own object is in the view
  pub own_seen : (t : ℕ) (x : Object) → get c t ≡ Some (Some x) → get (seen_with M c) t ≡ Some x
  own_seen t x is = seen_at M c t ∙ ap (λ o. unwrap_or o (get M t)) is

  module _ (old new : KeyIndexes) (unique : IsUnique S (seen_with M c)) (before : HasHolders S c old)
      (found : FoundAfter old new s (keys_of S (get (seen_with M c) s)) (keys_of S state)) (k : KeyNo) (bytes : List ℕ) where
    abbrev Has : Bool → Type 0
    Has b = lists (keys_of S state) k.0 bytes ≡ b

    abbrev Had : Bool → Type 0
    Had b = lists (keys_of S (get (seen_with M c) s)) k.0 bytes ≡ b

    -- no other own object holds a key that the object has in the view
    no_other : Has false → Had true → (t : ℕ) (x : Object) → get (insert c s state) t ≡ Some (Some x) → holds S k bytes x ≡ false
    no_other none was t x there = stands t x (holds S k bytes x ≡ false) there
        (λ here is. not_held S state k bytes x none is)
        (λ other is. by (holds S k bytes x) refl other is)
      where
        by : (b : Bool) → holds S k bytes x ≡ b → (t == s) ≡ false → get c t ≡ Some (Some x) → b ≡ false
        by false e other is = refl
        by true e other is =
            let it = held_by S (get (seen_with M c) s) k bytes was in
            let one : t ≡ s = unique k bytes t s x it.0 (own_seen t x is) it.1 e it.2 in
            contrary (t == s) (eq-eqb t s one) other

    kept : Has false → Had false → (o : Option ℕ) → IsOwnHolder S c k bytes o → IsOwnHolder S (insert c s state) k bytes o
    kept none never None own = λ t x there. stands t x (holds S k bytes x ≡ false) there (λ here is. not_held S state k bytes x none is) (λ other is. own t x is)
    kept none never (Some t) own = by (t == s) refl
      where
        by : (b : Bool) → (t == s) ≡ b → IsOwnHolder S (insert c s state) k bytes (Some t)
        by false other = (own.0, after_there t other ∙ own.1, own.2)
        by true same =
            let there : get (seen_with M c) s ≡ Some own.0 = ap (get (seen_with M c)) (sym (eqb-true t s same)) ∙ own_seen t own.0 own.1 in
            contrary (holds S k bytes own.0) own.2 (not_held S (get (seen_with M c) s) k bytes own.0 never there)

    pub holder_after : IsOwnHolder S (insert c s state) k bytes (found_at new k.0 bytes)
    holder_after = subst (IsOwnHolder S (insert c s state) k bytes) (sym (found k.0 bytes)) (by (lists (keys_of S state) k.0 bytes) refl (lists (keys_of S (get (seen_with M c) s)) k.0 bytes) refl)
      where
        by : (h : Bool) → Has h → (d : Bool) → Had d → IsOwnHolder S (insert c s state) k bytes (cond h (Some s) (cond d None (found_at old k.0 bytes)))
        by true is d was = (let it = held_by S state k bytes is in (it.0, after_here ∙ ap Some it.1, it.2))
        by false is true was = no_other is was
        by false is false was = kept is was (found_at old k.0 bytes) (before k bytes)
