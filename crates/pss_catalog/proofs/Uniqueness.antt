-- Single objects and unique keys, after changes.
use Rattle.std.proofs.Common.{ℕ, ◌≡◌, Bool, true, false, cond, ◌==◌, List, [], ◌∷◌, ◌++◌, Option, Some, None, refl, sym, ap, ◌∙◌}
use Rattle.std.specs.Prelude.{◌↔◌, unwrap_or}
use Rattle.std.specs.FinMap.{get, insert, remove, get-insert, get-remove}
use Rattle.std.specs.Cmp.{nat_cmp_total}
use Rattle.std.proofs.lemmas.Bool.{eqb-true, eq-eqb}
use Rattle.type_layout.specs.declared.key.KeyNo.{KeyNo}
use Rattle.type_layout.specs.declared.schema.Schema.{Schema}
use Rattle.type_layout.specs.Schemas.{given}
use Rattle.pss_catalog.specs.Catalog.{Object, Catalog, pid_of, holds, holders, IsUnique}
use Rattle.pss_catalog.specs.Changes.{Change, with_state, over, last_state}
use Rattle.pss_catalog.specs.Laws.{HasNoRival}
use Rattle.pss_catalog.proofs.Listing.{tie, only_listed, lists_one}

pub found_with : (M : Catalog) (s : ℕ) (object : Object) (t : ℕ) → get (insert M s object) t ≡ cond (t == s) (Some object) (get M t)
found_with M s object t = get-insert nat_cmp_total M s object t ∙ ap (λ (b : Bool). cond b (Some object) (get M t)) (tie t s)

pub found_without : (M : Catalog) (s t : ℕ) → get (remove M s) t ≡ cond (t == s) None (get M t)
found_without M s t = get-remove nat_cmp_total M s t ∙ ap (λ (b : Bool). cond b None (get M t)) (tie t s)

found_changed : (M : Catalog) (s : ℕ) (x : Option Object) (t : ℕ) → get (with_state M s x) t ≡ cond (t == s) x (get M t)
found_changed M s None t = found_without M s t
found_changed M s (Some object) t = found_with M s object t

pub found_over : (M : Catalog) (cs : List Change) (t : ℕ) → get (over M cs) t ≡ unwrap_or (last_state cs t) (get M t)
found_over M [] t = refl
found_over M (c ∷ cs) t = found_over (with_state M c.serial c.state) cs t ∙ ap (unwrap_or (last_state cs t)) (found_changed M c.serial c.state t) ∙ by (last_state cs t) (t == c.serial) (c.serial == t) (turned t c.serial)
  where
    turned : (a b : ℕ) → (a == b) ≡ (b == a)
    turned a b = at (a == b) refl (b == a) refl
      where
        at : (x : Bool) → (a == b) ≡ x → (y : Bool) → (b == a) ≡ y → (a == b) ≡ (b == a)
        at true p true q = p ∙ sym q
        at false p false q = p ∙ sym q
        at true p false q = p ∙ sym (eq-eqb b a (sym (eqb-true a b p)))
        at false p true q = sym (sym (eq-eqb a b (sym (eqb-true b a q)))) ∙ sym q

    by : (last : Option (Option Object)) (b d : Bool) → b ≡ d → unwrap_or last (cond b c.state (get M t)) ≡ unwrap_or (given last (cond d (Some c.state) None) Some) (get M t)
    by (Some x) b d e = refl
    by None true true e = refl
    by None false false e = refl
    by None true false e = absurd cc
    by None false true e = absurd cc

pub over_both : (M : Catalog) (cs ds : List Change) → over M (cs ++ ds) ≡ over (over M cs) ds
over_both M [] ds = refl
over_both M (c ∷ cs) ds = over_both (with_state M c.serial c.state) cs ds

-- ---- unique keys

-- what is found without a serial has another one, and was there
record Still (M : Catalog) (s t : ℕ) (x : Object) : Type 0 where
  other : (t == s) ≡ false
  there : get M t ≡ Some x

still : (M : Catalog) (s t : ℕ) (x : Object) → get (remove M s) t ≡ Some x → Still M s t x
still M s t x found = by (t == s) refl (sym (found_without M s t) ∙ found)
  where
    by : (b : Bool) → (t == s) ≡ b → cond b None (get M t) ≡ Some x → Still M s t x
    by true place is = absurd cc
    by false place is = record { other = place; there = is }

pub unique_without : (S : Schema) (M : Catalog) (s : ℕ) → IsUnique S M → IsUnique S (remove M s)
unique_without S M s unique k bytes t u x y at_t at_u holds_x holds_y = unique k bytes t u x y (still M s t x at_t).there (still M s u y at_u).there holds_x holds_y

pub holder_is_one : (S : Schema) (M : Catalog) → IsUnique S M → (k : KeyNo) (bytes : List ℕ) (s : ℕ) (object : Object) → get M s ≡ Some object → holds S k bytes object ≡ true → holders S M k bytes ≡ pid_of (s, object) ∷ []
holder_is_one S M unique k bytes s object there passes = lists_one (holds S k bytes) M s object there passes (λ t x found p. unique k bytes t s x object found there p passes)

-- an object of another serial is there before and after
other_there : (M : Catalog) (s : ℕ) (object : Object) (t : ℕ) (x : Object) → (t == s) ≡ false → get M t ≡ Some x → get (insert M s object) t ≡ Some x
other_there M s object t x other there = found_with M s object t ∙ ap (λ (b : Bool). cond b (Some object) (get M t)) other ∙ there

it_is_there : (M : Catalog) (s : ℕ) (object : Object) → get (insert M s object) s ≡ Some object
it_is_there M s object = found_with M s object s ∙ ap (λ (b : Bool). cond b (Some object) (get M s)) (eq-eqb s s refl)

pub unique_with : (S : Schema) (M : Catalog) (s : ℕ) (object : Object) → IsUnique S (insert M s object) ↔ (IsUnique S (remove M s) × HasNoRival S M s object)
unique_with S M s object = (forth, λ h. back h.0 h.1)
  where
    forth : IsUnique S (insert M s object) → IsUnique S (remove M s) × HasNoRival S M s object
    forth unique = (
      λ k bytes t u x y at_t at_u holds_x holds_y.
          (let p = still M s t x at_t in
          let q = still M s u y at_u in
          unique k bytes t u x y (other_there M s object t x p.other p.there) (other_there M s object u y q.other q.there) holds_x holds_y),
      λ k bytes passes. (only_listed (holds S k bytes) M s).1 (λ t x found p. by k bytes passes t x found p (t == s) refl),
    )
      where
        by : (k : KeyNo) (bytes : List ℕ) → holds S k bytes object ≡ true → (t : ℕ) (x : Object) → get M t ≡ Some x → holds S k bytes x ≡ true → (b : Bool) → (t == s) ≡ b → t ≡ s
        by k bytes passes t x found p true place = eqb-true t s place
        by k bytes passes t x found p false place = unique k bytes t s x object (other_there M s object t x place found) (it_is_there M s object) p passes

    back : IsUnique S (remove M s) → HasNoRival S M s object → IsUnique S (insert M s object)
    back unique rivals k bytes t u x y at_t at_u holds_x holds_y = by (t == s) refl (u == s) refl (sym (found_with M s object t) ∙ at_t) (sym (found_with M s object u) ∙ at_u)
      where
        gone : (v : ℕ) (z : Object) → (v == s) ≡ false → get M v ≡ Some z → get (remove M s) v ≡ Some z
        gone v z other there = found_without M s v ∙ ap (λ (b : Bool). cond b None (get M v)) other ∙ there

        -- one of them is the new object, the other holds its bytes
        no_other : (v : ℕ) (z w : Object) → holds S k bytes z ≡ true → Some object ≡ Some w → holds S k bytes w ≡ true → get M v ≡ Some z → v ≡ s
        no_other v z w passes same holds_w there =
            let one : object ≡ w = cc in
            (only_listed (holds S k bytes) M s).0 (rivals k bytes (ap (holds S k bytes) one ∙ holds_w)) v z there passes

        by : (b : Bool) → (t == s) ≡ b → (c : Bool) → (u == s) ≡ c → cond b (Some object) (get M t) ≡ Some x → cond c (Some object) (get M u) ≡ Some y → t ≡ u
        by true p true q is_x is_y = eqb-true t s p ∙ sym (eqb-true u s q)
        by true p false q is_x is_y = eqb-true t s p ∙ sym (no_other u y x holds_y is_x holds_x is_y)
        by false p true q is_x is_y = no_other t x y holds_x is_y holds_y is_x ∙ sym (eqb-true u s q)
        by false p false q is_x is_y = unique k bytes t u x y (gone t x p is_x) (gone u y q is_y) holds_x holds_y
