-- What the slots of an owner make of a sum over all objects.
use Rattle.std.proofs.Common.{ℕ, zero, suc, subst, ◌≡◌, ◌+◌, ◌≤◌, ◌==◌, Bool, true, false, cond, List, [], ◌∷◌, length, drop, sum, Option, Some, None, refl, sym, ap, ◌∙◌, arith}
use Rattle.std.proofs.Math.ListN.{drop_of_length-le}
use Rattle.std.specs.Prelude.{nat_eq, unwrap_or}
use Rattle.std.specs.Cmp.{nat_cmp_total}
use Rattle.std.specs.Ordering.{nat_cmp}
use Rattle.std.specs.FinMap.{get, insert, get-insert, get-empty, same_map, nat_cmp-IsAntisymmetric}
use Rattle.std.specs.List.{IsDistinct}
use Rattle.std.specs.Map.{keys_of}
use Rattle.std.proofs.lemmas.Map.Keys.{IsDistinct-head, IsDistinct-tail}
use Rattle.type_layout.specs.Schemas.{given}
use Rattle.type_layout.proofs.Lookups.{drop_got}
use Rattle.pss_catalog.specs.Catalog.{Object, Catalog}
use Rattle.pss_catalog.specs.Changes.{with_state}
use Rattle.pss_catalog.proofs.Listing.{tie, total_with, total_without}
use Rattle.pss_catalog.proofs.Uniqueness.{found_with, found_without}
use Rattle.pss_machine.specs.Changes.{Changes}
use Rattle.owner_view.specs.declared.states.Slot.{Slot}
use Rattle.owner_view.specs.States.{slot_at, slot_state, with_told, changes_of, IsSlot}
use Rattle.owner_view.specs.Views.{seen_with}
use Rattle.owner_view.specs.Weights.{weight_at, sum_of, Moves}
use Rattle.owner_view.proofs.Holding.{seen_at}
use Rattle.owner_view.proofs.Stating.{get-changes_of}
use Rattle.owner_view.proofs.Told.{nothing_goes}
use Rattle.owner_view.proofs.Valued.{none_behind}

abbrev Slots : Type 0
Slots = List (ℕ × Slot)

-- the sum over what is seen with the changes in slots
abbrev pub sum_with : (Object → ℕ) → Catalog → Slots → ℕ
sum_with weight M es = sum_of weight (seen_with M (changes_of es))

found_state : (M : Catalog) (s : ℕ) (state : Option Object) (t : ℕ) → get (with_state M s state) t ≡ cond (t == s) state (get M t)
found_state M s None t = found_without M s t
found_state M s (Some object) t = found_with M s object t

-- ---- one slot more

module _ (M : Catalog) where
  -- a change that is put changes what is seen
  seen_put : (c : Changes) (s : ℕ) (state : Option Object) → seen_with M (insert c s state) ≡ with_state (seen_with M c) s state
  seen_put c s state = same_map nat_cmp_total nat_cmp-IsAntisymmetric _ _ (λ t.
      seen_at M (insert c s state) t
      ∙ ap (λ o. unwrap_or o (get M t)) (get-insert nat_cmp_total c s state t ∙ ap (λ (b : Bool). cond b (Some state) (get c t)) (tie t s))
      ∙ by t (t == s)
      ∙ ap (cond (t == s) state) (sym (seen_at M c t))
      ∙ sym (found_state (seen_with M c) s state t))
    where
      by : (t : ℕ) (b : Bool) → unwrap_or (cond b (Some state) (get c t)) (get M t) ≡ cond b state (unwrap_or (get c t) (get M t))
      by t true = refl
      by t false = refl

  module _ (es : Slots) (s : ℕ) (none : slot_at s es ≡ None) where
    untold : get (changes_of es) s ≡ None
    untold = get-changes_of es s ∙ ap (λ (o : Option Slot). given o None slot_state) none

    module _ (weight : Object → ℕ) where
      -- a serial without a slot has the object that was committed
      as_committed : weight_at weight (seen_with M (changes_of es)) s ≡ weight_at weight M s
      as_committed = ap (λ (o : Option Object). given o 0 weight) (seen_at M (changes_of es) s ∙ ap (λ o. unwrap_or o (get M s)) untold)

      -- its weight is part of the sum
      is_part : weight_at weight M s ≤ sum_with weight M es
      is_part = omega (arith, as_committed, total_without weight (seen_with M (changes_of es)) s)

      moves_on : (at : Slot) → Moves weight M s (slot_state at) (sum_with weight M es) (sum_with weight M ((s, at) ∷ es))
      moves_on at = by (slot_state at)
        where
          by : (told : Option (Option Object)) → Moves weight M s told (sum_with weight M es) (sum_of weight (seen_with M (with_told told s (changes_of es))))
          by None = ap (λ (c : Changes). sum_of weight (seen_with M c) + 0) (nothing_goes s (changes_of es) untold)
          by (Some None) = (let put = ap (sum_of weight) (seen_put (changes_of es) s None) in omega (arith, put, as_committed, total_without weight (seen_with M (changes_of es)) s))
          by (Some (Some object)) = (let put = ap (sum_of weight) (seen_put (changes_of es) s (Some object)) in omega (arith, put, as_committed, total_with weight (seen_with M (changes_of es)) s object))

-- ---- the slots from a place on

apart_from : (es : Slots) (i : ℕ) → IsDistinct nat_eq (keys_of es) → IsDistinct nat_eq (keys_of (drop i es))
apart_from es zero apart = apart
apart_from [] (suc i) apart = apart
apart_from (e ∷ es) (suc i) apart = apart_from es i (IsDistinct-tail nat_eq e.0 (keys_of es) apart)

module _ (es : Slots) (apart : IsDistinct nat_eq (keys_of es)) (i s : ℕ) (state : Option (Option Object)) (is : IsSlot es i s state) where
  front : drop i es ≡ (s, is.slot) ∷ drop (i + 1) es
  front = drop_got es i (s, is.slot) is.there

  alone : slot_at s (drop (i + 1) es) ≡ None
  alone =
      let distinct : IsDistinct nat_eq (keys_of ((s, is.slot) ∷ drop (i + 1) es)) = subst (λ (l : Slots). IsDistinct nat_eq (keys_of l)) front (apart_from es i apart) in
      none_behind s (drop (i + 1) es) (IsDistinct-head nat_eq s (keys_of (drop (i + 1) es)) distinct)

  module _ (weight : Object → ℕ) (M : Catalog) (place before : ℕ) (behind : place ≡ i + 1) (so : before ≡ sum_with weight M (drop place es)) where
    so_far : before ≡ sum_with weight M (drop (i + 1) es)
    so_far = so ∙ ap (λ (j : ℕ). sum_with weight M (drop j es)) behind

    -- the object's weight is part of the sum
    pub part_of_sum : weight_at weight M s ≤ before
    part_of_sum = omega (arith, so_far, is_part M (drop (i + 1) es) s alone weight)

    -- the sum with this slot too
    pub turn : (after : ℕ) → Moves weight M s state before after → after ≡ sum_with weight M (drop i es)
    turn after moved =
        let here = moves_on M (drop (i + 1) es) s alone weight is.slot in
        let whole = ap (sum_with weight M) front in
        let old = ap (λ (o : Option (Option Object)). given o 0 (λ _. weight_at weight M s)) is.stands in
        let new = ap (λ (o : Option (Option Object)). given o 0 (λ x. given x 0 weight)) is.stands in
        omega (arith, so_far, moved, here, whole, old, new)

-- without a slot it is the sum over what was committed
pub begins : (weight : Object → ℕ) (M : Catalog) (es : Slots) (place : ℕ) → length es ≤ place → sum_of weight M ≡ sum_with weight M (drop place es)
begins weight M es place none = ap (sum_of weight) (sym nothing_seen) ∙ ap (sum_with weight M) (sym (drop_of_length-le es none))
  where
    nothing_seen : seen_with M (changes_of []) ≡ M
    nothing_seen = same_map nat_cmp_total nat_cmp-IsAntisymmetric _ _ (λ t. seen_at M (changes_of []) t ∙ ap (λ o. unwrap_or o (get M t)) (get-empty nat_cmp t))
