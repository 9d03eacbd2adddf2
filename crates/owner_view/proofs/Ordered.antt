-- Slots by the order of their serials.
use Rattle.std.proofs.Common.{ℕ, suc, ◌≡◌, ◌<◌, ◌≤◌, ◌+◌, ◌==◌, Bool, true, false, cond, List, [], ◌∷◌, length, drop, get_or, Option, Some, None, IsSome, refl, eq-eqb, sym, ap, subst, ◌∙◌, arith, zero, add-one}
use Rattle.std.specs.Prelude.{is_some, nat_eq, ◌||◌, slice_get}
use Rattle.std.specs.List.{list_any, IsDistinct}
use Rattle.std.specs.List.Sorted.{IsPermutation, IsSorted, IsNonDecreasing}
use Rattle.std.specs.Map.{keys_of}
use Rattle.std.specs.Ordering.{nat_cmp}
use Rattle.std.proofs.lemmas.Bool.Decides.{nat_tests}
use Rattle.std.proofs.lemmas.List.Sorted.{IsNonDecreasingBy-from_sort, list_any-IsPermutation}
use Rattle.std.proofs.lemmas.Map.Keys.{IsDistinct-head, IsDistinct-tail, IsDistinct-IsPermutation}
use Rattle.std.specs.FinMap.{get}
use Rattle.type_layout.specs.Schemas.{given}
use Rattle.pss_catalog.specs.Catalog.{Object}
use Rattle.pss_machine.specs.Changes.{listed}
use Rattle.owner_view.specs.declared.states.Slot.{Slot}
use Rattle.owner_view.specs.declared.states.Slot.TheVariants as slot
use Rattle.owner_view.specs.States.{slot_at, slot_state, state_at, changes_of, KeepsStates, Rise, AreInOrder}
use Rattle.owner_view.proofs.Stating.{get-changes_of, changes_kept}
use Rattle.owner_view.proofs.Told.{told_in, SlotsRise, listed_told}

-- ---- sorted serials

above : (s t : ℕ) → s ≤ t → (s == t) ≡ false → s + 1 ≤ t
above s t le apart = grind (arith, nat_tests)

rise_from : (least s : ℕ) (ss : List ℕ) → least ≤ s → IsNonDecreasing (s ∷ ss) → IsDistinct nat_eq (s ∷ ss) → Rise least (s ∷ ss)
rise_from least s [] le sorted apart = (le, tt)
rise_from least s (t ∷ ts) le sorted apart =
    (le, rise_from (s + 1) t ts (above s t (sorted 0 1 0 (omega arith) (omega arith)) (IsDistinct-head nat_eq s (t ∷ ts) apart).0) (λ i j d low high. sorted (suc i) (suc j) d (omega (arith, low)) (omega (arith, high))) (IsDistinct-tail nat_eq s (t ∷ ts) apart))

rise_of : (ss : List ℕ) → IsNonDecreasing ss → IsDistinct nat_eq ss → Rise 0 ss
rise_of [] sorted apart = tt
rise_of (s ∷ ss) sorted apart = rise_from 0 s ss (omega arith) sorted apart

listed_key : (q : ℕ) (es : List (ℕ × Slot)) → list_any (λ t. q == t) (keys_of es) ≡ is_some (slot_at q es)
listed_key q [] = refl
listed_key q (e ∷ es) = by (q == e.0) (listed_key q es)
  where
    by : (b : Bool) → list_any (λ t. q == t) (keys_of es) ≡ is_some (slot_at q es) → (b || list_any (λ t. q == t) (keys_of es)) ≡ is_some (cond b (Some e.1) (slot_at q es))
    by true rest = refl
    by false rest = rest

-- a slot alone is in order
pub alone : (es : List (ℕ × Slot)) (s : ℕ) (at : Slot) → length es ≡ 1 → Some (s, at) ≡ slice_get es 0 → AreInOrder es (s ∷ [])
alone [] s at one there = absurd (omega (arith, one))
alone (e ∷ []) s at one there =
    let same : s ≡ e.0 = ap (λ (o : Option (ℕ × Slot)). given o 0 (λ x. x.0)) there in
    record {
      rise = (omega arith, tt);
      all = λ q. subst (λ (n : ℕ). list_any (λ t. q == t) (n ∷ []) ≡ is_some (slot_at q (e ∷ []))) (sym same) (listed_key q (e ∷ []));
    }
alone (e ∷ f ∷ fs) s at one there = absurd (omega (arith, one))

flips : (x y : ℕ) → nat_eq x y ≡ nat_eq y x
flips x y = grind (arith, nat_tests)

pub ordered : (es : List (ℕ × Slot)) (ss ts : List ℕ) → ss ≡ keys_of es → IsDistinct nat_eq (keys_of es) → IsPermutation ss ts → IsSorted nat_cmp ts → AreInOrder es ts
ordered es ss ts are apart moved sorted =
    let from : IsPermutation (keys_of es) ts = subst (λ (l : List ℕ). IsPermutation l ts) are moved in
    record {
      rise = rise_of ts (IsNonDecreasingBy-from_sort (λ x. x) ts sorted) (IsDistinct-IsPermutation nat_eq flips (keys_of es) ts from apart);
      all = λ q. sym (list_any-IsPermutation (λ t. q == t) (keys_of es) ts from) ∙ listed_key q es;
    }

-- ---- their slots

abbrev pub slot_or : List (ℕ × Slot) → ℕ → Slot
slot_or es s = given (slot_at s es) slot.Reserved (λ x. x)

abbrev pub slots_of : List (ℕ × Slot) → List ℕ → List (ℕ × Slot)
slots_of es [] = []
slots_of es (s ∷ ss) = (s, slot_or es s) ∷ slots_of es ss

pub state_or : (es : List (ℕ × Slot)) (s : ℕ) → slot_state (slot_or es s) ≡ state_at s es
state_or es s = by (slot_at s es)
  where
    by : (o : Option Slot) → slot_state (given o slot.Reserved (λ x. x)) ≡ given o None slot_state
    by None = refl
    by (Some x) = refl

pub slots_rise : (es : List (ℕ × Slot)) (n : ℕ) (ss : List ℕ) → Rise n ss → SlotsRise n (slots_of es ss)
slots_rise es n [] rise = tt
slots_rise es n (s ∷ ss) rise = (rise.0, slots_rise es (s + 1) ss rise.1)

pub slots_len : (es : List (ℕ × Slot)) (ss : List ℕ) → length (slots_of es ss) ≡ length ss
slots_len es [] = refl
slots_len es (s ∷ ss) = ap suc (slots_len es ss)

is_it : (q s : ℕ) → (q == s) ≡ true → q ≡ s
is_it q s e = grind (arith, nat_tests)

at_slots : (es : List (ℕ × Slot)) (q : ℕ) (ss : List ℕ) → slot_at q (slots_of es ss) ≡ cond (list_any (λ t. q == t) ss) (Some (slot_or es q)) None
at_slots es q [] = refl
at_slots es q (s ∷ ss) = by (q == s) refl (at_slots es q ss)
  where
    by : (b : Bool) → (q == s) ≡ b → slot_at q (slots_of es ss) ≡ cond (list_any (λ t. q == t) ss) (Some (slot_or es q)) None → cond b (Some (slot_or es s)) (slot_at q (slots_of es ss)) ≡ cond (b || list_any (λ t. q == t) ss) (Some (slot_or es q)) None
    by true is rest = ap (λ (t : ℕ). Some (slot_or es t)) (sym (is_it q s is))
    by false is rest = rest

found_slots : (es : List (ℕ × Slot)) (q : ℕ) → cond (is_some (slot_at q es)) (Some (slot_or es q)) None ≡ slot_at q es
found_slots es q = by (slot_at q es)
  where
    by : (o : Option Slot) → cond (is_some o) (Some (given o slot.Reserved (λ x. x))) None ≡ o
    by None = refl
    by (Some x) = refl

module _ (es : List (ℕ × Slot)) (ss : List ℕ) (order : AreInOrder es ss) where
  pub keeps : KeepsStates es (slots_of es ss)
  keeps q = ap (λ (o : Option Slot). given o None slot_state) (at_slots es q ss ∙ ap (λ (b : Bool). cond b (Some (slot_or es q)) None) (order.all q) ∙ found_slots es q)

  -- the changes are those of the slots in their order
  pub listed_slots : listed (changes_of es) ≡ told_in (slots_of es ss)
  listed_slots = ap listed (sym (changes_kept es (slots_of es ss) keeps)) ∙ listed_told 0 (slots_of es ss) (slots_rise es 0 ss order.rise)

-- ---- one after the other

next_slot : (es : List (ℕ × Slot)) (ss : List ℕ) (i : ℕ) → i < length ss → slots_of es (drop i ss) ≡ (get_or ss i 0, slot_or es (get_or ss i 0)) ∷ slots_of es (drop (suc i) ss)
next_slot es [] i lt = absurd (omega (arith, lt))
next_slot es (s ∷ ss) zero lt = refl
next_slot es (s ∷ ss) (suc i) lt = next_slot es ss i (omega (arith, lt))

-- what stands at the serials from a place on
abbrev pub rest : List (ℕ × Slot) → List ℕ → ℕ → List (ℕ × Slot)
rest es ss i = slots_of es (drop i ss)

abbrev pub here : List (ℕ × Slot) → List ℕ → ℕ → ℕ × Slot
here es ss i = (get_or ss i 0, slot_or es (get_or ss i 0))

pub turns : (es : List (ℕ × Slot)) (ss : List ℕ) (i : ℕ) → i < length ss → rest es ss i ≡ here es ss i ∷ rest es ss (i + 1)
turns es ss i lt = next_slot es ss i lt ∙ ap (λ (n : ℕ). here es ss i ∷ rest es ss n) (sym (add-one i))

no_more : (ss : List ℕ) (i : ℕ) → length ss ≤ i → drop i ss ≡ []
no_more [] zero le = refl
no_more [] (suc i) le = refl
no_more (s ∷ ss) zero le = absurd (omega (arith, le))
no_more (s ∷ ss) (suc i) le = no_more ss i (omega (arith, le))

pub ends : (es : List (ℕ × Slot)) (ss : List ℕ) (i : ℕ) → length ss ≤ i → rest es ss i ≡ []
ends es ss i le = ap (slots_of es) (no_more ss i le)

-- what is told of a serial is what its slot says
pub told_slot : (es : List (ℕ × Slot)) (s : ℕ) (o : Option (Option Object)) → o ≡ get (changes_of es) s → o ≡ slot_state (slot_or es s)
told_slot es s o is = is ∙ get-changes_of es s ∙ sym (state_or es s)

-- ---- a place is reserved

pub reserved_keeps : (old new : List (ℕ × Slot)) (s : ℕ) → slot_at s old ≡ None → ((q : ℕ) → slot_at q new ≡ cond (s == q) (Some slot.Reserved) (slot_at q old)) → KeepsStates old new
reserved_keeps old new s none put q = ap (λ (o : Option Slot). given o None slot_state) (put q) ∙ by (s == q) refl
  where
    by : (b : Bool) → (s == q) ≡ b → given (cond b (Some slot.Reserved) (slot_at q old)) None slot_state ≡ state_at q old
    by true is = sym (ap (λ (o : Option Slot). given o None slot_state) (ap (λ (t : ℕ). slot_at t old) (sym (is_it s q is)) ∙ none))
    by false is = refl

-- a serial that was reserved has a slot
pub slot_reserved : (old new : List (ℕ × Slot)) (s : ℕ) → ((q : ℕ) → slot_at q new ≡ cond (s == q) (Some slot.Reserved) (slot_at q old)) → IsSome (slot_at s new)
slot_reserved old new s put = subst IsSome (sym (put s ∙ ap (λ (b : Bool). cond b (Some slot.Reserved) (slot_at s old)) (eq-eqb s s refl))) refl
