-- How changes follow the states that stand at serials.
use Rattle.std.proofs.Common.{ℕ, ◌≡◌, List, [], ◌∷◌, Option, Some, None, Bool, true, false, cond, ◌==◌, refl, sym, ap, ◌∙◌}
use Rattle.std.specs.Ordering.{nat_cmp, eq_by_cmp}
use Rattle.std.specs.Cmp.{nat_cmp_total, nat_eq_equiv}
use Rattle.std.specs.FinMap.{get, get-empty, get-insert, get-remove, same_map, nat_cmp-IsAntisymmetric}
use Rattle.type_layout.specs.Schemas.{given}
use Rattle.pss_catalog.specs.Catalog.{Object}
use Rattle.pss_catalog.proofs.Listing.{tie}
use Rattle.pss_machine.specs.Changes.{Changes}
use Rattle.owner_view.specs.declared.states.Slot.{Slot}
use Rattle.owner_view.specs.States.{slot_state, slot_at, state_at, KeepsStates, TurnsState, with_told, changes_of}

get-with_told : (state : Option (Option Object)) (s q : ℕ) (c : Changes) → get (with_told state s c) q ≡ cond (eq_by_cmp nat_cmp q s) state (get c q)
get-with_told None s q c = get-remove nat_cmp_total c s q
get-with_told (Some state) s q c = get-insert nat_cmp_total c s state q

pub cond-state : (b : Bool) (x y : Option Slot) → given (cond b x y) None slot_state ≡ cond b (given x None slot_state) (given y None slot_state)
cond-state true x y = refl
cond-state false x y = refl

pub get-changes_of : (es : List (ℕ × Slot)) (q : ℕ) → get (changes_of es) q ≡ state_at q es
get-changes_of [] q = get-empty nat_cmp q
get-changes_of (e ∷ es) q =
    get-with_told (slot_state e.1) e.0 q (changes_of es) ∙ ap (λ (b : Bool). cond b (slot_state e.1) (get (changes_of es) q)) (tie q e.0) ∙ ap (cond (q == e.0) (slot_state e.1)) (get-changes_of es q)
    ∙ sym (cond-state (q == e.0) (Some e.1) (slot_at q es))

turned_tie : (s q : ℕ) → (s == q) ≡ eq_by_cmp nat_cmp q s
turned_tie s q = nat_eq_equiv.symm s q ∙ sym (tie q s)

pub changes_kept : (old new : List (ℕ × Slot)) → KeepsStates old new → changes_of new ≡ changes_of old
changes_kept old new keeps = same_map nat_cmp_total nat_cmp-IsAntisymmetric _ _ (λ q. get-changes_of new q ∙ keeps q ∙ sym (get-changes_of old q))

pub changes_turned : (old new : List (ℕ × Slot)) (s : ℕ) (state : Option (Option Object)) → TurnsState old new s state → changes_of new ≡ with_told state s (changes_of old)
changes_turned old new s state turns = same_map nat_cmp_total nat_cmp-IsAntisymmetric _ _ (λ q.
    get-changes_of new q ∙ turns q ∙ ap (λ (b : Bool). cond b state (state_at q old)) (turned_tie s q) ∙ ap (cond (eq_by_cmp nat_cmp q s) state) (sym (get-changes_of old q)) ∙ sym (get-with_told state s q (changes_of old)))
