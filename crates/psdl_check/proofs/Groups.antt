-- The masks that are kept of groups.
use Rattle.std.proofs.Common.{◌≡◌, ◌∙◌, ℕ, List, [], Bool, true, ◌==◌, Option, None, Some, cond, ◌<◌, length, get_or, refl, sym, ap, subst, ⊎_elim, get_or-set_same, get_or-set_other}
use Rattle.std.specs.Option.{is_some, option_map, IfSome}
use Rattle.std.specs.declared.vec.Vec.{Vec}
use Rattle.std.proofs.Math.ListN.{set}
use Rattle.std.proofs.lemmas.Bool.{cases_Bool, cases_eq, eqb-true, eq-eqb, ne_eqb}
use Rattle.type_layout.specs.Schemas.{given}
use Rattle.psdl_directory.specs.Declarations.{Declaration}
use Rattle.psdl_check.specs.declared.heirs.Heirs.{Heirs}
use Rattle.psdl_check.specs.inner.Masks.{IsGroup, AreGroups, group_at, masks_in}

-- what is there is right
pub group_kept : (all : List Declaration) (heirs : Heirs) (group : ℕ) → AreGroups all heirs → is_some (group_at heirs group) ≡ true → IsGroup all group (masks_in heirs group)
group_kept all heirs group are there = by (group_at heirs group) (are group) there
  where
    by : (o : Option (List ℕ)) → IfSome o (IsGroup all group) → is_some o ≡ true → IsGroup all group (given o [] (λ masks. masks))
    by None right there = absurd (cc)
    by (Some masks) right there = right

pub groups_same : (all : List Declaration) (old new : Heirs) → ((n : ℕ) → group_at new n ≡ group_at old n) → AreGroups all old → AreGroups all new
groups_same all old new same are n = subst (λ (o : Option (List ℕ)). IfSome o (IsGroup all n)) (sym (same n)) (are n)

-- a group was put
abbrev pub IsPut : Heirs → Heirs → ℕ → List ℕ → Type 0
IsPut old new group masks = (n : ℕ) → group_at new n ≡ cond (n == group) (Some masks) (group_at old n)

pub groups_put : (all : List Declaration) (old new : Heirs) (group : ℕ) (masks : List ℕ) → IsPut old new group masks → AreGroups all old → IsGroup all group masks → AreGroups all new
groups_put all old new group masks put are right n = ⊎_elim
    (λ here.
    subst (λ (o : Option (List ℕ)). IfSome o (IsGroup all n)) (sym (put n ∙ ap (λ (b : Bool). cond b (Some masks) (group_at old n)) here))
    (subst (λ (g : ℕ). IsGroup all g masks) (sym (eqb-true n group here)) right))
    (λ other. subst (λ (o : Option (List ℕ)). IfSome o (IsGroup all n)) (sym (put n ∙ ap (λ (b : Bool). cond b (Some masks) (group_at old n)) other)) (are n))
    (cases_Bool (n == group))

pub group_put : (all : List Declaration) (old new : Heirs) (group : ℕ) (masks : List ℕ) → IsPut old new group masks → IsGroup all group masks → IsGroup all group (masks_in new group)
group_put all old new group masks put right =
    let is : group_at new group ≡ Some masks = put group ∙ ap (λ (b : Bool). cond b (Some masks) (group_at old group)) (eq-eqb group group refl) in
    subst (λ (o : Option (List ℕ)). IsGroup all group (given o [] (λ ms. ms))) (sym is) right

-- a place has its masks, and all others stay
pub slot_put : {A : Type 0} (xs : List (Option (Vec ℕ A))) (i n : ℕ) (v : Vec ℕ A) → i < length xs
    → option_map (λ w. w.items) (get_or (set xs i (Some v)) n None) ≡ cond (n == i) (Some v.items) (option_map (λ w. w.items) (get_or xs n None))
slot_put {A} xs i n v lt = ⊎_elim
    (λ same.
    ap (λ (m : ℕ). option_map (λ (w : Vec ℕ A). w.items) (get_or (set xs i (Some v)) m None)) same
    ∙ ap (option_map (λ (w : Vec ℕ A). w.items)) (get_or-set_same xs i (Some v) None lt)
    ∙ sym (ap (λ (b : Bool). cond b (Some v.items) (option_map (λ (w : Vec ℕ A). w.items) (get_or xs n None))) (eq-eqb n i same)))
    (λ differ.
    ap (option_map (λ (w : Vec ℕ A). w.items)) (get_or-set_other xs i n (Some v) None differ)
    ∙ sym (ap (λ (b : Bool). cond b (Some v.items) (option_map (λ (w : Vec ℕ A). w.items) (get_or xs n None))) (ne_eqb n i differ)))
    (cases_eq n i)
