-- What an owner has not changed it sees as it is committed.
use Rattle.std.proofs.Common.{◌≡◌, ℕ, Bool, true, false, cond, ◌==◌, List, [], ◌∷◌, map, Option, Some, None, refl, sym, ap, ◌∙◌}
use Rattle.std.specs.Prelude.{T, is_some, unwrap_or, if◌then◌else◌}
use Rattle.std.specs.Ordering.{nat_cmp, eq_by_cmp}
use Rattle.std.specs.FinMap as finite
use Rattle.std.specs.FinMap.{get, entries, get-entries, entries_sorted, is_sorted}
use Rattle.std.specs.Cmp.{nat_eq_equiv}
use Rattle.pss_base.specs.declared.pid.Pid.{Pid}
use Rattle.type_layout.specs.Schemas.{given}
use Rattle.pss_catalog.specs.Catalog.{Object, Catalog, has}
use Rattle.pss_catalog.specs.Changes.{last_state}
use Rattle.pss_catalog.proofs.Uniqueness.{found_over}
use Rattle.pss_machine.specs.Changes.{Changes, change_of, listed}
use Rattle.pss_machine.specs.Alone.{object_of}
use Rattle.pss_machine.specs.Owners.{Owner, view, has_changed}
use Rattle.pss_machine.specs.Copies.{values_at}
use Rattle.pss_machine.proofs.Maps.{tie, tied}
use Rattle.pss_machine.proofs.Found.{first, second, below_missed}

last_entries : (t : ℕ) (es : List (ℕ × Option Object)) → T (is_sorted nat_cmp es) → last_state (map change_of es) t ≡ finite.find nat_cmp t es
last_entries t [] h = refl
last_entries t (e ∷ es) h =
    ap (λ o. given o (cond (e.0 == t) (Some e.1) None) Some) (last_entries t es (second _ _ h))
    ∙ by_place (eq_by_cmp nat_cmp t e.0) refl
  where
    all_same : (o : Option (Option Object)) → given o None Some ≡ o
    all_same None = refl
    all_same (Some x) = refl

    back : (b : Bool) → eq_by_cmp nat_cmp t e.0 ≡ b → (e.0 == t) ≡ b
    back b is = nat_eq_equiv.symm e.0 t ∙ sym (tie t e.0) ∙ is

    by_place : (b : Bool) → eq_by_cmp nat_cmp t e.0 ≡ b → given (finite.find nat_cmp t es) (cond (e.0 == t) (Some e.1) None) Some ≡ cond b (Some e.1) (finite.find nat_cmp t es)
    by_place true is = ap (λ o. given o (cond (e.0 == t) (Some e.1) None) Some) (below_missed e.0 t es (tied t e.0 is) (first _ _ h)) ∙ ap (λ (b : Bool). cond b (Some e.1) None) (back true is)
    by_place false is = ap (λ (b : Bool). given (finite.find nat_cmp t es) (cond b (Some e.1) None) Some) (back false is) ∙ all_same (finite.find nat_cmp t es)

last_listed : (c : Changes) (t : ℕ) → last_state (listed c) t ≡ get c t
last_listed c t = last_entries t (entries c) (entries_sorted c) ∙ sym (get-entries c t)

pub view_unchanged : (M : Catalog) (owner : Owner) (t : ℕ) → has_changed owner t ≡ false → get (view M owner) t ≡ get M t
view_unchanged M owner t e = found_over M (listed owner.changes) t ∙ ap (λ o. unwrap_or o (get M t)) (last_listed owner.changes t ∙ none (get owner.changes t) e)
  where
    none : (o : Option (Option Object)) → is_some o ≡ false → o ≡ None
    none None e = refl
    none (Some x) e = absurd cc

-- ---- objects that are there

abbrev pub There : Catalog → Pid → Type 0
There M p = is_some (object_of M p) ≡ true

pub has_there : (M : Catalog) (p : Pid) → has M p ≡ true → There M p
has_there M p e = by (get M p.serial) e
  where
    by_home : (object : Object) (b : Bool) → b ≡ true → is_some (if b then Some object else None) ≡ true
    by_home object true e = refl
    by_home object false e = absurd cc

    by : (o : Option Object) → given o false (λ object. object.home.0 == p.home) ≡ true → is_some (given o None (λ object. if object.home.0 == p.home then Some object else None)) ≡ true
    by None e = absurd cc
    by (Some object) e = by_home object (object.home.0 == p.home) e

-- what an owner sees and has not changed is committed
pub there_unchanged : (M : Catalog) (owner : Owner) (p : Pid) → has_changed owner p.serial ≡ false → There (view M owner) p → There M p
there_unchanged M owner p e there = ap (λ o. is_some (given o None (λ (object : Object). if object.home.0 == p.home then Some object else None))) (sym (view_unchanged M owner p.serial e)) ∙ there

pub values_there : (M : Catalog) (p : Pid) → There M p → is_some (values_at M p) ≡ true
values_there M p there = by (object_of M p) there
  where
    by : (o : Option Object) → is_some o ≡ true → is_some (given o None (λ object. Some object.values)) ≡ true
    by None e = absurd cc
    by (Some object) e = refl
