-- What some entry of a finite map passes, by what the map answers.
use Rattle.std.proofs.Common.{◌≡◌, List, [], ◌∷◌, Some, Bool, true, false, cond, refl, sym, ap, ◌∙◌}
use Rattle.std.specs.Prelude.{◌||◌, ◌&&◌}
use Rattle.std.specs.List.{list_any}
use Rattle.std.specs.declared.cmp.Ordering.{Ordering}
use Rattle.std.specs.Ordering.{eq_by_cmp, is_lt}
use Rattle.std.specs.Cmp.{IsTotalOrder, tied_itself, Equal-is}
use Rattle.std.specs.FinMap.{IsAntisymmetric, find}
use Rattle.std.specs.FinMap.Entries.{below_all, is_sorted}
use Rattle.lock_table.proofs.Keyed.{no_value, one_value}

pub or_true : (a b : Bool) → b ≡ true → (a || b) ≡ true
or_true true b e = refl
or_true false b e = e

pub both_true : (a b : Bool) → (a && b) ≡ true → (a ≡ true) × (b ≡ true)
both_true true b e = (refl, e)
both_true false b e = absurd (cc)

module _ {K : Type 0} {R : K → K → Ordering} (total : IsTotalOrder R) (exact : IsAntisymmetric R) where
  pub tied : (a b : K) → eq_by_cmp R a b ≡ true → a ≡ b
  tied a b e = exact a b ((Equal-is (R a b)).0 e)

  self : (a : K) → eq_by_cmp R a a ≡ true
  self a = (Equal-is (R a a)).1 (tied_itself total a)

  pub not_above_itself : (x : K) → is_lt (R x x) ≡ true → ⊥
  not_above_itself x e = let h : is_lt (R x x) ≡ false = ap is_lt (tied_itself total x) in absurd (cc)

  -- a key that stands in the rest is above
  pub above : {X : Type 0} (x : K) (es : List (K × X)) (k : K) (v : X) → below_all R x es ≡ true → find R k es ≡ Some v → is_lt (R x k) ≡ true
  above x [] k v b f = no_value v f
  above {X} x (e ∷ es) k v b f = by (eq_by_cmp R k e.0) refl f (above x es k v (both_true (is_lt (R x e.0)) (below_all R x es) b).1)
    where
      by : (t : Bool) → eq_by_cmp R k e.0 ≡ t → cond t (Some e.1) (find R k es) ≡ Some v → (find R k es ≡ Some v → is_lt (R x k) ≡ true) → is_lt (R x k) ≡ true
      by true is h rest = ap (λ y. is_lt (R x y)) (tied k e.0 is) ∙ (both_true (is_lt (R x e.0)) (below_all R x es) b).0
      by false is h rest = rest h

  module _ {X : Type 0} (test : K × X → Bool) where
    -- one that the map answers
    pub any_found : (es : List (K × X)) (k : K) (v : X) → find R k es ≡ Some v → test (k, v) ≡ true → list_any test es ≡ true
    any_found [] k v f t = no_value v f
    any_found (e ∷ es) k v f t = by (eq_by_cmp R k e.0) refl f (any_found es k v)
      where
        by : (b : Bool) → eq_by_cmp R k e.0 ≡ b → cond b (Some e.1) (find R k es) ≡ Some v → (find R k es ≡ Some v → test (k, v) ≡ true → list_any test es ≡ true) → (test e || list_any test es) ≡ true
        by true is h rest = ap (λ b. b || list_any test es) ((λ i. test (sym (tied k e.0 is) i, one_value h i)) ∙ t)
        by false is h rest = or_true (test e) (list_any test es) (rest h t)

    pub record Found (es : List (K × X)) : Type 0 where
      pub key : K
      pub value : X
      pub at : find R key es ≡ Some value
      pub passes : test (key, value) ≡ true

    -- one that the list has is one that the map answers
    pub found_any : (es : List (K × X)) → is_sorted R es ≡ true → list_any test es ≡ true → Found es
    found_any [] s a = absurd (cc)
    found_any (e ∷ es) s a = by (test e) refl a (found_any es (both_true (below_all R e.0 es) (is_sorted R es) s).1)
      where
        later : Found es → Found (e ∷ es)
        later f = record { key = f.key; value = f.value; at = other f (eq_by_cmp R f.key e.0) refl; passes = f.passes }
          where
            other : (f : Found es) (t : Bool) → eq_by_cmp R f.key e.0 ≡ t → cond t (Some e.1) (find R f.key es) ≡ Some f.value
            other f true is = absurd (not_above_itself e.0 (ap (λ y. is_lt (R e.0 y)) (sym (tied f.key e.0 is)) ∙ above e.0 es f.key f.value (both_true (below_all R e.0 es) (is_sorted R es) s).0 f.at))
            other f false is = f.at

        by : (b : Bool) → test e ≡ b → (b || list_any test es) ≡ true → (list_any test es ≡ true → Found es) → Found (e ∷ es)
        by true is h rest = record { key = e.0; value = e.1; at = ap (λ b. cond b (Some e.1) (find R e.0 es)) (self e.0); passes = is }
        by false is h rest = later (rest h)
