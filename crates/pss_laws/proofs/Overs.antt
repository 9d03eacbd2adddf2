-- What changes leave of a catalog, serial by serial, and of what two catalogs have in common.
use Rattle.std.proofs.Common.{◌≡◌, ℕ, Bool, true, false, cond, ◌==◌, List, [], ◌∷◌, Option, Some, None, refl, sym, ap, ◌∙◌}
use Rattle.std.specs.Prelude.{◌||◌, unwrap_or}
use Rattle.std.specs.FinMap.{get}
use Rattle.type_layout.specs.declared.schema.Schema.{Schema}
use Rattle.type_layout.specs.Schemas.{given}
use Rattle.pss_catalog.specs.Catalog.{Object, Catalog, holds}
use Rattle.pss_catalog.specs.Changes.{Change, over, last_state}
use Rattle.pss_catalog.proofs.Uniqueness.{found_over}
use Rattle.pss_machine.specs.declared.lock.Resource.{Resource}
use Rattle.pss_machine.specs.declared.lock.Resource.TheVariants as resource
use Rattle.pss_laws.specs.Alike.{home_where, is_of_home, Alike}
use Rattle.pss_laws.specs.Within.{is_changed}

-- what is not changed has no last state
pub unchanged : (cs : List Change) (t : ℕ) → is_changed cs t ≡ false → last_state cs t ≡ None
unchanged [] t e = refl
unchanged (c ∷ cs) t e = by_head (c.serial == t) e (unchanged cs t)
  where
    by_head : (b : Bool) → (b || is_changed cs t) ≡ false → (is_changed cs t ≡ false → last_state cs t ≡ None) → given (last_state cs t) (cond b (Some c.state) None) Some ≡ None
    by_head true e rest = absurd cc
    by_head false e rest = ap (λ o. given o None Some) (rest e)

-- what is not changed is as it was
pub unchanged_there : (M : Catalog) (cs : List Change) (t : ℕ) → is_changed cs t ≡ false → get (over M cs) t ≡ get M t
unchanged_there M cs t e = found_over M cs t ∙ ap (λ o. unwrap_or o (get M t)) (unchanged cs t e)

pub alike_over : {A : Type 0} (f : Option Object → A) (M N : Catalog) (cs : List Change) (t : ℕ) → f (get M t) ≡ f (get N t) → f (get (over M cs) t) ≡ f (get (over N cs) t)
alike_over f M N cs t e = ap f (found_over M cs t) ∙ by_last (last_state cs t) ∙ sym (ap f (found_over N cs t))
  where
    by_last : (o : Option (Option Object)) → f (unwrap_or o (get M t)) ≡ f (unwrap_or o (get N t))
    by_last None = e
    by_last (Some x) = refl

module _ (S : Schema) where
  pub alike_itself : (M : Catalog) (r : Resource) → Alike S M M r
  alike_itself M (resource.Object s) = refl
  alike_itself M (resource.Key k bytes) = λ t. refl
  alike_itself M (resource.Extent h) = λ t. refl

  pub alike_then : (M N O : Catalog) (r : Resource) → Alike S M N r → Alike S N O r → Alike S M O r
  alike_then M N O (resource.Object s) p q = p ∙ q
  alike_then M N O (resource.Key k bytes) p q = λ t. p t ∙ q t
  alike_then M N O (resource.Extent h) p q = λ t. p t ∙ q t

  pub alike_after : (M N : Catalog) (cs : List Change) (r : Resource) → Alike S M N r → Alike S (over M cs) (over N cs) r
  alike_after M N cs (resource.Object s) p = alike_over (λ o. o) M N cs s p
  alike_after M N cs (resource.Key k bytes) p = λ t. alike_over (home_where (holds S (record { 0 = k }) bytes)) M N cs t (p t)
  alike_after M N cs (resource.Extent h) p = λ t. alike_over (home_where (is_of_home h)) M N cs t (p t)

-- changes do to N what they do to M, where both have the same objects at the serials that change
moved : {A : Type 0} (f : Option Object → A) (M N : Catalog) (cs : List Change) (t : ℕ) (b : Bool) → is_changed cs t ≡ b → (b ≡ true → get M t ≡ get N t) → f (get M t) ≡ f (get (over M cs) t) → f (get N t) ≡ f (get (over N cs) t)
moved f M N cs t true is same e = ap f (sym (same refl)) ∙ e ∙ alike_over f M N cs t (ap f (same refl))
moved f M N cs t false is same e = ap f (sym (unchanged_there N cs t is))

pub left_alike : (S : Schema) (M N : Catalog) (cs : List Change) (r : Resource) → ((t : ℕ) → is_changed cs t ≡ true → get M t ≡ get N t) → Alike S M (over M cs) r → Alike S N (over N cs) r
left_alike S M N cs (resource.Object s) same p = moved (λ o. o) M N cs s (is_changed cs s) refl (same s) p
left_alike S M N cs (resource.Key k bytes) same p = λ t. moved (home_where (holds S (record { 0 = k }) bytes)) M N cs t (is_changed cs t) refl (same t) (p t)
left_alike S M N cs (resource.Extent h) same p = λ t. moved (home_where (is_of_home h)) M N cs t (is_changed cs t) refl (same t) (p t)
