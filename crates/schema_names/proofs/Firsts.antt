-- Names among the first of a table.
use Rattle.std.proofs.Common.{ℕ, zero, suc, ◌+◌, ◌≡◌, List, [], ◌∷◌, take, Option, Some, None, Bool, true, false, cond, refl, ap, subst, ◌∙◌, arith}
use Rattle.std.specs.List.{slice_get}
use Rattle.std.specs.Map.{lookup}

plus : (n : ℕ) → suc n ≡ n + 1
plus n = omega arith

module _ {K X : Type 0} (test : K → Bool) where
  passed : (b : Bool) (x : X) (rest next : Option X) → (rest ≡ None → next ≡ None) → cond b (Some x) rest ≡ None → cond b (Some x) next ≡ None
  passed true x rest next goes none = absurd cc
  passed false x rest next goes none = goes none

  further : (es : List (K × X)) (n : ℕ) (e : K × X) → slice_get es n ≡ Some e → test e.0 ≡ false → lookup test (take n es) ≡ None → lookup test (take (suc n) es) ≡ None
  further [] n e there other none = absurd cc
  further (x ∷ es) zero e there other none = let is : x ≡ e = grind (arith, there) in ap (λ b. cond b (Some x.1) None) (ap (λ (y : K × X). test y.0) is ∙ other)
  further (x ∷ es) (suc n) e there other none = passed (test x.0) x.1 (lookup test (take n es)) (lookup test (take (suc n) es)) (further es n e there other) none

  no_further : (es : List (K × X)) (n : ℕ) → slice_get es n ≡ None → lookup test (take n es) ≡ None → lookup test (take (suc n) es) ≡ None
  no_further [] n past none = refl
  no_further (x ∷ es) zero past none = absurd cc
  no_further (x ∷ es) (suc n) past none = passed (test x.0) x.1 (lookup test (take n es)) (lookup test (take (suc n) es)) (no_further es n past) none

  -- the next one has another key
  pub other_next : (es : List (K × X)) (n : ℕ) (e : K × X) → slice_get es n ≡ Some e → test e.0 ≡ false → lookup test (take n es) ≡ None → lookup test (take (n + 1) es) ≡ None
  other_next es n e there other none = subst (λ k. lookup test (take k es) ≡ None) (plus n) (further es n e there other none)

  -- there is no next one
  pub none_next : (es : List (K × X)) (n : ℕ) → slice_get es n ≡ None → lookup test (take n es) ≡ None → lookup test (take (n + 1) es) ≡ None
  none_next es n past none = subst (λ k. lookup test (take k es) ≡ None) (plus n) (no_further es n past none)
