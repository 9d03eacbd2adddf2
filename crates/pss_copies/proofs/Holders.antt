-- What is counted is found.
use Rattle.std.proofs.Common.{arith, ◌≡◌, ◌<◌, Bool, true, false, cond, List, [], ◌∷◌, length, Some, refl, sym, ap, ◌∙◌, subst}
use Rattle.std.specs.Prelude.{filter, ◌&&◌}
use Rattle.std.proofs.Math.Dec.{T}
use Rattle.std.specs.declared.cmp.Ordering.{Ordering}
use Rattle.std.specs.declared.cmp.Ordering.TheVariants.{Less, Equal, Greater}
use Rattle.std.specs.Ordering.{eq_by_cmp, is_eq, is_lt}
use Rattle.std.specs.FinMap as finite
use Rattle.std.specs.FinMap.{FinMap, entries, entries_sorted, is_sorted, get, get-entries}
use Rattle.std.specs.FinMap.Entries.{below_all}
use Rattle.recent_table.specs.Maps.{count}
use Rattle.recent_table.proofs.Maps.{IsKey, tie_self, tied}

module _ {K X : Type 0} {R : K → K → Ordering} (key : IsKey R) (test : K × X → Bool) where
  -- a thing in a list that passes
  record In (es : List (K × X)) : Type 0 where
    at : K
    thing : X
    there : finite.find R at es ≡ Some thing
    passes : test (at, thing) ≡ true

  split : (a b : Bool) → T (a && b) → T a × T b
  split true b h = (tt, h)
  split false b h = absurd h

  lower : (k : K) (es : List (K × X)) → T (below_all R k es) → (q : K) (x : X) → finite.find R q es ≡ Some x → T (is_lt (R k q))
  lower k [] below q x e = absurd cc
  lower k (y ∷ es) below q x e = let s = split (is_lt (R k y.0)) (below_all R k es) below in by (eq_by_cmp R q y.0) refl s.0 e (λ e. lower k es s.1 q x e)
    where
      by : (b : Bool) → eq_by_cmp R q y.0 ≡ b → T (is_lt (R k y.0)) → cond b (Some y.1) (finite.find R q es) ≡ Some x → (finite.find R q es ≡ Some x → T (is_lt (R k q))) → T (is_lt (R k q))
      by true is lt e rest = subst (λ z. T (is_lt (R k z))) (sym (tied key q y.0 is)) lt
      by false is lt e rest = rest e

  not_tied : (k q : K) → T (is_lt (R k q)) → eq_by_cmp R q k ≡ false
  not_tied k q lt = by (eq_by_cmp R q k) refl
    where
      no : (r : Ordering) → is_eq r ≡ true → T (is_lt r) → ⊥
      no Less e lt = absurd cc
      no Equal e lt = lt
      no Greater e lt = absurd cc

      by : (b : Bool) → eq_by_cmp R q k ≡ b → b ≡ false
      by true is = absurd (no (R k q) (ap (eq_by_cmp R k) (tied key q k is) ∙ tie_self key k) lt)
      by false is = refl

  find_in : (es : List (K × X)) → T (is_sorted R es) → 0 < length (filter test es) → In es
  find_in [] sorted some = absurd (omega (arith, some))
  find_in (e ∷ es) sorted some = by (test e) refl some (λ less. find_in es s.1 less)
    where
      s : T (below_all R e.0 es) × T (is_sorted R es)
      s = split (below_all R e.0 es) (is_sorted R es) sorted

      tail : In es → In (e ∷ es)
      tail i = record { at = i.at; thing = i.thing; there = ap (λ b. cond b (Some e.1) (finite.find R i.at es)) (not_tied e.0 i.at (lower e.0 es s.0 i.at i.thing i.there)) ∙ i.there; passes = i.passes }

      by : (b : Bool) → test e ≡ b → 0 < length (cond b (e ∷ filter test es) (filter test es)) → (0 < length (filter test es) → In es) → In (e ∷ es)
      by true is some rest = record { at = e.0; thing = e.1; there = ap (λ b. cond b (Some e.1) (finite.find R e.0 es)) (tie_self key e.0); passes = is }
      by false is some rest = tail (rest some)

-- a thing in a map that passes
pub record Holder {K X : Type 0} (R : K → K → Ordering) (test : K × X → Bool) (m : FinMap R X) : Type 0 where
  pub at : K
  pub thing : X
  pub there : get m at ≡ Some thing
  pub passes : test (at, thing) ≡ true

pub holder : {K X : Type 0} {R : K → K → Ordering} (key : IsKey R) (test : K × X → Bool) (m : FinMap R X) → 0 < count test m → Holder R test m
holder key test m some = (let i = find_in key test (entries m) (entries_sorted m) some in record { at = i.at; thing = i.thing; there = get-entries m i.at ∙ i.there; passes = i.passes })
