-- What is found among the entries of a map is in it.
use Rattle.std.proofs.Common.{◌≡◌, ℕ, ◌<◌, Bool, true, false, cond, ◌&&◌, List, [], ◌∷◌, Some, None, refl, sym, ap, subst, ◌∙◌, arith}
use Rattle.std.specs.Prelude.{find, T}
use Rattle.std.specs.Ordering.{nat_cmp, eq_by_cmp, is_lt}
use Rattle.std.specs.FinMap as finite
use Rattle.std.specs.FinMap.{FinMap, get, entries, get-entries, entries_sorted, is_sorted}
use Rattle.std.specs.FinMap.Entries.{below_all}
use Rattle.std.proofs.lemmas.Bool.Decides.{nat_tests}
use Rattle.pss_machine.proofs.Maps.{tied, tied_self}
use Rattle.pss_machine.proofs.Logic.{none_some}

less_is : (a b : ℕ) → T (is_lt (nat_cmp a b)) → a < b
less_is a b e = grind (arith, nat_tests)

pub first : (a b : Bool) → T (a && b) → T a
first true b p = tt
first false b p = p

pub second : (a b : Bool) → T (a && b) → T b
second true b p = p
second false b p = absurd p

module _ {A : Type 0} where
  -- a key below all others is no key of them
  pub below_missed : (x t : ℕ) (es : List (ℕ × A)) → t ≡ x → T (below_all nat_cmp x es) → finite.find nat_cmp t es ≡ None
  below_missed x t [] e h = refl
  below_missed x t (y ∷ es) e h =
      let lower : x < y.0 = less_is x y.0 (first _ _ h) in
      let apart : eq_by_cmp nat_cmp t y.0 ≡ false = grind (arith, nat_tests) in
      rw apart (below_missed x t es e (second _ _ h))

  find_there : (test : ℕ × A → Bool) (es : List (ℕ × A)) → T (is_sorted nat_cmp es) → (e : ℕ × A) → find test es ≡ Some e → finite.find nat_cmp e.0 es ≡ Some e.1
  find_there test [] sorted e is = absurd (none_some is)
  find_there test (x ∷ es) sorted e is = by_test (test x) is (find_there test es (second _ _ sorted) e)
    where
      by_tie : finite.find nat_cmp e.0 es ≡ Some e.1 → (b : Bool) → eq_by_cmp nat_cmp e.0 x.0 ≡ b → cond b (Some x.1) (finite.find nat_cmp e.0 es) ≡ Some e.1
      by_tie rest true tie = absurd (none_some (sym (below_missed x.0 e.0 es (tied e.0 x.0 tie) (first _ _ sorted)) ∙ rest))
      by_tie rest false tie = rest

      by_test : (b : Bool) → cond b (Some x) (find test es) ≡ Some e → (find test es ≡ Some e → finite.find nat_cmp e.0 es ≡ Some e.1) → finite.find nat_cmp e.0 (x ∷ es) ≡ Some e.1
      by_test true is rest =
          let same : x ≡ e = cc in
          subst (λ (y : ℕ × A). finite.find nat_cmp y.0 (x ∷ es) ≡ Some y.1) same (ap (λ b. cond b (Some x.1) (finite.find nat_cmp x.0 es)) (tied_self x.0))
      by_test false is rest = by_tie (rest is) (eq_by_cmp nat_cmp e.0 x.0) refl

  pub found_there : (test : ℕ × A → Bool) (m : FinMap nat_cmp A) (e : ℕ × A) → find test (entries m) ≡ Some e → get m e.0 ≡ Some e.1
  found_there test m e is = get-entries m e.0 ∙ find_there test (entries m) (entries_sorted m) e is
