-- How many objects pass a test: the sum of 1 for each that does.
use Rattle.std.proofs.Common.{◌≡◌, ◌≤◌, ℕ, suc, ◌+◌, Bool, true, false, cond, List, [], ◌∷◌, length, map, refl, ◌∙◌, arith}
use Rattle.std.specs.Prelude.{filter}
use Rattle.std.specs.FinMap.{entries}
use Rattle.std.proofs.lemmas.List.Sums.{sum-map, sum_by-cons}
use Rattle.std.specs.List.{sum_by}
use Rattle.pss_catalog.specs.Catalog.{Object, Catalog, pid_of, pids_where}
use Rattle.owner_view.specs.Views.{one_where}
use Rattle.owner_view.specs.Weights.{sum_of}

module _ (test : Object → Bool) where
  abbrev passing : List (ℕ × Object) → ℕ
  passing es = length (map pid_of (filter (λ e. test e.1) es))

  counted : (es : List (ℕ × Object)) → sum_by (λ e. one_where test e.1) es ≡ passing es
  counted [] = refl
  counted (e ∷ es) = sum_by-cons (λ e. one_where test e.1) e es ∙ by (test e.1) (counted es)
    where
      by : (b : Bool) → sum_by (λ e. one_where test e.1) es ≡ passing es → cond b 1 0 + sum_by (λ e. one_where test e.1) es ≡ length (map pid_of (cond b (e ∷ filter (λ e. test e.1) es) (filter (λ e. test e.1) es)))
      by true rest = omega (arith, rest)
      by false rest = omega (arith, rest)

  pub summed : (M : Catalog) → sum_of (one_where test) M ≡ length (pids_where test M)
  summed M = sum-map (λ e. one_where test e.1) (entries M) ∙ counted (entries M)

  -- those that pass are among all
  pub fewer_pass : (es : List (ℕ × Object)) → passing es ≤ length es
  fewer_pass [] = omega arith
  fewer_pass (e ∷ es) = by (test e.1) (fewer_pass es)
    where
      by : (b : Bool) → passing es ≤ length es → length (map pid_of (cond b (e ∷ filter (λ e. test e.1) es) (filter (λ e. test e.1) es))) ≤ suc (length es)
      by true rest = omega (arith, rest)
      by false rest = omega (arith, rest)
