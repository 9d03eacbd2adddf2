-- Walks over the entries of a list, one place after the other.
use Rattle.std.proofs.Common.{ℕ, suc, zero, ◌≡◌, List, [], ◌∷◌, length, map, find, take, drop, slice_get, Some, None, Bool, true, false, cond, refl, sym, ap, ◌∙◌}
use Rattle.std.specs.Prelude.{◌||◌}
use Rattle.std.specs.Map.{values_of}
use Rattle.std.specs.List.{list_any}
use Rattle.indexmap.specs.IndexMap.{set_value_at}
use Rattle.recent_table.proofs.Maps.{no_value, one_value}

module _ {A : Type 0} (test : A → Bool) where
  -- the search from a place on
  pub find_from : (i : ℕ) (xs : List A) (x : A) → slice_get xs i ≡ Some x → find test (drop i xs) ≡ cond (test x) (Some x) (find test (drop (suc i) xs))
  find_from i [] x at = no_value x at
  find_from zero (y ∷ ys) x at = let same : y ≡ x = one_value at in λ i. cond (test (same i)) (Some (same i)) (find test ys)
  find_from (suc i) (y ∷ ys) x at = find_from i ys x at

  -- whether some of the first pass
  pub any_more : (i : ℕ) (xs : List A) (x : A) → slice_get xs i ≡ Some x → list_any test (take (suc i) xs) ≡ (list_any test (take i xs) || test x)
  any_more i [] x at = no_value x at
  any_more zero (y ∷ ys) x at = last (test y) ∙ ap test (one_value at)
    where
      last : (b : Bool) → (b || false) ≡ b
      last true = refl
      last false = refl
  any_more (suc i) (y ∷ ys) x at = by (test y) (any_more i ys x at)
    where
      by : (b : Bool) → list_any test (take (suc i) ys) ≡ (list_any test (take i ys) || test x) → (b || list_any test (take (suc i) ys)) ≡ ((b || list_any test (take i ys)) || test x)
      by true h = refl
      by false h = h

pub take_all : {A : Type 0} (xs : List A) → take (length xs) xs ≡ xs
take_all [] = refl
take_all (x ∷ xs) = ap (λ l. x ∷ l) (take_all xs)

module _ {X : Type 0} (f : X → X) where
  -- the first so many values are others
  abbrev pub front : ℕ → List (ℕ × X) → List (ℕ × X)
  front zero es = es
  front (suc i) [] = []
  front (suc i) (e ∷ es) = (e.0, f e.1) ∷ front i es

  pub front_more : (i : ℕ) (es : List (ℕ × X)) (x : X) → slice_get (values_of (front i es)) i ≡ Some x → set_value_at (front i es) i (f x) ≡ front (suc i) es
  front_more zero [] x at = refl
  front_more zero (e ∷ es) x at = let same : e.1 ≡ x = one_value at in λ i. (e.0, f (sym same i)) ∷ es
  front_more (suc i) [] x at = refl
  front_more (suc i) (e ∷ es) x at = ap (λ l. (e.0, f e.1) ∷ l) (front_more i es x at)

  pub front_none : (i : ℕ) (es : List (ℕ × X)) → slice_get (values_of (front i es)) i ≡ None → front i es ≡ front (suc i) es
  front_none zero [] at = refl
  front_none zero (e ∷ es) at = no_value e.1 (sym at)
  front_none (suc i) [] at = refl
  front_none (suc i) (e ∷ es) at = ap (λ l. (e.0, f e.1) ∷ l) (front_none i es at)

  pub front_all : (es : List (ℕ × X)) → front (length es) es ≡ map (λ e. (e.0, f e.1)) es
  front_all [] = refl
  front_all (e ∷ es) = ap (λ l. (e.0, f e.1) ∷ l) (front_all es)

pub drop_none : {A : Type 0} (i : ℕ) (xs : List A) → slice_get xs i ≡ None → drop (suc i) xs ≡ drop i xs
drop_none zero [] at = refl
drop_none (suc i) [] at = refl
drop_none zero (x ∷ xs) at = no_value x (sym at)
drop_none (suc i) (x ∷ xs) at = drop_none i xs at

-- the value in one place is another
pub stepped : {X : Type 0} (f : X → X) (i : ℕ) (es now : List (ℕ × X)) → now ≡ front f i es → (x : X) → slice_get (values_of now) i ≡ Some x → set_value_at now i (f x) ≡ front f (suc i) es
stepped f i es now is x at = ap (λ l. set_value_at l i (f x)) is ∙ front_more f i es x (ap (λ l. slice_get (values_of l) i) (sym is) ∙ at)
