-- What is kept of a catalog follows it: an object is taken out, another is put.
use Rattle.std.proofs.Common.{ℕ, suc, ◌+◌, ◌*◌, ◌≡◌, ◌≤◌, ◌⊎◌, List, [], ◌∷◌, length, map, filter, sum, Some, None, Bool, inl, inr, cond, refl, sym, ap, ◌∙◌, arith}
use Rattle.std.specs.Cmp.{nat_cmp_total}
use Rattle.std.specs.FinMap.{get, insert, remove, entries, same_map, nat_cmp-IsAntisymmetric}
use Rattle.std.specs.List.{sum_by}
use Rattle.std.proofs.lemmas.List.Sums.{sum_by-cons, sum-map}
use Rattle.std.proofs.lemmas.List.{length-map}
use Rattle.type_layout.specs.declared.schema.Schema.{Schema}
use Rattle.type_layout.specs.Schemas.{given}
use Rattle.pss_catalog.specs.Catalog.{Object, Catalog, pids_where, pid_of, weight, total}
use Rattle.pss_catalog.proofs.Forest.{Compared, compared, same_place, other_place}
use Rattle.pss_catalog.proofs.Listing.{total_with, total_without}
use Rattle.pss_catalog.proofs.Uniqueness.{found_with, found_without}
use Rattle.storage_home.proofs.Places.{by_test}

-- ---- what is found at a serial and at another

pub same_or_not : (t s : ℕ) → (t ≡ s) ⊎ (t ≡ s → ⊥)
same_or_not t s = by (compared t s)
  where
    by : Compared t s → (t ≡ s) ⊎ (t ≡ s → ⊥)
    by (inl less) = inr (λ e. omega (arith, e, less))
    by (inr (inl is)) = inl is
    by (inr (inr more)) = inr (λ e. omega (arith, e, more))

module _ (M : Catalog) (s : ℕ) where
  pub gone : (t : ℕ) → t ≡ s → get (remove M s) t ≡ None
  gone t same = found_without M s t ∙ same_place s t None (get M t) same

  pub stays : (t : ℕ) → (t ≡ s → ⊥) → get (remove M s) t ≡ get M t
  stays t other = found_without M s t ∙ other_place s t None (get M t) other

  pub was_there : (t : ℕ) (x : Object) → get (remove M s) t ≡ Some x → (get M t ≡ Some x) × (t ≡ s → ⊥)
  was_there t x is = by (same_or_not t s)
    where
      by : (t ≡ s) ⊎ (t ≡ s → ⊥) → (get M t ≡ Some x) × (t ≡ s → ⊥)
      by (inl same) = let none = gone t same in absurd cc
      by (inr other) = (sym (stays t other) ∙ is, other)

  module _ (object : Object) where
    pub come : (t : ℕ) → t ≡ s → get (insert M s object) t ≡ Some object
    come t same = found_with M s object t ∙ same_place s t (Some object) (get M t) same

    pub others : (t : ℕ) → (t ≡ s → ⊥) → get (insert M s object) t ≡ get M t
    others t other = found_with M s object t ∙ other_place s t (Some object) (get M t) other

-- ---- how many pass a test

pub counted : (test : Object → Bool) (es : List (ℕ × Object)) → length (map pid_of (filter (λ e. test e.1) es)) ≡ sum_by (λ e. cond (test e.1) 1 0) es
counted test [] = refl
counted test (e ∷ es) =
    by_test (λ b. length (map pid_of (cond b (e ∷ filter (λ x. test x.1) es) (filter (λ x. test x.1) es))) ≡ cond b 1 0 + sum_by (λ x. cond (test x.1) 1 0) es) (test e.1)
    (λ _. let rest = counted test es in omega (arith, rest))
    (λ _. let rest = counted test es in omega (arith, rest))
    ∙ sym (sum_by-cons (λ (x : ℕ × Object). cond (test x.1) 1 0) e es)

passing : (test : Object → Bool) (M : Catalog) → length (pids_where test M) ≡ sum (map (λ e. cond (test e.1) 1 0) (entries M))
passing test M = counted test (entries M) ∙ sym (sum-map (λ (e : ℕ × Object). cond (test e.1) 1 0) (entries M))

pub passing_without : (test : Object → Bool) (M : Catalog) (s : ℕ) (object : Object) → get M s ≡ Some object → length (pids_where test (remove M s)) + cond (test object) 1 0 ≡ length (pids_where test M)
passing_without test M s object is =
    let whole = total_without (λ o. cond (test o) 1 0) M s in
    let weight_is = ap (λ o. given {B = ℕ} o 0 (λ x. cond (test x) 1 0)) is in
    let before = passing test M in
    let after = passing test (remove M s) in
    omega (arith, whole, weight_is, before, after)

pub passing_with : (test : Object → Bool) (M : Catalog) (s : ℕ) (object : Object) → get M s ≡ None → length (pids_where test (insert M s object)) ≡ length (pids_where test M) + cond (test object) 1 0
passing_with test M s object none =
    let whole = total_with (λ o. cond (test o) 1 0) M s object in
    let weight_is = ap (λ o. given {B = ℕ} o 0 (λ x. cond (test x) 1 0)) none in
    let before = passing test M in
    let after = passing test (insert M s object) in
    omega (arith, whole, weight_is, before, after)

-- ---- how many objects there are

all_pass : (es : List (ℕ × Object)) → sum_by (λ e. 1) es ≡ length es
all_pass [] = refl
all_pass (e ∷ es) = sum_by-cons (λ (x : ℕ × Object). 1) e es ∙ (let rest = all_pass es in omega (arith, rest))

number_of : (M : Catalog) → sum (map (λ e. 1) (entries M)) ≡ length (entries M)
number_of M = sum-map (λ (e : ℕ × Object). 1) (entries M) ∙ all_pass (entries M)

pub number_without : (M : Catalog) (s : ℕ) (object : Object) → get M s ≡ Some object → length (entries (remove M s)) + 1 ≡ length (entries M)
number_without M s object is =
    let whole = total_without (λ o. 1) M s in
    let one_is = ap (λ o. given {B = ℕ} o 0 (λ x. 1)) is in
    let before = number_of M in
    let after = number_of (remove M s) in
    omega (arith, whole, one_is, before, after)

pub number_with : (M : Catalog) (s : ℕ) (object : Object) → get M s ≡ None → length (entries (insert M s object)) ≡ length (entries M) + 1
number_with M s object none =
    let whole = total_with (λ o. 1) M s object in
    let none_is = ap (λ o. given {B = ℕ} o 0 (λ x. 1)) none in
    let before = number_of M in
    let after = number_of (insert M s object) in
    omega (arith, whole, none_is, before, after)

-- ---- the sum

pub sum_without : (S : Schema) (M : Catalog) (s : ℕ) (object : Object) → get M s ≡ Some object → total S (remove M s) + weight S object ≡ total S M
sum_without S M s object is =
    let whole = total_without (weight S) M s in
    let weight_is = ap (λ o. given o 0 (weight S)) is in
    omega (arith, whole, weight_is)

pub sum_with : (S : Schema) (M : Catalog) (s : ℕ) (object : Object) → get M s ≡ None → total S (insert M s object) ≡ total S M + weight S object
sum_with S M s object none =
    let whole = total_with (weight S) M s object in
    let none_is = ap (λ o. given o 0 (weight S)) none in
    omega (arith, whole, none_is)

weighed : (S : Schema) (es : List (ℕ × Object)) → 16 * length es ≤ sum_by (λ e. weight S e.1) es
weighed S [] = omega arith
weighed S (e ∷ es) = let cons = sum_by-cons (λ (x : ℕ × Object). weight S x.1) e es in let rest = weighed S es in omega (arith, cons, rest)

-- each object counts sixteen and more
pub fewer : (S : Schema) (M : Catalog) → 16 * length (entries M) ≤ total S M
fewer S M = let whole = sum-map (λ (e : ℕ × Object). weight S e.1) (entries M) in let all = weighed S (entries M) in omega (arith, whole, all)

filtered_shorter : {X : Type 0} (test : X → Bool) (xs : List X) → length (filter test xs) ≤ length xs
filtered_shorter test [] = omega arith
filtered_shorter test (x ∷ xs) = by_test (λ b. length (cond b (x ∷ filter test xs) (filter test xs)) ≤ suc (length xs)) (test x) (λ _. let rest = filtered_shorter test xs in omega (arith, rest)) (λ _. let rest = filtered_shorter test xs in omega (arith, rest))

pub fewer_pass : (test : Object → Bool) (M : Catalog) → length (pids_where test M) ≤ length (entries M)
fewer_pass test M = let same = length-map (filter (λ (e : ℕ × Object). test e.1) (entries M)) pid_of in let less = filtered_shorter (λ (e : ℕ × Object). test e.1) (entries M) in omega (arith, same, less)

-- where nothing is, nothing is taken
pub without_none : (M : Catalog) (s : ℕ) → get M s ≡ None → remove M s ≡ M
without_none M s none = same_map nat_cmp_total nat_cmp-IsAntisymmetric (remove M s) M (λ t. by t (same_or_not t s))
  where
    by : (t : ℕ) → (t ≡ s) ⊎ (t ≡ s → ⊥) → get (remove M s) t ≡ get M t
    by t (inl same) = gone M s t same ∙ sym none ∙ ap (λ (k : ℕ). get M k) (sym same)
    by t (inr other) = stays M s t other
