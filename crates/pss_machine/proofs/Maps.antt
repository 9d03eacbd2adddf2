-- What is found in maps by number.
use Rattle.std.proofs.Common.{◌≡◌, ℕ, Bool, true, false, cond, ◌==◌, List, [], ◌∷◌, map, Option, Some, None, refl, sym, ap, ◌∙◌, arith, inl, inr}
use Rattle.std.specs.Prelude.{◌⊎◌}
use Rattle.std.specs.Option.{option_map}
use Rattle.std.specs.Ordering.{nat_cmp, eq_by_cmp}
use Rattle.std.specs.FinMap as finite
use Rattle.std.specs.FinMap.{FinMap, get, insert, remove, get-remove, entries, get-entries, get-from_entries, get-insert, same_map, nat_cmp-IsAntisymmetric}
use Rattle.std.specs.Cmp.{nat_cmp_total}
use Rattle.std.proofs.lemmas.Bool.{eqb-true, eq-eqb}
use Rattle.std.proofs.lemmas.Bool.Decides.{nat_tests}
use Rattle.pss_machine.specs.Maps.{each, with_at}

pub tie : (a b : ℕ) → eq_by_cmp nat_cmp a b ≡ (a == b)
tie a b = grind (arith, nat_tests)

pub tied : (a b : ℕ) → eq_by_cmp nat_cmp a b ≡ true → a ≡ b
tied a b e = grind (arith, nat_tests)

pub tied_self : (a : ℕ) → eq_by_cmp nat_cmp a a ≡ true
tied_self a = grind (arith, nat_tests)

untied : (a b : ℕ) → (a ≡ b → ⊥) → eq_by_cmp nat_cmp a b ≡ false
untied a b apart = by_test (eq_by_cmp nat_cmp a b) refl
  where
    by_test : (t : Bool) → eq_by_cmp nat_cmp a b ≡ t → t ≡ false
    by_test true e = absurd (apart (tied a b e))
    by_test false e = refl

find_each : {A B : Type 0} (f : ℕ → A → B) (q : ℕ) (es : List (ℕ × A)) → finite.find nat_cmp q (map (λ e. (e.0, f e.0 e.1)) es) ≡ option_map (f q) (finite.find nat_cmp q es)
find_each f q [] = refl
find_each f q (e ∷ es) = by_tie (find_each f q es) (eq_by_cmp nat_cmp q e.0) refl
  where
    by_tie : finite.find nat_cmp q (map (λ e. (e.0, f e.0 e.1)) es) ≡ option_map (f q) (finite.find nat_cmp q es) → (b : Bool) → eq_by_cmp nat_cmp q e.0 ≡ b → cond b (Some (f e.0 e.1)) (finite.find nat_cmp q (map (λ e. (e.0, f e.0 e.1)) es)) ≡ option_map (f q) (cond b (Some e.1) (finite.find nat_cmp q es))
    by_tie rest true is = ap (λ k. Some (f k e.1)) (sym (tied q e.0 is))
    by_tie rest false is = rest

-- each thing is found as the other one that was put in its place
pub get_each : {A B : Type 0} (f : ℕ → A → B) (m : FinMap nat_cmp A) (q : ℕ) → get (each f m) q ≡ option_map (f q) (get m q)
get_each f m q = get-from_entries nat_cmp_total (map (λ e. (e.0, f e.0 e.1)) (entries m)) q ∙ find_each f q (entries m) ∙ ap (option_map (f q)) (sym (get-entries m q))

same_option : {A : Type 0} (f : A → A) (o : Option A) → ((x : A) → o ≡ Some x → f x ≡ x) → option_map f o ≡ o
same_option f None h = refl
same_option f (Some x) h = ap Some (h x refl)

-- where each thing stays, the map does
pub each_same : {A : Type 0} (f : ℕ → A → A) (m : FinMap nat_cmp A) → ((n : ℕ) (x : A) → get m n ≡ Some x → f n x ≡ x) → each f m ≡ m
each_same f m h = same_map nat_cmp_total nat_cmp-IsAntisymmetric (each f m) m (λ n. get_each f m n ∙ same_option (f n) (get m n) (h n))

put_back : {A : Type 0} (m : FinMap nat_cmp A) (n : ℕ) (x : A) → get m n ≡ Some x → insert m n x ≡ m
put_back m n x there = same_map nat_cmp_total nat_cmp-IsAntisymmetric (insert m n x) m (λ q. get-insert nat_cmp_total m n x q ∙ by_tie q (eq_by_cmp nat_cmp q n) refl)
  where
    by_tie : (q : ℕ) (b : Bool) → eq_by_cmp nat_cmp q n ≡ b → cond b (Some x) (get m q) ≡ get m q
    by_tie q true is = sym there ∙ ap (get m) (sym (tied q n is))
    by_tie q false is = refl

-- where the thing in a place stays, the map does
pub with_at_same : {A : Type 0} (m : FinMap nat_cmp A) (n : ℕ) (f : A → A) → ((x : A) → get m n ≡ Some x → f x ≡ x) → with_at m n f ≡ m
with_at_same {A} m n f h = by_found (get m n) refl
  where
    by_found : (o : Option A) → get m n ≡ o → with_at m n f ≡ m
    by_found None is = rw is refl
    by_found (Some x) is = rw is (ap (insert m n) (h x is) ∙ put_back m n x is)

-- what is found in the place, and elsewhere
pub get_with_at : {A : Type 0} (m : FinMap nat_cmp A) (n : ℕ) (f : A → A) (q : ℕ) → get (with_at m n f) q ≡ cond (q == n) (option_map f (get m n)) (get m q)
get_with_at {A} m n f q = by_found (get m n) refl
  where
    elsewhere : (b : Bool) → (q == n) ≡ b → get m n ≡ None → get m q ≡ cond b None (get m q)
    elsewhere true same none = ap (get m) (eqb-true q n same) ∙ none
    elsewhere false same none = refl

    by_found : (o : Option A) → get m n ≡ o → get (with_at m n f) q ≡ cond (q == n) (option_map f o) (get m q)
    by_found None is = rw is (elsewhere (q == n) refl is)
    by_found (Some x) is = rw is (get-insert nat_cmp_total m n (f x) q ∙ ap (λ b. cond b (Some (f x)) (get m q)) (tie q n))

-- ---- here and elsewhere

pub same_or_apart : (q n : ℕ) → (q ≡ n) ⊎ (q ≡ n → ⊥)
same_or_apart q n = by_test (q == n) refl
  where
    by_test : (b : Bool) → (q == n) ≡ b → (q ≡ n) ⊎ (q ≡ n → ⊥)
    by_test true e = inl (eqb-true q n e)
    by_test false e = inr (λ same. grind (arith, nat_tests))

module _ {A : Type 0} (m : FinMap nat_cmp A) (n : ℕ) where
  pub insert_here : (x : A) → get (insert m n x) n ≡ Some x
  insert_here x = get-insert nat_cmp_total m n x n ∙ ap (λ b. cond b (Some x) (get m n)) (tied_self n)

  pub insert_apart : (x : A) (q : ℕ) → (q ≡ n → ⊥) → get (insert m n x) q ≡ get m q
  insert_apart x q apart = get-insert nat_cmp_total m n x q ∙ ap (λ b. cond b (Some x) (get m q)) (untied q n apart)

  pub remove_here : get (remove m n) n ≡ None
  remove_here = get-remove nat_cmp_total m n n ∙ ap (λ b. cond b None (get m n)) (tied_self n)

  pub remove_apart : (q : ℕ) → (q ≡ n → ⊥) → get (remove m n) q ≡ get m q
  remove_apart q apart = get-remove nat_cmp_total m n q ∙ ap (λ b. cond b None (get m q)) (untied q n apart)

  pub with_here : (f : A → A) → get (with_at m n f) n ≡ option_map f (get m n)
  with_here f = get_with_at m n f n ∙ ap (λ b. cond b (option_map f (get m n)) (get m n)) (eq-eqb n n refl)

  pub with_apart : (f : A → A) (q : ℕ) → (q ≡ n → ⊥) → get (with_at m n f) q ≡ get m q
  with_apart f q apart = get_with_at m n f q ∙ ap (λ b. cond b (option_map f (get m n)) (get m q)) (sym (tie q n) ∙ untied q n apart)
