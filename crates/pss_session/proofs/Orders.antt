-- Lists of sessions in the order of their numbers.
use Rattle.std.proofs.Common.{ℕ, ◌≡◌, List, [], ◌∷◌, ◌++◌, Some, None, Bool, true, false, cond, ◌==◌, refl, sym, ap, ◌∙◌}
use Rattle.std.specs.Prelude.{◌&&◌}
use Rattle.std.specs.Map.{lookup, keys_of, remove_entry}
use Rattle.std.specs.Ordering.{nat_cmp, is_lt}
use Rattle.std.specs.FinMap.Entries.{below_all, is_sorted}
use Rattle.indexmap.specs.IndexMap.{insert_entry}
use Rattle.recent_table.proofs.Maps.{no_value}

pub both_true : (a b : Bool) → (a && b) ≡ true → (a ≡ true) × (b ≡ true)
both_true true b e = (refl, e)
both_true false b e = absurd (cc)

pub and_true : (a b : Bool) → a ≡ true → b ≡ true → (a && b) ≡ true
and_true true b e f = f
and_true false b e f = e

module _ {X : Type 0} where
  -- what has a new number is put last
  pub put_last : (es : List (ℕ × X)) (k : ℕ) (v : X) → lookup (λ n. k == n) es ≡ None → insert_entry (λ a b. a == b) es k v ≡ es ++ (k, v) ∷ []
  put_last [] k v none = refl
  put_last (e ∷ es) k v none = by (k == e.0) none (put_last es k v)
    where
      by : (b : Bool) → cond b (Some e.1) (lookup (λ n. k == n) es) ≡ None → (lookup (λ n. k == n) es ≡ None → insert_entry (λ a b. a == b) es k v ≡ es ++ (k, v) ∷ [])
          → cond b ((e.0, v) ∷ es) (e ∷ insert_entry (λ a b. a == b) es k v) ≡ e ∷ (es ++ (k, v) ∷ [])
      by true h rest = no_value e.1 (sym h)
      by false h rest = ap (λ l. e ∷ l) (rest h)

  -- ---- order

  below_keys : {Y : Type 0} (x : ℕ) (es : List (ℕ × X)) (fs : List (ℕ × Y)) → keys_of es ≡ keys_of fs → below_all nat_cmp x es ≡ below_all nat_cmp x fs
  below_keys x [] [] same = refl
  below_keys x [] (f ∷ fs) same = absurd (cc)
  below_keys x (e ∷ es) [] same = absurd (cc)
  below_keys x (e ∷ es) (f ∷ fs) same =
      let head : e.0 ≡ f.0 = cc in
      let tail : keys_of es ≡ keys_of fs = cc in
      λ i. is_lt (nat_cmp x (head i)) && below_keys x es fs tail i

  pub sorted_keys : {Y : Type 0} (es : List (ℕ × X)) (fs : List (ℕ × Y)) → keys_of es ≡ keys_of fs → is_sorted nat_cmp es ≡ is_sorted nat_cmp fs
  sorted_keys [] [] same = refl
  sorted_keys [] (f ∷ fs) same = absurd (cc)
  sorted_keys (e ∷ es) [] same = absurd (cc)
  sorted_keys (e ∷ es) (f ∷ fs) same =
      let head : e.0 ≡ f.0 = cc in
      let tail : keys_of es ≡ keys_of fs = cc in
      (λ i. below_all nat_cmp (head i) es && is_sorted nat_cmp es) ∙ (λ i. below_keys f.0 es fs tail i && sorted_keys es fs tail i)

  below_without : (x k : ℕ) (es : List (ℕ × X)) → below_all nat_cmp x es ≡ true → below_all nat_cmp x (remove_entry (λ n. k == n) es) ≡ true
  below_without x k [] h = h
  below_without x k (e ∷ es) h = let s = both_true (is_lt (nat_cmp x e.0)) (below_all nat_cmp x es) h in by (k == e.0) s.0 s.1 (below_without x k es s.1)
    where
      by : (b : Bool) → is_lt (nat_cmp x e.0) ≡ true → below_all nat_cmp x es ≡ true → below_all nat_cmp x (remove_entry (λ n. k == n) es) ≡ true → below_all nat_cmp x (cond b es (e ∷ remove_entry (λ n. k == n) es)) ≡ true
      by true a rest more = rest
      by false a rest more = and_true (is_lt (nat_cmp x e.0)) _ a more

  pub sorted_without : (k : ℕ) (es : List (ℕ × X)) → is_sorted nat_cmp es ≡ true → is_sorted nat_cmp (remove_entry (λ n. k == n) es) ≡ true
  sorted_without k [] h = h
  sorted_without k (e ∷ es) h = let s = both_true (below_all nat_cmp e.0 es) (is_sorted nat_cmp es) h in by (k == e.0) s.1 (below_without e.0 k es s.0) (sorted_without k es s.1)
    where
      by : (b : Bool) → is_sorted nat_cmp es ≡ true → below_all nat_cmp e.0 (remove_entry (λ n. k == n) es) ≡ true → is_sorted nat_cmp (remove_entry (λ n. k == n) es) ≡ true → is_sorted nat_cmp (cond b es (e ∷ remove_entry (λ n. k == n) es)) ≡ true
      by true rest more less = rest
      by false rest more less = and_true (below_all nat_cmp e.0 (remove_entry (λ n. k == n) es)) _ more less
