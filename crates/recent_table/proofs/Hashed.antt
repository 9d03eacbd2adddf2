-- The finite map that a table by hash stands for.
use Rattle.std.proofs.Common.{ℕ, suc, ◌≡◌, ◌+◌, List, [], ◌∷◌, length, Bool, true, false, cond, Option, Some, None, IsSome, refl, sym, ap, ◌∙◌, subst, arith}
use Rattle.std.specs.Prelude.{is_some, IsSomeAnd}
use Rattle.std.specs.Map.{lookup, keys_of}
use Rattle.std.specs.List.{IsDistinct, AllByRecursion}
use Rattle.std.specs.declared.cmp.Ordering.{Ordering}
use Rattle.std.specs.Ordering.{eq_by_cmp}
use Rattle.std.specs.Cmp.{eq_by_cmp_equiv}
use Rattle.std.specs.FinMap as finite
use Rattle.std.specs.FinMap.{FinMap, find, get, insert, remove, from_entries, get-from_entries, get-insert, get-remove, len-insert, len-empty}
use Rattle.recent_table.specs.Maps.{IsWith}
use Rattle.recent_table.proofs.Maps.{IsKey, alike_maps}

nothing : {B : Type 0} → false ≡ true → B
nothing h = absurd (cc)

turn : {K : Type 0} {R : K → K → Ordering} (key : IsKey R) (eq : K → K → Bool) → ((a b : K) → eq_by_cmp R a b ≡ eq a b) → (q k : K) → eq k q ≡ eq_by_cmp R q k
turn key eq tie q k = sym (tie k q) ∙ (eq_by_cmp_equiv key.total).symm k q

module _ {K X : Type 0} {R : K → K → Ordering} (key : IsKey R) (eq : K → K → Bool) (tie : (a b : K) → eq_by_cmp R a b ≡ eq a b) where
  find_lookup : (q : K) (es : List (K × X)) → find R q es ≡ lookup (eq q) es
  find_lookup q [] = refl
  find_lookup q (e ∷ es) = λ i. cond (tie q e.0 i) (Some e.1) (find_lookup q es i)

  pub get_table : (es : List (K × X)) (q : K) → get (from_entries {R = R} es) q ≡ lookup (eq q) es
  get_table es q = get-from_entries key.total es q ∙ find_lookup q es

  pub inserted : (old new : List (K × X)) (k : K) (v : X) → ((q : K) → lookup (eq q) new ≡ cond (eq k q) (Some v) (lookup (eq q) old)) → from_entries {R = R} new ≡ insert (from_entries {R = R} old) k v
  inserted old new k v u =
      alike_maps key _ _ (λ q. get_table new q ∙ u q ∙ (λ i. cond (turn key eq tie q k i) (Some v) (sym (get_table old q) i)) ∙ sym (get-insert key.total (from_entries {R = R} old) k v q))

  pub removed : (old new : List (K × X)) (k : K) → ((q : K) → lookup (eq q) new ≡ cond (eq k q) None (lookup (eq q) old)) → from_entries {R = R} new ≡ remove (from_entries {R = R} old) k
  removed old new k u =
      alike_maps key _ _ (λ q. get_table new q ∙ u q ∙ (λ i. cond (turn key eq tie q k i) None (sym (get_table old q) i)) ∙ sym (get-remove key.total (from_entries {R = R} old) k q))

  lookup_none : (k : K) (es : List (K × X)) → AllByRecursion (λ y. eq k y ≡ false) (keys_of es) → lookup (eq k) es ≡ None
  lookup_none k [] h = refl
  lookup_none k (e ∷ es) h = ap (λ b. cond b (Some e.1) (lookup (eq k) es)) h.0 ∙ lookup_none k es h.1

  pub len_table : (es : List (K × X)) → IsDistinct eq (keys_of es) → finite.len (from_entries {R = R} es) ≡ length es
  unfolding IsDistinct
  len_table [] h = len-empty R X
  len_table (e ∷ es) h =
      len-insert key.total (from_entries {R = R} es) e.0 e.1 ∙ ap (λ o. cond (is_some o) (finite.len (from_entries {R = R} es)) (finite.len (from_entries {R = R} es) + 1)) (get_table es e.0 ∙ lookup_none e.0 es h.0)
      ∙ more (len_table es h.1)
    where
      more : {m n : ℕ} → m ≡ n → m + 1 ≡ suc n
      more e = omega arith

  -- what a table that is this map has at a key
  module _ (es : List (K × X)) (m : FinMap R X) (is : from_entries {R = R} es ≡ m) (q : K) where
    pub told : get m q ≡ lookup (eq q) es
    told = ap (λ n. get n q) (sym is) ∙ get_table es q

    pub there : IsSome (get m q) → IsSome (lookup (eq q) es)
    there h = subst IsSome told h

    -- a value of which something holds is there, and it holds of what stands in the table
    pub some : (P : X → Type 0) → IsSomeAnd (get m q) P → IsSome (get m q)
    some P = by (get m q)
      where
        by : (o : Option X) → IsSomeAnd o P → IsSome o
        by None h = absurd h
        by (Some x) h = refl

    pub holds_at : (P : X → Type 0) → IsSomeAnd (get m q) P → (x : X) → Some x ≡ lookup (eq q) es → P x
    holds_at P h x at = subst (λ o. IsSomeAnd o P) (told ∙ sym at) h

    pub never : IsSome (get m q) → None ≡ lookup (eq q) es → ⊥
    never h e = nothing (subst IsSome (told ∙ sym e) h)

    -- after another value was written behind a key
    pub written : (new : List (K × X)) (f : X → X) (x : X) → Some x ≡ lookup (eq q) es → ((k : K) → lookup (eq k) new ≡ cond (eq q k) (Some (f x)) (lookup (eq k) es)) → IsWith m (from_entries {R = R} new) q f
    written new f x at u = subst (λ o. IsSomeAnd o (λ y. from_entries {R = R} new ≡ insert m q (f y))) (at ∙ sym told) (inserted es new q (f x) u ∙ ap (λ n. insert n q (f x)) is)
