-- Finite maps, of which it is known when two keys are one.
use Rattle.std.proofs.Common.{ℕ, ◌≡◌, ◌⊎◌, inl, inr, ⊎_elim, ◌+◌, ◌≤◌, ◌<◌, List, [], ◌∷◌, length, map, filter, Bool, true, false, cond, Some, None, refl, sym, ap, ◌∙◌, subst, arith}
use Rattle.std.specs.Prelude.{◌&&◌}
use Rattle.std.proofs.Math.Dec.{T}
use Rattle.std.specs.Option.{option_map}
use Rattle.std.specs.declared.cmp.Ordering.{Ordering}
use Rattle.std.specs.declared.cmp.Ordering.TheVariants.{Less, Equal, Greater}
use Rattle.std.specs.Ordering.{eq_by_cmp, is_eq, is_lt}
use Rattle.std.specs.Cmp.{IsTotalOrder, tied_itself}
use Rattle.std.specs.FinMap as finite
use Rattle.std.specs.FinMap.{FinMap, IsAntisymmetric, entries, find, put, is_sorted, get, insert, remove, get-insert, get-remove, get-entries, entries-insert, entries-from_sorted, entries_sorted, len-entries, same_map}
use Rattle.std.specs.FinMap.Entries.{below_all, by_order}
use Rattle.std.proofs.lemmas.List.{length-map}
use Rattle.recent_table.specs.Maps.{each, count}

pub no_value : {A B : Type 0} (r : A) → None ≡ Some r → B
no_value r h = absurd (cc)

pub one_value : {A : Type 0} {a b : A} → Some a ≡ Some b → a ≡ b
one_value e = cc

-- an order that ties a key with itself alone
pub record IsKey {K : Type 0} (R : K → K → Ordering) : Type 0 where
  pub total : IsTotalOrder R
  pub alike : IsAntisymmetric R

equal : (r : Ordering) → is_eq r ≡ true → r ≡ Equal
equal Less e = absurd (cc)
equal Equal e = refl
equal Greater e = absurd (cc)

module _ {K : Type 0} {R : K → K → Ordering} (key : IsKey R) where
  pub tie_self : (a : K) → eq_by_cmp R a a ≡ true
  tie_self a = ap is_eq (tied_itself key.total a)

  pub tied : (a b : K) → eq_by_cmp R a b ≡ true → a ≡ b
  tied a b e = key.alike a b (equal (R a b) e)

  pub tie_apart : (a b : K) → (a ≡ b → ⊥) → eq_by_cmp R a b ≡ false
  tie_apart a b ne = by (eq_by_cmp R a b) refl
    where
      by : (t : Bool) → eq_by_cmp R a b ≡ t → t ≡ false
      by true e = absurd (ne (tied a b e))
      by false e = refl

  pub same_or_apart : (a b : K) → (a ≡ b) ⊎ (a ≡ b → ⊥)
  same_or_apart a b = by (eq_by_cmp R a b) refl
    where
      unlike : {t : Bool} → t ≡ true → t ≡ false → ⊥
      unlike p q = cc

      by : (t : Bool) → eq_by_cmp R a b ≡ t → (a ≡ b) ⊎ (a ≡ b → ⊥)
      by true e = inl (tied a b e)
      by false e = inr (λ s. unlike (sym (ap (eq_by_cmp R a) s) ∙ tie_self a) e)

  module _ {X : Type 0} where
    module _ (m : FinMap R X) (k : K) where
      pub insert_here : (v : X) → get (insert m k v) k ≡ Some v
      insert_here v = get-insert key.total m k v k ∙ ap (λ b. cond b (Some v) (get m k)) (tie_self k)

      pub insert_apart : (v : X) (q : K) → (q ≡ k → ⊥) → get (insert m k v) q ≡ get m q
      insert_apart v q ne = get-insert key.total m k v q ∙ ap (λ b. cond b (Some v) (get m q)) (tie_apart q k ne)

      pub remove_here : get (remove m k) k ≡ None
      remove_here = get-remove key.total m k k ∙ ap (λ b. cond b None (get m k)) (tie_self k)

      pub remove_apart : (q : K) → (q ≡ k → ⊥) → get (remove m k) q ≡ get m q
      remove_apart q ne = get-remove key.total m k q ∙ ap (λ b. cond b None (get m q)) (tie_apart q k ne)

    pub alike_maps : (m n : FinMap R X) → ((q : K) → get m q ≡ get n q) → m ≡ n
    alike_maps m n is = same_map key.total key.alike m n is

    -- in two maps alike but for one key
    pub by_key : (m n : FinMap R X) (k : K) → get m k ≡ get n k → ((q : K) → (q ≡ k → ⊥) → get m q ≡ get n q) → m ≡ n
    by_key m n k here there = alike_maps m n (λ q. ⊎_elim (λ e. ap (get m) e ∙ here ∙ ap (get n) (sym e)) (λ ne. there q ne) (same_or_apart q k))

    module _ (m : FinMap R X) (k : K) where
      pub insert_remove : (v : X) → insert (remove m k) k v ≡ insert m k v
      insert_remove v = by_key _ _ k (insert_here (remove m k) k v ∙ sym (insert_here m k v)) (λ q ne. insert_apart (remove m k) k v q ne ∙ remove_apart m k q ne ∙ sym (insert_apart m k v q ne))

      pub remove_insert : (v : X) → get m k ≡ None → remove (insert m k v) k ≡ m
      remove_insert v none = by_key _ _ k (remove_here (insert m k v) k ∙ sym none) (λ q ne. remove_apart (insert m k v) k q ne ∙ insert_apart m k v q ne)

      pub put_back : (v : X) → get m k ≡ Some v → insert m k v ≡ m
      put_back v at = by_key _ _ k (insert_here m k v ∙ sym at) (λ q ne. insert_apart m k v q ne)

-- ---- another thing in each place

module _ {K X Y : Type 0} (R : K → K → Ordering) (f : X → Y) where
  below_each : (x : K) (es : List (K × X)) → below_all R x (map (λ e. (e.0, f e.1)) es) ≡ below_all R x es
  below_each x [] = refl
  below_each x (e ∷ es) = ap (λ b. is_lt (R x e.0) && b) (below_each x es)

  sorted_each : (es : List (K × X)) → is_sorted R (map (λ e. (e.0, f e.1)) es) ≡ is_sorted R es
  sorted_each [] = refl
  sorted_each (e ∷ es) = λ i. below_each e.0 es i && sorted_each es i

  find_each : (q : K) (es : List (K × X)) → find R q (map (λ e. (e.0, f e.1)) es) ≡ option_map f (find R q es)
  find_each q [] = refl
  find_each q (e ∷ es) = by (eq_by_cmp R q e.0) (find_each q es)
    where
      by : (b : Bool) → find R q (map (λ e. (e.0, f e.1)) es) ≡ option_map f (find R q es) → cond b (Some (f e.1)) (find R q (map (λ e. (e.0, f e.1)) es)) ≡ option_map f (cond b (Some e.1) (find R q es))
      by true rest = refl
      by false rest = rest

module _ {K X Y : Type 0} {R : K → K → Ordering} (f : X → Y) where
  pub entries_each : (m : FinMap R X) → entries (each f m) ≡ map (λ e. (e.0, f e.1)) (entries m)
  entries_each m = entries-from_sorted R (map (λ e. (e.0, f e.1)) (entries m)) (subst T (sym (sorted_each R f (entries m))) (entries_sorted m))

  pub get_each : (m : FinMap R X) (q : K) → get (each f m) q ≡ option_map f (get m q)
  get_each m q = get-entries (each f m) q ∙ ap (find R q) (entries_each m) ∙ find_each R f q (entries m) ∙ ap (option_map f) (sym (get-entries m q))

  pub len_each : (m : FinMap R X) → finite.len (each f m) ≡ finite.len m
  len_each m = len-entries (each f m) ∙ ap length (entries_each m) ∙ length-map (entries m) (λ e. (e.0, f e.1)) ∙ sym (len-entries m)

  module _ (key : IsKey R) where
    pub each_insert : (m : FinMap R X) (k : K) (v : X) → each f (insert m k v) ≡ insert (each f m) k (f v)
    each_insert m k v =
        by_key key _ _ k (get_each (insert m k v) k ∙ ap (option_map f) (insert_here key m k v) ∙ sym (insert_here key (each f m) k (f v)))
        (λ q ne. get_each (insert m k v) q ∙ ap (option_map f) (insert_apart key m k v q ne) ∙ sym (get_each m q) ∙ sym (insert_apart key (each f m) k (f v) q ne))

    pub each_remove : (m : FinMap R X) (k : K) → each f (remove m k) ≡ remove (each f m) k
    each_remove m k =
        by_key key _ _ k (get_each (remove m k) k ∙ ap (option_map f) (remove_here key m k) ∙ sym (remove_here key (each f m) k))
        (λ q ne. get_each (remove m k) q ∙ ap (option_map f) (remove_apart key m k q ne) ∙ sym (get_each m q) ∙ sym (remove_apart key (each f m) k q ne))

    -- another thing in one place, which comes to the same
    pub each_same : (m : FinMap R X) (k : K) (v w : X) → get m k ≡ Some v → f w ≡ f v → each f (insert m k w) ≡ each f m
    each_same m k v w at e = each_insert m k w ∙ ap (insert (each f m) k) e ∙ put_back key (each f m) k (f v) (get_each m k ∙ ap (option_map f) at)

-- another thing in one place, of which one part is the same
pub at_same : {K X Y : Type 0} {R : K → K → Ordering} (key : IsKey R) (f : X → Y) (m : FinMap R X) (k : K) (v w : X) → get m k ≡ Some v → f w ≡ f v → (q : K) → option_map f (get (insert m k w) q) ≡ option_map f (get m q)
at_same key f m k v w at e q =
    ⊎_elim (λ s. ap (λ z. option_map f (get (insert m k w) z)) s ∙ ap (option_map f) (insert_here key m k w) ∙ ap Some e ∙ sym (ap (option_map f) at) ∙ ap (λ z. option_map f (get m z)) (sym s))
    (λ ne. ap (option_map f) (insert_apart key m k w q ne)) (same_or_apart key q k)

-- ---- how many pass a test

abbrev pub weight : Bool → ℕ
weight true = 1
weight false = 0

split : (a b : Bool) → T (a && b) → T a × T b
split true b h = (tt, h)
split false b h = absurd h

module _ {K X : Type 0} (R : K → K → Ordering) (test : K × X → Bool) where
  one_more : (b : Bool) (e : K × X) (es : List (K × X)) → length (cond b (e ∷ es) es) ≡ length es + weight b
  one_more true e es = omega arith
  one_more false e es = omega arith

  both_more : (b : Bool) (e : K × X) (us vs : List (K × X)) (n : ℕ) → length us ≡ length vs + n → length (cond b (e ∷ us) us) ≡ length (cond b (e ∷ vs) vs) + n
  both_more true e us vs n h = omega (arith, h)
  both_more false e us vs n h = h

  filter_put : (k : K) (v : X) (es : List (K × X)) → find R k es ≡ None → length (filter test (put R k v es)) ≡ length (filter test es) + weight (test (k, v))
  filter_put k v [] none = one_more (test (k, v)) (k, v) []
  filter_put k v (e ∷ es) none = by (R k e.0) none (filter_put k v es)
    where
      by : (o : Ordering) → cond (is_eq o) (Some e.1) (find R k es) ≡ None → (find R k es ≡ None → length (filter test (put R k v es)) ≡ length (filter test es) + weight (test (k, v)))
          → length (filter test (by_order o ((k, v) ∷ e ∷ es) ((e.0, v) ∷ es) (e ∷ put R k v es))) ≡ length (filter test (e ∷ es)) + weight (test (k, v))
      by Less never rest = one_more (test (k, v)) (k, v) (filter test (e ∷ es))
      by Equal never rest = no_value e.1 (sym never)
      by Greater never rest = both_more (test e) e (filter test (put R k v es)) (filter test es) (weight (test (k, v))) (rest never)

  below_none : (x : K) (es : List (K × X)) → T (below_all R x es) → find R x es ≡ None
  below_none x [] h = refl
  below_none x (e ∷ es) h = let s = split (is_lt (R x e.0)) (below_all R x es) h in by (R x e.0) s.0 (below_none x es s.1)
    where
      by : (o : Ordering) → T (is_lt o) → find R x es ≡ None → cond (is_eq o) (Some e.1) (find R x es) ≡ None
      by Less lt rest = rest
      by Equal lt rest = absurd lt
      by Greater lt rest = rest

  module _ (key : IsKey R) where
    filter_none : (es : List (K × X)) → T (is_sorted R es) → ((q : K) (v : X) → find R q es ≡ Some v → test (q, v) ≡ false) → length (filter test es) ≡ 0
    filter_none [] h none = refl
    filter_none (e ∷ es) h none =
        let s = split (below_all R e.0 es) (is_sorted R es) h in
        ap (λ b. length (cond b (e ∷ filter test es) (filter test es))) (none e.0 e.1 (ap (λ b. cond b (Some e.1) (find R e.0 es)) (tie_self key e.0)))
        ∙ filter_none es s.1 (λ q v at. none q v (by q v at (eq_by_cmp R q e.0) refl (below_none e.0 es s.0)))
      where
        by : (q : K) (v : X) → find R q es ≡ Some v → (b : Bool) → eq_by_cmp R q e.0 ≡ b → find R e.0 es ≡ None → cond b (Some e.1) (find R q es) ≡ Some v
        by q v at true is gone = no_value v (sym gone ∙ ap (λ k. find R k es) (sym (tied key q e.0 is)) ∙ at)
        by q v at false is gone = at

length_filter : {A : Type 0} (test : A → Bool) (xs : List A) → length (filter test xs) ≤ length xs
length_filter test [] = omega arith
length_filter test (x ∷ xs) = by (test x) (length_filter test xs)
  where
    by : (b : Bool) → length (filter test xs) ≤ length xs → length (cond b (x ∷ filter test xs) (filter test xs)) ≤ length (x ∷ xs)
    by true h = omega (arith, h)
    by false h = omega (arith, h)

module _ {K X : Type 0} {R : K → K → Ordering} (key : IsKey R) (test : K × X → Bool) (m : FinMap R X) where
  pub count_within : count test m ≤ finite.len m
  count_within = omega (arith, length_filter test (entries m), len-entries m)

  pub count_none : ((q : K) (v : X) → get m q ≡ Some v → test (q, v) ≡ false) → count test m ≡ 0
  count_none none = filter_none R test key (entries m) (entries_sorted m) (λ q v at. none q v (get-entries m q ∙ at))

  module _ (k : K) where
    pub count_new : (v : X) → get m k ≡ None → count test (insert m k v) ≡ count test m + weight (test (k, v))
    count_new v none = ap (λ es. length (filter test es)) (entries-insert key.total m k v) ∙ filter_put R test k v (entries m) (sym (get-entries m k) ∙ none)

module _ {K X : Type 0} {R : K → K → Ordering} (key : IsKey R) (test : K × X → Bool) (m : FinMap R X) (k : K) where
  pub count_gone : (v : X) → get m k ≡ Some v → count test m ≡ count test (remove m k) + weight (test (k, v))
  count_gone v at = ap (count test) (sym (put_back key m k v at) ∙ sym (insert_remove key m k v)) ∙ count_new key test (remove m k) k v (remove_here key m k)

  pub count_set : (old v : X) → get m k ≡ Some old → count test (insert m k v) + weight (test (k, old)) ≡ count test m + weight (test (k, v))
  count_set old v at = omega (arith, ap (count test) (sym (insert_remove key m k v)), count_new key test (remove m k) k v (remove_here key m k), count_gone old at)

  pub count_some : (v : X) → get m k ≡ Some v → test (k, v) ≡ true → 0 < count test m
  count_some v at passes = omega (arith, count_gone v at, ap weight passes)
