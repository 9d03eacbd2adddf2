-- Finite maps that a function of numbers gives.
use Rattle.std.proofs.Common.{ℕ, zero, suc, ◌≡◌, ◌≤◌, ◌<◌, ⊎_elim, cond, Option, Some, None, IsSome, sym, ap, ◌∙◌, subst, arith, rules}
use Rattle.std.proofs.lemmas.Bool.{eq-eqb, cases_eq, cases_lt}
use Rattle.std.specs.declared.cmp.Ordering.{Ordering}
use Rattle.std.specs.Ordering.{nat_cmp}
use Rattle.std.specs.Cmp.{IsTotalOrder, on_total, nat_cmp_total, unsigned_tied}
use Rattle.std.specs.FinMap as map
use Rattle.std.specs.FinMap.{IsAntisymmetric, nat_cmp-IsAntisymmetric}
use Rattle.link_pool.specs.Cells.{with_entry, tabulate}
use Rattle.link_pool.proofs.Paths.{not_equal}

module _ {K : Type 0} (number : K → ℕ) (name : ℕ → K) (named : (k : K) → name (number k) ≡ k) (numbered : (n : ℕ) → number (name n) ≡ n) where
  abbrev pub by_number : K → K → Ordering
  by_number a b = nat_cmp (number a) (number b)

  total : IsTotalOrder by_number
  total = on_total number nat_cmp_total

  alike : IsAntisymmetric by_number
  alike a b e = sym (named a) ∙ ap name (nat_cmp-IsAntisymmetric (number a) (number b) e) ∙ named b

  module _ {X : Type 0} where
    abbrev pub table : ℕ → (ℕ → Option X) → map.FinMap by_number X
    table n f = tabulate name n f

    pub get-here : (o : Option X) (k q : K) (m : map.FinMap by_number X) → number q ≡ number k → map.get (with_entry o k m) q ≡ o
    get-here None k q m e = map.get-remove total m k q ∙ ap (λ b. cond b None (map.get m q)) (unsigned_tied (number q) (number k) ∙ eq-eqb (number q) (number k) e)
    get-here (Some v) k q m e = map.get-insert total m k v q ∙ ap (λ b. cond b (Some v) (map.get m q)) (unsigned_tied (number q) (number k) ∙ eq-eqb (number q) (number k) e)

    pub get-there : (o : Option X) (k q : K) (m : map.FinMap by_number X) → (number q ≡ number k → ⊥) → map.get (with_entry o k m) q ≡ map.get m q
    get-there None k q m ne = map.get-remove total m k q ∙ ap (λ b. cond b None (map.get m q)) (unsigned_tied (number q) (number k) ∙ not_equal (number q) (number k) ne)
    get-there (Some v) k q m ne = map.get-insert total m k v q ∙ ap (λ b. cond b (Some v) (map.get m q)) (unsigned_tied (number q) (number k) ∙ not_equal (number q) (number k) ne)

    -- a key that a map has stays, whatever comes in
    pub stays : (m : map.FinMap by_number X) (k q : K) (v : X) → IsSome (map.get m q) → IsSome (map.get (map.insert m k v) q)
    stays m k q v there =
        ⊎_elim
        (λ e. subst IsSome (sym (get-here (Some v) k q m e)) (search rules))
        (λ ne. subst IsSome (sym (get-there (Some v) k q m ne)) there)
        (cases_eq (number q) (number k))

    below : (n : ℕ) (f : ℕ → Option X) (q : K) → number q < n → map.get (table n f) q ≡ f (number q)
    below zero f q lt = absurd (omega (arith, lt))
    below (suc n) f q lt =
        ⊎_elim
        (λ e. get-here (f n) (name n) q (table n f) (e ∙ sym (numbered n)) ∙ ap f (sym e))
        (λ ne. get-there (f n) (name n) q (table n f) (λ e. ne (e ∙ numbered n)) ∙ below n f q (omega (arith, lt, ne)))
        (cases_eq (number q) n)

    past : (n : ℕ) (f : ℕ → Option X) (q : K) → n ≤ number q → map.get (table n f) q ≡ None
    past zero f q le = map.get-empty by_number q
    past (suc n) f q le = get-there (f n) (name n) q (table n f) (λ e. let same : number q ≡ n = e ∙ numbered n in absurd (omega (arith, le, same))) ∙ past n f q (omega (arith, le))

    pub get-table : (n : ℕ) (f : ℕ → Option X) → ((q : ℕ) → n ≤ q → f q ≡ None) → (q : K) → map.get (table n f) q ≡ f (number q)
    get-table n f none q = ⊎_elim (λ lt. below n f q lt) (λ le. past n f q le ∙ sym (none (number q) le)) (cases_lt (number q) n)

    -- the map after the function changed at one key
    pub changed : (m n : ℕ) (f h : ℕ → Option X) (k : K) (o : Option X) → ((q : ℕ) → m ≤ q → f q ≡ None) → ((q : ℕ) → n ≤ q → h q ≡ None) → h (number k) ≡ o
        → ((q : ℕ) → (q ≡ number k → ⊥) → h q ≡ f q) → table n h ≡ with_entry o k (table m f)
    changed m n f h k o fs hs here there =
        map.same_map total alike _ _ (λ q.
        get-table n h hs q
        ∙ ⊎_elim (λ e. ap h e ∙ here ∙ sym (get-here o k q (table m f) e)) (λ ne. there (number q) ne ∙ sym (get-table m f fs q) ∙ sym (get-there o k q (table m f) ne)) (cases_eq (number q) (number k)))

    -- the map where the function did not change
    pub unchanged : (m n : ℕ) (f h : ℕ → Option X) → ((q : ℕ) → m ≤ q → f q ≡ None) → ((q : ℕ) → n ≤ q → h q ≡ None) → ((q : ℕ) → h q ≡ f q) → table n h ≡ table m f
    unchanged m n f h fs hs same = map.same_map total alike _ _ (λ q. get-table n h hs q ∙ same (number q) ∙ sym (get-table m f fs q))
