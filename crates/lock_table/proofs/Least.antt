-- The least key of a finite map whose entry passes a test.
use Rattle.std.proofs.Common.{ℕ, ◌≡◌, ◌≤◌, ◌⊎◌, inl, inr, ⊎_elim, List, [], ◌∷◌, Option, Some, None, Bool, true, false, cond, refl, sym, ap, ◌∙◌, subst, arith, ltb-true, ltb-false}
use Rattle.std.specs.Prelude.{◌||◌, nat_lt, find, Contains}
use Rattle.std.specs.List.{list_any}
use Rattle.std.specs.Option.{option_map}
use Rattle.std.specs.declared.cmp.Ordering.{Ordering}
use Rattle.std.specs.declared.cmp.Ordering.TheVariants.{Less, Equal, Greater}
use Rattle.std.specs.Ordering.{nat_cmp, eq_by_cmp, is_lt, is_le}
use Rattle.std.specs.Cmp.{nat_cmp_total}
use Rattle.std.proofs.lemmas.Map.Keys.{le_from_is_le}
use Rattle.std.specs.FinMap as map
use Rattle.std.specs.FinMap.{nat_cmp-IsAntisymmetric}
use Rattle.std.specs.FinMap.Entries.{below_all, is_sorted}
use Rattle.pss_base.specs.declared.owner.OwnerNo.{OwnerNo}
use Rattle.lock_table.specs.inner.Nodes.{lesser, least_of}
use Rattle.lock_table.proofs.Keyed.{no_value, one_value, contains_first, contains_rest, contains_cases}
use Rattle.lock_table.proofs.Entries.{both_true, tied, above, not_above_itself, any_found}
use Rattle.lock_table.proofs.Holding.{true_of, owner_itself}

pub at_least : (a b : ℕ) → is_lt (nat_cmp a b) ≡ true → a ≤ b
at_least a b e = le_from_is_le a b (by (nat_cmp a b) e)
  where
    by : (r : Ordering) → is_lt r ≡ true → is_le r ≡ true
    by Less h = refl
    by Equal h = absurd (cc)
    by Greater h = absurd (cc)

module _ {X : Type 0} (test : ℕ × X → Bool) where
  -- the entry that comes first
  record First (es : List (ℕ × X)) (e : ℕ × X) : Type 0 where
    pub at : map.find nat_cmp e.0 es ≡ Some e.1
    pub passes : test e ≡ true
    pub least : (k : ℕ) (v : X) → map.find nat_cmp k es ≡ Some v → test (k, v) ≡ true → e.0 ≤ k

  first_is : (es : List (ℕ × X)) → is_sorted nat_cmp es ≡ true → (e : ℕ × X) → find test es ≡ Some e → First es e
  first_is [] s e f = no_value e f
  first_is (x ∷ xs) s e f = by (test x) refl f (first_is xs sorted.1 e)
    where
      sorted : (below_all nat_cmp x.0 xs ≡ true) × (is_sorted nat_cmp xs ≡ true)
      sorted = both_true (below_all nat_cmp x.0 xs) (is_sorted nat_cmp xs) s

      itself : eq_by_cmp nat_cmp x.0 x.0 ≡ true
      itself = owner_itself (record { 0 = x.0 })

      head : test x ≡ true → First (x ∷ xs) x
      head is = record {
        at = ap (λ b. cond b (Some x.1) (map.find nat_cmp x.0 xs)) itself;
        passes = is;
        least = λ k v g t. over k v (eq_by_cmp nat_cmp k x.0) refl g;
      }
        where
          over : (k : ℕ) (v : X) (b : Bool) → eq_by_cmp nat_cmp k x.0 ≡ b → cond b (Some x.1) (map.find nat_cmp k xs) ≡ Some v → x.0 ≤ k
          over k v true tie g = let same : k ≡ x.0 = tied nat_cmp_total nat_cmp-IsAntisymmetric k x.0 tie in omega (arith, same)
          over k v false tie g = at_least x.0 k (above nat_cmp_total nat_cmp-IsAntisymmetric x.0 xs k v sorted.0 g)

      tail : test x ≡ false → First xs e → First (x ∷ xs) e
      tail fails r = record {
        at = under (eq_by_cmp nat_cmp e.0 x.0) refl;
        passes = r.passes;
        least = λ k v g t. over k v (eq_by_cmp nat_cmp k x.0) refl g t;
      }
        where
          under : (b : Bool) → eq_by_cmp nat_cmp e.0 x.0 ≡ b → cond b (Some x.1) (map.find nat_cmp e.0 xs) ≡ Some e.1
          under true tie =
              absurd
              (not_above_itself nat_cmp_total nat_cmp-IsAntisymmetric x.0
              (ap (λ y. is_lt (nat_cmp x.0 y)) (sym (tied nat_cmp_total nat_cmp-IsAntisymmetric e.0 x.0 tie)) ∙ above nat_cmp_total nat_cmp-IsAntisymmetric x.0 xs e.0 e.1 sorted.0 r.at))
          under false tie = r.at

          over : (k : ℕ) (v : X) (b : Bool) → eq_by_cmp nat_cmp k x.0 ≡ b → cond b (Some x.1) (map.find nat_cmp k xs) ≡ Some v → test (k, v) ≡ true → e.0 ≤ k
          over k v true tie g t =
              let same : test (k, v) ≡ test x = (λ i. test (tied nat_cmp_total nat_cmp-IsAntisymmetric k x.0 tie i, sym (one_value g) i)) in
              let x : true ≡ false = sym t ∙ same ∙ fails in absurd (cc)
          over k v false tie g t = r.least k v g t

      by : (b : Bool) → test x ≡ b → cond b (Some x) (find test xs) ≡ Some e → (find test xs ≡ Some e → First xs e) → First (x ∷ xs) e
      by true is h rest = subst (First (x ∷ xs)) (one_value h) (head is)
      by false is h rest = tail is (rest h)

  -- what passes is found
  found_some : (es : List (ℕ × X)) → list_any test es ≡ true → find test es ≡ None → ⊥
  found_some [] e n = absurd (cc)
  found_some (x ∷ xs) e n = by (test x) refl e n (found_some xs)
    where
      by : (b : Bool) → test x ≡ b → (b || list_any test xs) ≡ true → cond b (Some x) (find test xs) ≡ None → (list_any test xs ≡ true → find test xs ≡ None → ⊥) → ⊥
      by true is h n rest = no_value x (sym n)
      by false is h n rest = rest h n

  -- an owner whose entry passes, and no lesser one
  pub record IsLeast (m : map.FinMap nat_cmp X) (o : Option OwnerNo) : Type 0 where
    pub none : (k : ℕ) (v : X) → o ≡ None → map.get m k ≡ Some v → test (k, v) ≡ true → ⊥
    pub some : (b : OwnerNo) → o ≡ Some b → (v : X) × (map.get m b.0 ≡ Some v) × (test (b.0, v) ≡ true)
    pub least : (b : OwnerNo) (k : ℕ) (v : X) → o ≡ Some b → map.get m k ≡ Some v → test (k, v) ≡ true → b.0 ≤ k

  -- the first of the entries
  abbrev pub first_of : map.FinMap nat_cmp X → Option OwnerNo
  first_of m = option_map (λ e. record { 0 = e.0 }) (find test (map.entries m))

  pub first_least : (m : map.FinMap nat_cmp X) → IsLeast m (first_of m)
  first_least m = by (find test (map.entries m)) refl
    where
      by : (o : Option (ℕ × X)) → find test (map.entries m) ≡ o → IsLeast m (option_map (λ e. record { 0 = e.0 }) o)
      by None is = record {
        none = λ k v e at t. found_some (map.entries m) (any_found nat_cmp_total nat_cmp-IsAntisymmetric test (map.entries m) k v (sym (map.get-entries m k) ∙ at) t) is;
        some = λ b e. no_value b e;
        least = λ b k v e at t. no_value b e;
      }
      by (Some x) is =
          let f = first_is (map.entries m) (true_of _ (map.entries_sorted m)) x is in
          let number : (b : OwnerNo) → Some (record { 0 = x.0 }) ≡ Some b → x.0 ≡ b.0 = λ b e. ap (λ (o : OwnerNo). o.0) (one_value e) in
          record {
            none = λ k v e at t. no_value {B = ⊥} (record { 0 = x.0 }) (sym e);
            some = λ b e. (x.1, subst (λ n. map.get m n ≡ Some x.1) (number b e) (map.get-entries m x.0 ∙ f.at), subst (λ n. test (n, x.1) ≡ true) (number b e) f.passes);
            least = λ b k v e at t. subst (λ n. n ≤ k) (number b e) (f.least k v (sym (map.get-entries m k) ∙ at) t);
          }

  -- there is but one
  pub one_least : (m : map.FinMap nat_cmp X) (a b : Option OwnerNo) → IsLeast m a → IsLeast m b → a ≡ b
  one_least m a b p q = by a refl b refl
    where
      by : (x : Option OwnerNo) → a ≡ x → (y : Option OwnerNo) → b ≡ y → a ≡ b
      by None e None f = e ∙ sym f
      by None e (Some y) f = let s = q.some y f in absurd (p.none y.0 s.0 e s.1 s.2)
      by (Some x) e None f = let s = p.some x e in absurd (q.none x.0 s.0 f s.1 s.2)
      by (Some x) e (Some y) f =
          let s = p.some x e in
          let t = q.some y f in
          let under : x.0 ≤ y.0 = p.least x y.0 t.0 e t.1 t.2 in
          let over : y.0 ≤ x.0 = q.least y x.0 s.0 f s.1 s.2 in
          let same : x.0 ≡ y.0 = omega (arith, under, over) in
          e ∙ ap (λ (n : ℕ). Some (record { 0 = n })) same ∙ sym f

either_true : (a b : Bool) → (a || b) ≡ true → (a ≡ true) ⊎ (b ≡ true)
either_true true b e = inl refl
either_true false b e = inr e

left_true : (a b : Bool) → a ≡ true → (a || b) ≡ true
left_true true b e = refl
left_true false b e = absurd (cc)

right_true : (a b : Bool) → b ≡ true → (a || b) ≡ true
right_true true b e = refl
right_true false b e = e

-- the least that passes one test or the other
module _ {X : Type 0} (t u v : ℕ × X → Bool) (joins : (e : ℕ × X) → v e ≡ (t e || u e)) (m : map.FinMap nat_cmp X) where
  of_left : (k : ℕ) (x : X) → t (k, x) ≡ true → v (k, x) ≡ true
  of_left k x e = joins (k, x) ∙ left_true (t (k, x)) (u (k, x)) e

  of_right : (k : ℕ) (x : X) → u (k, x) ≡ true → v (k, x) ≡ true
  of_right k x e = joins (k, x) ∙ right_true (t (k, x)) (u (k, x)) e

  pub least_joined : (a b : Option OwnerNo) → IsLeast t m a → IsLeast u m b → IsLeast v m (lesser a b)
  least_joined None b p q = record {
    none = λ k x e at h. ⊎_elim (λ f. p.none k x refl at f) (λ f. q.none k x e at f) (either_true (t (k, x)) (u (k, x)) (sym (joins (k, x)) ∙ h));
    some = λ c e. let s = q.some c e in (s.0, s.1, of_right c.0 s.0 s.2);
    least = λ c k x e at h. ⊎_elim (λ f. absurd (p.none k x refl at f)) (λ f. q.least c k x e at f) (either_true (t (k, x)) (u (k, x)) (sym (joins (k, x)) ∙ h));
  }
  least_joined (Some a) None p q = record {
    none = λ k x e at h. no_value a (sym e);
    some = λ c e. let s = p.some c e in (s.0, s.1, of_left c.0 s.0 s.2);
    least = λ c k x e at h. ⊎_elim (λ f. p.least c k x e at f) (λ f. absurd (q.none k x refl at f)) (either_true (t (k, x)) (u (k, x)) (sym (joins (k, x)) ∙ h));
  }
  least_joined (Some a) (Some b) p q = by (nat_lt b.0 a.0) refl
    where
      of_one : (c : OwnerNo) → c.0 ≤ a.0 → c.0 ≤ b.0 → (x : X) → map.get m c.0 ≡ Some x → v (c.0, x) ≡ true → IsLeast v m (Some c)
      of_one c under_a under_b x at passes = record {
        none = λ k y e g h. no_value c (sym e);
        some = λ d e. (x, subst (λ (o : OwnerNo). map.get m o.0 ≡ Some x) (one_value e) at, subst (λ (o : OwnerNo). v (o.0, x) ≡ true) (one_value e) passes);
        least = λ d k y e g h.
            subst (λ (o : OwnerNo). o.0 ≤ k) (one_value e)
            (⊎_elim (λ f. let le : a.0 ≤ k = p.least a k y refl g f in omega (arith, under_a, le)) (λ f. let le : b.0 ≤ k = q.least b k y refl g f in omega (arith, under_b, le)) (either_true (t (k, y)) (u (k, y)) (sym (joins (k, y)) ∙ h)));
      }

      by : (z : Bool) → nat_lt b.0 a.0 ≡ z → IsLeast v m (cond z (Some b) (Some a))
      by true is = let s = q.some b refl in of_one b (omega (arith, ltb-true b.0 a.0 is)) (omega arith) s.0 s.1 (of_right b.0 s.0 s.2)
      by false is = let s = p.some a refl in of_one a (omega arith) (ltb-false b.0 a.0 is) s.0 s.1 (of_left a.0 s.0 s.2)

-- the least of a list of owners
pub record LeastOf (os : List (Option OwnerNo)) (o : Option OwnerNo) : Type 0 where
  pub none : (c : OwnerNo) → o ≡ None → Contains os (Some c) → ⊥
  pub some : (b : OwnerNo) → o ≡ Some b → Contains os (Some b)
  pub least : (b c : OwnerNo) → o ≡ Some b → Contains os (Some c) → b.0 ≤ c.0

pub least_is : (os : List (Option OwnerNo)) → LeastOf os (least_of os)
least_is [] = record { none = λ c e m. omega (arith, m.1); some = λ b e. no_value b e; least = λ b c e m. no_value b e }
least_is (o ∷ os) = by o (least_of os) (least_is os)
  where
    by : (o r : Option OwnerNo) → LeastOf os r → LeastOf (o ∷ os) (lesser o r)
    by None r l = record {
      none = λ c e m. ⊎_elim (λ h. no_value c h) (λ n. l.none c e n) (contains_cases None (Some c) os m);
      some = λ b e. contains_rest None (Some b) os (l.some b e);
      least = λ b c e m. ⊎_elim (λ h. no_value c h) (λ n. l.least b c e n) (contains_cases None (Some c) os m);
    }
    by (Some a) None l = record {
      none = λ c e m. no_value a (sym e);
      some = λ b e. subst (λ (x : Option OwnerNo). Contains (Some a ∷ os) x) e (contains_first (Some a) os);
      least = λ b c e m. ⊎_elim (λ h. let x : a ≡ b = one_value e in let y : a ≡ c = one_value h in let z : b.0 ≡ c.0 = ap (λ (q : OwnerNo). q.0) (sym x ∙ y) in omega (arith, z)) (λ n. absurd (l.none c refl n)) (contains_cases (Some a) (Some c) os m);
    }
    by (Some a) (Some r) l = on (nat_lt r.0 a.0) refl
      where
        of_one : (c : OwnerNo) → c.0 ≤ a.0 → c.0 ≤ r.0 → Contains (Some a ∷ os) (Some c) → LeastOf (Some a ∷ os) (Some c)
        of_one c under_a under_r there = record {
          none = λ d e m. no_value c (sym e);
          some = λ b e. subst (λ (x : Option OwnerNo). Contains (Some a ∷ os) x) e there;
          least = λ b d e m.
              subst (λ (q : OwnerNo). q.0 ≤ d.0) (one_value e)
              (⊎_elim (λ h. let same : a.0 ≡ d.0 = ap (λ (q : OwnerNo). q.0) (one_value h) in omega (arith, under_a, same)) (λ n. let le : r.0 ≤ d.0 = l.least r d refl n in omega (arith, under_r, le)) (contains_cases (Some a) (Some d) os m));
        }

        on : (z : Bool) → nat_lt r.0 a.0 ≡ z → LeastOf (Some a ∷ os) (cond z (Some r) (Some a))
        on true is = of_one r (omega (arith, ltb-true r.0 a.0 is)) (omega arith) (contains_rest (Some a) (Some r) os (l.some r refl))
        on false is = of_one a (omega arith) (ltb-false r.0 a.0 is) (contains_first (Some a) os)
