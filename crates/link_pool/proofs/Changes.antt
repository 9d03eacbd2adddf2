-- Rings after an insertion and after a place went out.
use Rattle.std.proofs.Common.{ℕ, zero, suc, ◌≡◌, ◌≤◌, ◌<◌, ◌⊎◌, inl, inr, ⊎_elim, List, [], ◌∷◌, ◌++◌, length, Bool, true, false, cond, not, filter, Option, Some, None, nat_eq, refl, sym, ap, ◌∙◌, subst, arith}
use Rattle.std.proofs.lemmas.Bool.{eq-eqb, cases_eq}
use Rattle.link_pool.specs.Linked.{In, Distinct, Path, walk, Linked}
use Rattle.link_pool.proofs.Paths.{in_front, in_back, in_either, apart, distinct_back, Split, split, not_equal, walked, last_in, split_path, frame, unlinked_path, IsGap, gap_prev, gap_next, first_in, inserted_path}

-- the places but this one
abbrev pub lacking : ℕ → List ℕ → List ℕ
lacking x xs = filter (λ y. not (nat_eq y x)) xs

-- the list of this head is this one
abbrev pub put_at : ℕ → List ℕ → (ℕ → List ℕ) → ℕ → List ℕ
put_at r xs lists q = cond (nat_eq q r) xs (lists q)

pub put_here : (r : ℕ) (xs : List ℕ) (lists : ℕ → List ℕ) (q : ℕ) → q ≡ r → put_at r xs lists q ≡ xs
put_here r xs lists q e = ap (λ b. cond b xs (lists q)) (eq-eqb q r e)

pub put_there : (r : ℕ) (xs : List ℕ) (lists : ℕ → List ℕ) (q : ℕ) → (q ≡ r → ⊥) → put_at r xs lists q ≡ lists q
put_there r xs lists q ne = ap (λ b. cond b xs (lists q)) (not_equal q r ne)

keep : (x y : ℕ) (ys : List ℕ) → (y ≡ x → ⊥) → lacking x (y ∷ ys) ≡ y ∷ lacking x ys
keep x y ys ne = ap (λ b. cond (not b) (y ∷ lacking x ys) (lacking x ys)) (not_equal y x ne)

leave : (x y : ℕ) (ys : List ℕ) → y ≡ x → lacking x (y ∷ ys) ≡ lacking x ys
leave x y ys e = ap (λ b. cond (not b) (y ∷ lacking x ys) (lacking x ys)) (eq-eqb y x e)

pub lacking_absent : (x : ℕ) (xs : List ℕ) → (In x xs → ⊥) → lacking x xs ≡ xs
lacking_absent x [] none = refl
lacking_absent x (y ∷ ys) none = keep x y ys (λ e. none (inl (sym e))) ∙ ap (λ l. y ∷ l) (lacking_absent x ys (λ m. none (inr m)))

pub lacking_split : (x : ℕ) (us vs : List ℕ) → Distinct (us ++ x ∷ vs) → lacking x (us ++ x ∷ vs) ≡ us ++ vs
lacking_split x [] vs d = leave x x vs refl ∙ lacking_absent x vs d.0
lacking_split x (u ∷ us) vs d = keep x u (us ++ x ∷ vs) (λ e. d.0 (in_back u us (x ∷ vs) (inl e))) ∙ ap (λ l. u ∷ l) (lacking_split x us vs d.1)

pub in_lacking : (x y : ℕ) (xs : List ℕ) → In y (lacking x xs) → In y xs × (y ≡ x → ⊥)
in_lacking x y [] m = absurd m
in_lacking x y (z ∷ zs) m =
    ⊎_elim
    (λ e. let k = in_lacking x y zs (subst (In y) (leave x z zs e) m) in (inr k.0, k.1))
    (λ ne. ⊎_elim (λ e. (inl e, λ o. ne (sym e ∙ o))) (λ k. let j = in_lacking x y zs k in (inr j.0, j.1)) (let h : In y (z ∷ lacking x zs) = subst (In y) (keep x z zs ne) m in h))
    (cases_eq z x)

pub still_in : (x y : ℕ) (xs : List ℕ) → In y xs → (y ≡ x → ⊥) → In y (lacking x xs)
still_in x y [] m ne = m
still_in x y (z ∷ zs) m ne =
    ⊎_elim
    (λ e. subst (In y) (sym (leave x z zs e)) (⊎_elim (λ h. absurd (ne (h ∙ e))) (λ k. still_in x y zs k ne) m))
    (λ no. subst (In y) (sym (keep x z zs no)) (⊎_elim (λ h. inl h) (λ k. inr (still_in x y zs k ne)) m))
    (cases_eq z x)

pub distinct_lacking : (x : ℕ) (xs : List ℕ) → Distinct xs → Distinct (lacking x xs)
distinct_lacking x [] d = tt
distinct_lacking x (z ∷ zs) d =
    ⊎_elim
    (λ e. subst Distinct (sym (leave x z zs e)) (distinct_lacking x zs d.1))
    (λ no. subst Distinct (sym (keep x z zs no)) (λ m. d.0 (in_lacking x z zs m).0, distinct_lacking x zs d.1))
    (cases_eq z x)

-- what stands in a list after x came in is x or stood there
in_put : (y x : ℕ) (us vs : List ℕ) → In y (us ++ x ∷ vs) → (y ≡ x) ⊎ In y (us ++ vs)
in_put y x us vs m = ⊎_elim (λ a. inr (in_front y us vs a)) (λ b. ⊎_elim (λ e. inl e) (λ n. inr (in_back y us vs n)) b) (in_either y us (x ∷ vs) m)

still_put : (y x : ℕ) (us vs : List ℕ) → In y (us ++ vs) → In y (us ++ x ∷ vs)
still_put y x us vs m = ⊎_elim (λ a. in_front y us (x ∷ vs) a) (λ b. in_back y us (x ∷ vs) (inr b)) (in_either y us vs m)

distinct_put : (x : ℕ) (us vs : List ℕ) → Distinct (us ++ vs) → (In x (us ++ vs) → ⊥) → Distinct (us ++ x ∷ vs)
distinct_put x [] vs d new = (new, d)
distinct_put x (u ∷ us) vs d new = (λ m. ⊎_elim (λ e. new (inl (sym e))) (λ k. d.0 k) (in_put u x us vs m), distinct_put x us vs d.1 (λ m. new (inr m)))

pub length-lacking : (x : ℕ) (xs : List ℕ) → Distinct xs → length xs ≤ suc (length (lacking x xs))
length-lacking x [] d = omega arith
length-lacking x (z ∷ zs) d =
    ⊎_elim
    (λ e. let same : lacking x (z ∷ zs) ≡ zs = leave x z zs e ∙ lacking_absent x zs (λ m. d.0 (subst (λ w. In w zs) (sym e) m)) in omega (arith, ap length same))
    (λ no. omega (arith, length-lacking x zs d.1, ap length (keep x z zs no)))
    (cases_eq z x)

-- distinct numbers below n are at most n
pub few_below : (n : ℕ) (xs : List ℕ) → Distinct xs → ((y : ℕ) → In y xs → y < n) → length xs ≤ n
few_below n [] d below = omega arith
few_below zero (x ∷ xs) d below = absurd (omega (arith, below x (inl refl)))
few_below (suc n) (x ∷ xs) d below =
    omega (arith, length-lacking n (x ∷ xs) d, few_below n (lacking n (x ∷ xs)) (distinct_lacking n (x ∷ xs) d) (λ y m. let k = in_lacking n y (x ∷ xs) m in let b = below y k.0 in let ne = k.1 in omega (arith, b, ne)))

pub record IsUnlinked (x : ℕ) (home home' : ℕ → Option ℕ) (next next' prev prev' : ℕ → ℕ) : Type 0 where
  pub homes : (y : ℕ) → (y ≡ x → ⊥) → home' y ≡ home y
  pub gone : home' x ≡ None
  pub forth : (y : ℕ) → (y ≡ x → ⊥) → (y ≡ prev x → ⊥) → next' y ≡ next y
  pub across : next' (prev x) ≡ next x
  pub back : (y : ℕ) → (y ≡ x → ⊥) → (y ≡ next x → ⊥) → prev' y ≡ prev y
  pub under : prev' (next x) ≡ prev x

pub record IsInserted (r x a b : ℕ) (home home' : ℕ → Option ℕ) (next next' prev prev' : ℕ → ℕ) : Type 0 where
  pub homes : (y : ℕ) → (y ≡ x → ⊥) → home' y ≡ home y
  pub stands : home' x ≡ Some r
  pub forth : (y : ℕ) → (y ≡ x → ⊥) → (y ≡ a → ⊥) → next' y ≡ next y
  pub across : next' a ≡ x
  pub here : next' x ≡ b
  pub back : (y : ℕ) → (y ≡ x → ⊥) → (y ≡ b → ⊥) → prev' y ≡ prev y
  pub under : prev' x ≡ a
  pub end : prev' b ≡ x

true_false : (b : Bool) → b ≡ true → b ≡ false → ⊥
true_false b s t = cc

two_homes : (h : Option ℕ) (q r : ℕ) → h ≡ Some q → h ≡ Some r → q ≡ r
two_homes h q r a b = cc

none_some : (h : Option ℕ) (r : ℕ) → h ≡ None → h ≡ Some r → ⊥
none_some h r a b = cc

module _ (lists : ℕ → List ℕ) (is_head : ℕ → Bool) (home : ℕ → Option ℕ) (next prev : ℕ → ℕ) (linked : Linked lists is_head home next prev) where
  rings_apart : (q r y : ℕ) → is_head q ≡ true → is_head r ≡ true → (q ≡ r → ⊥) → In y (q ∷ lists q) → In y (r ∷ lists r) → ⊥
  rings_apart q r y hq hr ne a b =
      ⊎_elim
      (λ e. ⊎_elim (λ f. ne (sym e ∙ f)) (λ n. none_some (home q) r (linked.no_home q hq) (ap home (sym e) ∙ linked.members r y hr n)) b)
      (λ m. ⊎_elim (λ f. none_some (home r) q (linked.no_home r hr) (ap home (sym f) ∙ linked.members q y hq m)) (λ n. ne (two_homes (home y) q r (linked.members q y hq m) (linked.members r y hr n))) b)
      a

  -- what x is linked to is of its ring
  pub next_in : (r x : ℕ) → is_head r ≡ true → In x (lists r) → In (next x) (r ∷ lists r)
  next_in r x h m = by (split x (lists r) m)
    where
      by : Split x (lists r) → In (next x) (r ∷ lists r)
      by s =
          let p = split_path next prev r x r s.front s.back (subst (λ l. Path next prev r l r) s.is (linked.path r h)) in
          ⊎_elim (λ e. inl e) (λ k. inr (subst (In (next x)) (sym s.is) (in_back (next x) s.front (x ∷ s.back) (inr k)))) (first_in next prev x r s.back p.1)

  pub prev_in : (r x : ℕ) → is_head r ≡ true → In x (lists r) → In (prev x) (r ∷ lists r)
  prev_in r x h m = by (split x (lists r) m)
    where
      by : Split x (lists r) → In (prev x) (r ∷ lists r)
      by s =
          let p = split_path next prev r x r s.front s.back (subst (λ l. Path next prev r l r) s.is (linked.path r h)) in
          ⊎_elim (λ e. inl e) (λ k. inr (subst (In (prev x)) (sym s.is) (in_front (prev x) s.front (x ∷ s.back) k))) (let f : (prev x ≡ r) ⊎ In (prev x) s.front = last_in next prev r x s.front p.0 in f)

  pub prev_other : (r x : ℕ) → is_head r ≡ true → In x (lists r) → prev x ≡ x → ⊥
  prev_other r x h m e = by (split x (lists r) m)
    where
      by : Split x (lists r) → ⊥
      by s =
          let p = split_path next prev r x r s.front s.back (subst (λ l. Path next prev r l r) s.is (linked.path r h)) in
          apart (prev x) (r ∷ s.front) (x ∷ s.back) (subst (λ l. Distinct (r ∷ l)) s.is (linked.distinct r h)) (last_in next prev r x s.front p.0) (inl e)

  pub next_other : (r x : ℕ) → is_head r ≡ true → In x (lists r) → next x ≡ x → ⊥
  next_other r x h m e = by (split x (lists r) m)
    where
      first : (vs : List ℕ) → Path next prev x vs r → (x ≡ r → ⊥) → (In x vs → ⊥) → ⊥
      first [] p ne out = ne (sym e ∙ p.0)
      first (v ∷ vs) p ne out = out (inl (sym e ∙ p.0))

      by : Split x (lists r) → ⊥
      by s =
          let p = split_path next prev r x r s.front s.back (subst (λ l. Path next prev r l r) s.is (linked.path r h)) in
          let d = subst (λ l. Distinct (r ∷ l)) s.is (linked.distinct r h) in
          first s.back p.1 (λ same. apart x (r ∷ s.front) (x ∷ s.back) d (inl same) (inl refl)) (distinct_back (r ∷ s.front) (x ∷ s.back) d).0

  -- what changes at one place that is in no ring, or the head of one with no other place
  module _ (r : ℕ) (is_head' : ℕ → Bool) (home' : ℕ → Option ℕ) (next' prev' : ℕ → ℕ) (heads : (q : ℕ) → (q ≡ r → ⊥) → is_head' q ≡ is_head q) (homes : (y : ℕ) → (y ≡ r → ⊥) → home' y ≡ home y)
      (forth : (y : ℕ) → (y ≡ r → ⊥) → next' y ≡ next y) (back : (y : ℕ) → (y ≡ r → ⊥) → prev' y ≡ prev y) where
    kept_path : (q : ℕ) → is_head q ≡ true → (In r (q ∷ lists q) → ⊥) → Path next' prev' q (lists q) q
    kept_path q h out =
        let other = λ (y : ℕ) (m : In y (q ∷ lists q)). λ (e : y ≡ r). out (subst (λ z. In z (q ∷ lists q)) e m) in
        frame next prev next' prev' q q (lists q) (linked.path q h) (λ y m. forth y (other y m)) (λ y m. back y (other y (inr m))) (back q (other q (inl refl)))

    kept_member : (q y : ℕ) → is_head q ≡ true → (In r (q ∷ lists q) → ⊥) → In y (lists q) → home' y ≡ Some q
    kept_member q y h out m = homes y (λ e. out (inr (subst (λ z. In z (lists q)) e m))) ∙ linked.members q y h m

    kept_home : (y q : ℕ) → home' r ≡ None → home' y ≡ Some q → (is_head q ≡ true) × In y (lists q)
    kept_home y q none e = linked.homes y q (sym (homes y (λ i. none_some (home' r) q none (ap home' (sym i) ∙ e))) ∙ e)

    other_head : (f : ℕ → Bool) (q : ℕ) → f r ≡ false → f q ≡ true → q ≡ r → ⊥
    other_head f q free led e = true_false (f r) (ap f (sym e) ∙ led) free

    nowhere : is_head r ≡ false → home r ≡ None → (q : ℕ) → is_head q ≡ true → In r (q ∷ lists q) → ⊥
    nowhere free none q h m = ⊎_elim (λ e. true_false (is_head r) (ap is_head e ∙ h) free) (λ k. none_some (home r) q none (linked.members q r h k)) m

    was : is_head' r ≡ false → (q : ℕ) → is_head' q ≡ true → is_head q ≡ true
    was free' q h = sym (heads q (other_head is_head' q free' h)) ∙ h

    -- r was in no ring and is in none
    pub elsewhere : is_head r ≡ false → home r ≡ None → is_head' r ≡ false → home' r ≡ None → Linked lists is_head' home' next' prev'
    elsewhere free none free' none' = record {
      path = λ q h. kept_path q (was free' q h) (nowhere free none q (was free' q h));
      distinct = λ q h. linked.distinct q (was free' q h);
      members = λ q y h m. kept_member q y (was free' q h) (nowhere free none q (was free' q h)) m;
      homes = λ y q e. let k = kept_home y q none' e in (heads q (other_head is_head q free k.0) ∙ k.0, k.1);
      no_home = λ q h. homes q (other_head is_head' q free' h) ∙ linked.no_home q (was free' q h);
    }

    -- r was the head of a ring with no other place, and is in no ring
    pub closed : is_head r ≡ true → lists r ≡ [] → is_head' r ≡ false → home' r ≡ None → Linked lists is_head' home' next' prev'
    closed led none free' none' = record {
      path = λ q h. kept_path q (was free' q h) (out q h);
      distinct = λ q h. linked.distinct q (was free' q h);
      members = λ q y h m. kept_member q y (was free' q h) (out q h) m;
      homes = λ y q e. let k = kept_home y q none' e in (heads q (λ i. subst (In y) (ap lists i ∙ none) k.1) ∙ k.0, k.1);
      no_home = λ q h. homes q (other_head is_head' q free' h) ∙ linked.no_home q (was free' q h);
    }
      where
        out : (q : ℕ) → is_head' q ≡ true → In r (q ∷ lists q) → ⊥
        out q h m = ⊎_elim (λ e. other_head is_head' q free' h (sym e)) (λ k. none_some (home r) q (linked.no_home r led) (linked.members q r (was free' q h) k)) m

    -- r was in no ring, and is the head of a ring with no other place
    pub opened : is_head r ≡ false → home r ≡ None → home' r ≡ None → is_head' r ≡ true → next' r ≡ r → prev' r ≡ r → Linked (put_at r [] lists) is_head' home' next' prev'
    opened free none none' led' forth' back' = record {
      path = λ q h. path_at q h (cases_eq q r);
      distinct = λ q h. distinct_at q h (cases_eq q r);
      members = λ q y h m. member_at q y h m (cases_eq q r);
      homes = λ y q e. let k = kept_home y q none' e in let ne = other_head is_head q free k.0 in (heads q ne ∙ k.0, subst (In y) (sym (put_there r [] lists q ne)) k.1);
      no_home = λ q h. no_home_at q h (cases_eq q r);
    }
      where
        path_at : (q : ℕ) → is_head' q ≡ true → (q ≡ r) ⊎ (q ≡ r → ⊥) → Path next' prev' q (put_at r [] lists q) q
        path_at q h (inl e) = subst (λ l. Path next' prev' q l q) (sym (put_here r [] lists q e)) (ap next' e ∙ forth' ∙ sym e, ap prev' e ∙ back' ∙ sym e)
        path_at q h (inr ne) = let g = sym (heads q ne) ∙ h in subst (λ l. Path next' prev' q l q) (sym (put_there r [] lists q ne)) (kept_path q g (nowhere free none q g))

        distinct_at : (q : ℕ) → is_head' q ≡ true → (q ≡ r) ⊎ (q ≡ r → ⊥) → Distinct (q ∷ put_at r [] lists q)
        distinct_at q h (inl e) = subst (λ l. Distinct (q ∷ l)) (sym (put_here r [] lists q e)) (λ m. m, tt)
        distinct_at q h (inr ne) = subst (λ l. Distinct (q ∷ l)) (sym (put_there r [] lists q ne)) (linked.distinct q (sym (heads q ne) ∙ h))

        member_at : (q y : ℕ) → is_head' q ≡ true → In y (put_at r [] lists q) → (q ≡ r) ⊎ (q ≡ r → ⊥) → home' y ≡ Some q
        member_at q y h m (inl e) = absurd (subst (In y) (put_here r [] lists q e) m)
        member_at q y h m (inr ne) = let g = sym (heads q ne) ∙ h in kept_member q y g (nowhere free none q g) (subst (In y) (put_there r [] lists q ne) m)

        no_home_at : (q : ℕ) → is_head' q ≡ true → (q ≡ r) ⊎ (q ≡ r → ⊥) → home' q ≡ None
        no_home_at q h (inl e) = ap home' e ∙ none'
        no_home_at q h (inr ne) = homes q ne ∙ linked.no_home q (sym (heads q ne) ∙ h)

  module _ (is_head' : ℕ → Bool) (home' : ℕ → Option ℕ) (next' prev' : ℕ → ℕ) (heads : (q : ℕ) → is_head' q ≡ is_head q) where
    pub unlinked : (r x : ℕ) → home x ≡ Some r → IsUnlinked x home home' next next' prev prev' → Linked (λ q. lacking x (lists q)) is_head' home' next' prev'
    unlinked r x at u = record {
      path = λ q hq. path_at q (sym (heads q) ∙ hq) (cases_eq q r);
      distinct = λ q hq. (λ m. (linked.distinct q (sym (heads q) ∙ hq)).0 (in_lacking x q (lists q) m).0, distinct_lacking x (lists q) (linked.distinct q (sym (heads q) ∙ hq)).1);
      members = λ q y hq m. let k = in_lacking x y (lists q) m in u.homes y k.1 ∙ linked.members q y (sym (heads q) ∙ hq) k.0;
      homes = λ y q e. still y q e (λ same. none_some (home' x) q u.gone (ap home' (sym same) ∙ e));
      no_home = λ q hq. let h = sym (heads q) ∙ hq in u.homes q (λ e. none_some (home q) r (linked.no_home q h) (ap home e ∙ at)) ∙ linked.no_home q h;
    }
      where
        own : (is_head r ≡ true) × In x (lists r)
        own = linked.homes x r at

        still : (y q : ℕ) → home' y ≡ Some q → (y ≡ x → ⊥) → (is_head' q ≡ true) × In y (lacking x (lists q))
        still y q e ne = let k = linked.homes y q (sym (u.homes y ne) ∙ e) in (heads q ∙ k.0, still_in x y (lists q) k.1 ne)

        ring : Split x (lists r) → Path next' prev' r (lacking x (lists r)) r
        ring s =
            let d = subst (λ l. Distinct (r ∷ l)) s.is (linked.distinct r own.0) in
            subst (λ l. Path next' prev' r l r) (sym (ap (lacking x) s.is ∙ lacking_split x s.front s.back d.1))
            (unlinked_path next prev next' prev' r x s.front s.back (subst (λ l. Path next prev r l r) s.is (linked.path r own.0)) d u.forth u.across u.back u.under)

        away : (q : ℕ) → is_head q ≡ true → (q ≡ r → ⊥) → (z : ℕ) → In z (r ∷ lists r) → (y : ℕ) → In y (q ∷ lists q) → y ≡ z → ⊥
        away q h ne z k y m e = rings_apart q r y h own.0 ne m (subst (λ w. In w (r ∷ lists r)) (sym e) k)

        path_at : (q : ℕ) → is_head q ≡ true → (q ≡ r) ⊎ (q ≡ r → ⊥) → Path next' prev' q (lacking x (lists q)) q
        path_at q h (inl e) = subst (λ w. Path next' prev' w (lacking x (lists w)) w) (sym e) (ring (split x (lists r) own.1))
        path_at q h (inr ne) =
            let out = away q h ne x (inr own.1) in
            subst (λ l. Path next' prev' q l q) (sym (lacking_absent x (lists q) (λ m. out x (inr m) refl)))
            (frame next prev next' prev' q q (lists q) (linked.path q h) (λ y m. u.forth y (out y m) (away q h ne (prev x) (prev_in r x own.0 own.1) y m))
            (λ y m. u.back y (out y (inr m)) (away q h ne (next x) (next_in r x own.0 own.1) y (inr m))) (u.back q (out q (inl refl)) (away q h ne (next x) (next_in r x own.0 own.1) q (inl refl))))

    module _ (r x a b : ℕ) (us vs : List ℕ) (hr : is_head r ≡ true) (is : lists r ≡ us ++ vs) (gap : IsGap next prev r us vs a b) (free : is_head x ≡ false) (none : home x ≡ None) (u : IsInserted r x a b home home' next next' prev prev') where
      head_not : {b : Bool} → b ≡ true → b ≡ false → ⊥
      head_not s t = cc

      fresh : (q : ℕ) → is_head q ≡ true → In x (q ∷ lists q) → ⊥
      fresh q h m = ⊎_elim (λ e. head_not h (ap is_head (sym e) ∙ free)) (λ k. none_some (home x) q none (linked.members q x h k)) m

      -- the list of r after x came in
      abbrev grown : ℕ → List ℕ
      grown = put_at r (us ++ x ∷ vs) lists

      was_list : (q : ℕ) → q ≡ r → lists q ≡ us ++ vs
      was_list q e = ap lists e ∙ is

      was_in : (y : ℕ) → In y (r ∷ us ++ vs) → In y (r ∷ lists r)
      was_in y m = subst (λ l. In y (r ∷ l)) (sym is) m

      path_at : (q : ℕ) → is_head q ≡ true → (q ≡ r) ⊎ (q ≡ r → ⊥) → Path next' prev' q (grown q) q
      path_at q h (inl e) =
          subst (λ l. Path next' prev' q l q) (sym (put_here r (us ++ x ∷ vs) lists q e))
          (subst (λ w. Path next' prev' w (us ++ x ∷ vs) w) (sym e)
          (inserted_path next prev next' prev' r x a b us vs gap (subst (λ l. Distinct (r ∷ l)) is (linked.distinct r hr)) (λ m. fresh r hr (was_in x m)) u.forth u.across u.here u.back u.under u.end))
      path_at q h (inr ne) =
          let out = λ (y : ℕ) (m : In y (q ∷ lists q)). λ (e : y ≡ x). fresh q h (subst (λ z. In z (q ∷ lists q)) e m) in
          let near = was_in a (in_front a (r ∷ us) vs (gap_prev next prev r us vs a b gap)) in
          let far = was_in b (⊎_elim (λ e. inl e) (λ k. in_back b (r ∷ us) vs k) (gap_next next prev r us vs a b gap)) in
          let away = λ (y z : ℕ) (k : In z (r ∷ lists r)) (m : In y (q ∷ lists q)). λ (e : y ≡ z). rings_apart q r y h hr ne m (subst (λ w. In w (r ∷ lists r)) (sym e) k) in
          subst (λ l. Path next' prev' q l q) (sym (put_there r (us ++ x ∷ vs) lists q ne))
          (frame next prev next' prev' q q (lists q) (linked.path q h) (λ y m. u.forth y (out y m) (away y a near m)) (λ y m. u.back y (out y (inr m)) (away y b far (inr m))) (u.back q (out q (inl refl)) (away q b far (inl refl))))

      distinct_at : (q : ℕ) → is_head q ≡ true → (q ≡ r) ⊎ (q ≡ r → ⊥) → Distinct (q ∷ grown q)
      distinct_at q h (inl e) =
          let l = was_list q e in
          subst (λ l. Distinct (q ∷ l)) (sym (put_here r (us ++ x ∷ vs) lists q e)) (distinct_put x (q ∷ us) vs (subst (λ l. Distinct (q ∷ l)) l (linked.distinct q h)) (λ m. fresh q h (subst (λ l. In x (q ∷ l)) (sym l) m)))
      distinct_at q h (inr ne) = subst (λ l. Distinct (q ∷ l)) (sym (put_there r (us ++ x ∷ vs) lists q ne)) (linked.distinct q h)

      old_member : (q y : ℕ) → is_head q ≡ true → In y (lists q) → home' y ≡ Some q
      old_member q y h m = u.homes y (λ e. fresh q h (inr (subst (λ z. In z (lists q)) e m))) ∙ linked.members q y h m

      member_at : (q y : ℕ) → is_head q ≡ true → In y (grown q) → (q ≡ r) ⊎ (q ≡ r → ⊥) → home' y ≡ Some q
      member_at q y h m (inl e) =
          ⊎_elim (λ f. ap home' f ∙ u.stands ∙ ap Some (sym e)) (λ k. old_member q y h (subst (In y) (sym (was_list q e)) k)) (in_put y x us vs (subst (In y) (put_here r (us ++ x ∷ vs) lists q e) m))
      member_at q y h m (inr ne) = old_member q y h (subst (In y) (put_there r (us ++ x ∷ vs) lists q ne) m)

      stays : (y q : ℕ) → In y (lists q) → (q ≡ r) ⊎ (q ≡ r → ⊥) → In y (grown q)
      stays y q m (inl e) = subst (In y) (sym (put_here r (us ++ x ∷ vs) lists q e)) (still_put y x us vs (subst (In y) (was_list q e) m))
      stays y q m (inr ne) = subst (In y) (sym (put_there r (us ++ x ∷ vs) lists q ne)) m

      home_at : (y q : ℕ) → home' y ≡ Some q → (y ≡ x) ⊎ (y ≡ x → ⊥) → (is_head' q ≡ true) × In y (grown q)
      home_at y q e (inl same) =
          let i : q ≡ r = two_homes (home' x) q r (ap home' (sym same) ∙ e) u.stands in
          (heads q ∙ ap is_head i ∙ hr, subst (In y) (sym (put_here r (us ++ x ∷ vs) lists q i)) (in_back y us (x ∷ vs) (inl same)))
      home_at y q e (inr ne) = let k = linked.homes y q (sym (u.homes y ne) ∙ e) in (heads q ∙ k.0, stays y q k.1 (cases_eq q r))

      pub inserted : Linked (put_at r (us ++ x ∷ vs) lists) is_head' home' next' prev'
      inserted = record {
        path = λ q hq. path_at q (sym (heads q) ∙ hq) (cases_eq q r);
        distinct = λ q hq. distinct_at q (sym (heads q) ∙ hq) (cases_eq q r);
        members = λ q y hq m. member_at q y (sym (heads q) ∙ hq) m (cases_eq q r);
        homes = λ y q e. home_at y q e (cases_eq y x);
        no_home = λ q hq. let h = sym (heads q) ∙ hq in u.homes q (λ e. head_not h (ap is_head e ∙ free)) ∙ linked.no_home q h;
      }

  -- the walk gives the lists
  pub walks : (n : ℕ) → ((r : ℕ) → is_head r ≡ true → length (lists r) ≤ n) → (r : ℕ) → is_head r ≡ true → walk n next r (next r) ≡ lists r
  walks n few r h = walked next prev r n r (lists r) (linked.path r h) (linked.distinct r h).0 (few r h)

  pub rewalked : (n : ℕ) → ((r : ℕ) → is_head r ≡ true → length (lists r) ≤ n) → Linked (λ r. walk n next r (next r)) is_head home next prev
  rewalked n few = record {
    path = λ r h. subst (λ l. Path next prev r l r) (sym (walks n few r h)) (linked.path r h);
    distinct = λ r h. subst (λ l. Distinct (r ∷ l)) (sym (walks n few r h)) (linked.distinct r h);
    members = λ r x h m. linked.members r x h (subst (In x) (walks n few r h) m);
    homes = λ x r e. let k = linked.homes x r e in (k.0, subst (In x) (sym (walks n few r k.0)) k.1);
    no_home = linked.no_home;
  }
