-- What the places of nodes tell of who is below whom.
use Rattle.std.proofs.Common.{ℕ, zero, suc, ◌≡◌, ◌+◌, ◌-◌, ◌<◌, ◌≤◌, cond, ◌==◌, ◌⊎◌, inl, inr, refl, sym, ap, subst, ◌∙◌, arith}
use Rattle.std.specs.Prelude.{◌↔◌}
use Rattle.pss_catalog.specs.inner.Table.{AreLower, Up, here, up, Child, IsPlaced, IsOrdered, IsTop}
use Rattle.pss_catalog.proofs.Forest.{Compared, compared, same_place, other_place}

-- all are below 0
pub to_zero : (n : ℕ) (p : ℕ → ℕ) → AreLower n p → (f k : ℕ) → k ≤ f → k ≤ n → Up p k 0
to_zero n p lower f zero le within = here 0
to_zero n p lower zero (suc k) le within = absurd (omega (arith, le))
to_zero n p lower (suc f) (suc k) le within =
    let low = lower (suc k) (omega arith) within in
    up (suc k) 0 (omega arith) (to_zero n p lower f (p (suc k)) (omega (arith, low, le)) (omega (arith, low, within)))

-- whoever is below one is below the one above it
behind : (p : ℕ → ℕ) (j c : ℕ) → Up p j c → 0 < c → Up p j (p c)
behind p j c (here _) pos = up c (p c) pos (here (p c))
behind p j c (up _ _ posj rest) pos = up j (p c) posj (behind p (p j) c rest pos)

under : (p : ℕ → ℕ) (j c b : ℕ) → Up p j c → 0 < c → p c ≡ b → Up p j b
under p j c b below pos is = subst (Up p j) is (behind p j c below pos)

-- upwards numbers fall
pub falls : (n : ℕ) (p : ℕ → ℕ) → AreLower n p → (k a : ℕ) → Up p k a → k ≤ n → a ≤ k
falls n p lower k a (here _) le = omega arith
falls n p lower k a (up _ _ pos rest) le =
    let low = lower k pos le in
    let more = falls n p lower (p k) a rest (omega (arith, low, le)) in
    omega (arith, low, more)

module _ (n : ℕ) (p pl en : ℕ → ℕ) (lower : AreLower n p) (placed : IsPlaced n p pl en) where
  pub nested : (k a : ℕ) → Up p k a → k ≤ n → (pl a ≤ pl k) × (en k ≤ en a)
  nested k a (here _) le = (omega arith, omega arith)
  nested k a (up _ _ pos rest) le =
      let low = lower k pos le in
      let more = nested (p k) a rest (omega (arith, low, le)) in
      let inside = placed.inside k pos le in
      (omega (arith, more.0, inside.0), omega (arith, more.1, inside.1))

  -- one that is below another has a later place
  strict : (k a : ℕ) → Up p k a → k ≤ n → (k ≡ a → ⊥) → pl a < pl k
  strict k a (here _) le other = absurd (other refl)
  strict k a (up _ _ pos rest) le other =
      let low = lower k pos le in
      let more = nested (p k) a rest (omega (arith, low, le)) in
      let inside = placed.inside k pos le in
      omega (arith, more.0, inside.0)

  -- the node directly below b through which j is below it
  record Through (j b : ℕ) : Type 0 where
    number : ℕ
    positive : 0 < number
    below : p number ≡ b
    over : Up p j number
    low : number ≤ j

  through : (j b : ℕ) → Up p j b → j ≤ n → (j ≡ b → ⊥) → Through j b
  through j b (here _) le other = absurd (other refl)
  through j b (up _ _ pos rest) le other =
      let low = lower j pos le in
      by (compared (p j) b) (λ other. through (p j) b rest (omega (arith, low, le)) other)
    where
      further : Through (p j) b → Through j b
      further t = (let low = lower j pos le in let less = t.low in record { number = t.number; positive = t.positive; below = t.below; over = up j t.number pos t.over; low = omega (arith, low, less) })

      by : Compared (p j) b → ((p j ≡ b → ⊥) → Through (p j) b) → Through j b
      by (inl lt) more = further (more (λ e. omega (arith, e, lt)))
      by (inr (inl is)) more = record { number = j; positive = pos; below = is; over = here j; low = omega arith }
      by (inr (inr gt)) more = further (more (λ e. omega (arith, e, gt)))

  -- the later one is below the earlier, or their places lie apart
  abbrev Sides : ℕ → ℕ → Type 0
  Sides j k = Up p k j ⊎ ((en j ≤ pl k) ⊎ (en k ≤ pl j))

  sides : (f j k : ℕ) → k ≤ f → j < k → k ≤ n → Sides j k
  sides zero j k le less within = absurd (omega (arith, le, less))
  sides (suc f) j k le less within =
      let pos : 0 < k = omega (arith, less) in
      let low = lower k pos within in
      by pos low (compared j (p k))
      (λ before. sides f j (p k) (omega (arith, low, le)) before (omega (arith, low, within)))
      (λ after. sides f (p k) j (omega (arith, less, le)) after (omega (arith, less, within)))
    where
      -- k lies within the one above it
      earlier : 0 < k → Sides j (p k) → Sides j k
      earlier pos (inl above) = inl (up k j pos above)
      earlier pos (inr (inl apart)) = (let inside = (placed.inside k pos within).0 in inr (inl (omega (arith, apart, inside))))
      earlier pos (inr (inr apart)) = (let inside = (placed.inside k pos within).1 in inr (inr (omega (arith, apart, inside))))

      later : 0 < k → p k < j → Sides (p k) j → Sides j k
      later pos after (inl below) =
          let t = through j (p k) below (omega (arith, less, within)) (λ e. omega (arith, e, after)) in
          let low = t.low in
          let first : t.number < k = omega (arith, low, less) in
          let apart = placed.apart t.number k t.positive first within t.below in
          let inside = (nested j t.number t.over (omega (arith, less, within))).1 in
          inr (inl (omega (arith, apart, inside)))
      later pos after (inr (inl apart)) = (let inside = (placed.inside k pos within).1 in inr (inr (omega (arith, apart, inside))))
      later pos after (inr (inr apart)) = (let inside = (placed.inside k pos within).0 in inr (inl (omega (arith, apart, inside))))

      by : 0 < k → p k < k → Compared j (p k) → (j < p k → Sides j (p k)) → (p k < j → Sides (p k) j) → Sides j k
      by pos low (inl before) one other = earlier pos (one before)
      by pos low (inr (inl is)) one other = inl (up k j pos (subst (λ (b : ℕ). Up p (p k) b) (sym is) (here (p k))))
      by pos low (inr (inr after)) one other = later pos after (other after)

  -- one is below another exactly where its place is among those of the other
  pub below_is : (k a : ℕ) → k ≤ n → a ≤ n → Up p k a ↔ ((pl a ≤ pl k) × (pl k < en a))
  below_is k a within bound = (forth, λ h. back h.0 h.1 (compared a k))
    where
      forth : Up p k a → (pl a ≤ pl k) × (pl k < en a)
      forth below = (let inside = nested k a below within in let own = placed.proper k within in (inside.0, omega (arith, own, inside.1)))

      back : pl a ≤ pl k → pl k < en a → Compared a k → Up p k a
      back from to (inl less) = by (sides k a k (omega arith) less within)
        where
          by : Sides a k → Up p k a
          by (inl below) = below
          by (inr (inl apart)) = absurd (omega (arith, apart, to))
          by (inr (inr apart)) = (let own = placed.proper k within in absurd (omega (arith, apart, own, from)))
      back from to (inr (inl is)) = subst (λ (b : ℕ). Up p k b) (sym is) (here k)
      back from to (inr (inr more)) = by (sides a k a (omega arith) more bound)
        where
          by : Sides k a → Up p k a
          by (inl below) = (let after = strict a k below bound (λ e. omega (arith, e, more)) in absurd (omega (arith, after, from)))
          by (inr (inl apart)) = (let own = placed.proper k within in absurd (omega (arith, apart, own, from)))
          by (inr (inr apart)) = absurd (omega (arith, apart, to))

  not_same : (j k : ℕ) → j < k → k ≤ n → pl j ≡ pl k → ⊥
  not_same j k less within same = by (sides k j k (omega arith) less within)
    where
      by : Sides j k → ⊥
      by (inl below) = (let after = strict k j below within (λ e. omega (arith, e, less)) in omega (arith, after, same))
      by (inr (inl apart)) = (let own = placed.proper j (omega (arith, less, within)) in omega (arith, apart, own, same))
      by (inr (inr apart)) = (let own = placed.proper k within in omega (arith, apart, own, same))

  pub positive_place : (k : ℕ) → 0 < k → k ≤ n → 0 < pl k
  positive_place k pos within = (let inside = placed.inside k pos within in omega (arith, inside.0))

  pub place_within : (k : ℕ) → k ≤ n → pl k ≤ n
  place_within k within =
      let inside = (nested k 0 (to_zero n p lower k k (omega arith) within) within).1 in
      let own = placed.proper k within in
      let all = placed.whole in
      omega (arith, inside, own, all)

  pub end_within : (k : ℕ) → k ≤ n → en k ≤ n + 1
  end_within k within =
      let inside = (nested k 0 (to_zero n p lower k k (omega arith) within) within).1 in
      let all = placed.whole in
      omega (arith, inside, all)

  -- the one below a that has this place
  pub record Someone (a q : ℕ) : Type 0 where
    pub number : ℕ
    pub within : number ≤ n
    pub below : Up p number a
    pub place : pl number ≡ q

  pub someone : (f a q : ℕ) → n < a + f → a ≤ n → pl a ≤ q → q < en a → Someone a q
  someone zero a q many bound from to = absurd (omega (arith, many, bound))
  someone (suc f) a q many bound from to =
      by (compared q (pl a))
      (λ child. (let low = lower child.number child.positive child.within in let is = child.below in someone f child.number q (omega (arith, many, low, is)) child.within child.begins child.stops))
    where
      by : Compared q (pl a) → ((child : Child n p pl en a q) → Someone child.number q) → Someone a q
      by (inl less) more = absurd (omega (arith, less, from))
      by (inr (inl is)) more = record { number = a; within = bound; below = here a; place = sym is }
      by (inr (inr after)) more =
          let child = placed.filled a q bound after to in
          let found = more child in
          record { number = found.number; within = found.within; below = under p found.number child.number a found.below child.positive child.below; place = found.place }

  -- ---- the order

  pub one_ordered : (od oe : ℕ → ℕ) (h : ℕ) → 0 < h → h ≤ n → IsOrdered h pl od → ((j : ℕ) → oe j ≡ cond (j == pl h - 1) h (od j)) → IsOrdered (h + 1) pl oe
  one_ordered od oe h pos within ordered changed k posk less = by (compared k h)
    where
      by : Compared k h → oe (pl k - 1) ≡ k
      by (inl before) =
          let a = positive_place k posk (omega (arith, before, within)) in
          let b = positive_place h pos within in
          changed (pl k - 1) ∙ other_place (pl h - 1) (pl k - 1) h (od (pl k - 1)) (λ e. not_same k h before within (omega (arith, e, a, b))) ∙ ordered k posk before
      by (inr (inl is)) = changed (pl k - 1) ∙ same_place (pl h - 1) (pl k - 1) h (od (pl k - 1)) (ap (λ (j : ℕ). pl j - 1) is) ∙ sym is
      by (inr (inr after)) = absurd (omega (arith, after, less))

-- ---- the tops

pub one_topped : (n : ℕ) (p : ℕ → ℕ) → AreLower n p → (rt rs : ℕ → ℕ) (h : ℕ) → 0 < h → h ≤ n → ((k : ℕ) → 0 < k → k < h → IsTop p k (rt k)) → ((j : ℕ) → rs j ≡ cond (j == h) (cond (p h == 0) h (rt (p h))) (rt j)) → (k : ℕ) → 0 < k → k < h + 1 → IsTop p k (rs k)
one_topped n p lower rt rs h pos within tops changed k posk less = by (compared k h)
  where
    top : Compared (p h) 0 → IsTop p h (cond (p h == 0) h (rt (p h)))
    top (inl lt) = absurd (omega (arith, lt))
    top (inr (inl is)) = subst (IsTop p h) (sym (same_place 0 (p h) h (rt (p h)) is)) (pos, omega arith, here h, is)
    top (inr (inr some)) =
        let low = lower h pos within in
        let t = tops (p h) some low in
        let least = t.1 in
        subst (IsTop p h) (sym (other_place 0 (p h) h (rt (p h)) (λ e. omega (arith, e, some)))) (t.0, omega (arith, least, low), up h (rt (p h)) pos t.2, t.3)

    by : Compared k h → IsTop p k (rs k)
    by (inl before) = subst (IsTop p k) (sym (changed k ∙ other_place h k _ _ (λ e. omega (arith, e, before)))) (tops k posk before)
    by (inr (inl is)) = subst (λ (j : ℕ). IsTop p j (rs j)) (sym is) (subst (IsTop p h) (sym (changed h ∙ same_place h h _ _ refl)) (top (compared (p h) 0)))
    by (inr (inr after)) = absurd (omega (arith, after, less))
