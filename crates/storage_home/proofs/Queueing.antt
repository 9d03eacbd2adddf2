-- Homes that wait with their next serials.
use Rattle.std.proofs.Common.{ℕ, zero, suc, ◌+◌, ◌-◌, ◌≡◌, ◌<◌, ◌≤◌, ◌⊎◌, List, [], ◌∷◌, ◌++◌, length, take, get_or, Option, Some, None, Bool, true, false, inl, inr, cond, refl, sym, ap, subst, ◌∙◌, arith, IsSome, rules}
use Rattle.std.specs.Prelude.{◌↔◌}
use Rattle.std.specs.Ordering.{nat_cmp, is_eq}
use Rattle.std.specs.List.{slice_get}
use Rattle.std.specs.BTreeMap.{BTreeMap, is_at}
use Rattle.type_layout.specs.declared.home.HomeNo.{HomeNo}
use Rattle.pss_catalog.proofs.Forest.{Compared, compared}
use Rattle.std.proofs.Math.Seq.{take-suc}
use Rattle.storage_home.specs.declared.extents.Block.{Block}
use Rattle.storage_home.specs.Extents.{is_held_in, IsNextIn}
use Rattle.storage_home.specs.inner.Queues.{Listed, waiting_at, IsApart, IsQueue, enqueued}
use Rattle.storage_home.proofs.Keeping.{same_or_not}
use Rattle.storage_home.proofs.Nexts.{tied, untied_below, untied_above}

-- ---- the least of which something holds

pub record Least (P : ℕ → Bool) (from most : ℕ) : Type 0 where
  pub number : ℕ
  pub from_there : from ≤ number
  pub at_most : number ≤ most
  pub holds_there : P number ≡ true
  pub none_before : (t : ℕ) → from ≤ t → t < number → P t ≡ false

least_by : (P : ℕ → Bool) (d from most : ℕ) → from + d ≡ most → P most ≡ true → Least P from most
least_by P zero from most is holds = record { number = most; from_there = omega (arith, is); at_most = omega arith; holds_there = holds; none_before = λ t le less. absurd (omega (arith, is, le, less)) }
least_by P (suc d) from most is holds = by (P from) refl (least_by P d (from + 1) most (omega (arith, is)) holds)
  where
    by : (b : Bool) → P from ≡ b → Least P (from + 1) most → Least P from most
    by true here rest = record { number = from; from_there = omega arith; at_most = omega (arith, is); holds_there = here; none_before = λ t le less. absurd (omega (arith, le, less)) }
    by false here rest = record {
      number = rest.number;
      from_there = (let l = rest.from_there in omega (arith, l));
      at_most = rest.at_most;
      holds_there = rest.holds_there;
      none_before = λ t le less. before t le less (same_or_not t from);
    }
      where
        before : (t : ℕ) → from ≤ t → t < rest.number → (t ≡ from) ⊎ (t ≡ from → ⊥) → P t ≡ false
        before t le less (inl same) = ap P same ∙ here
        before t le less (inr other) = rest.none_before t (above t le other (compared t from)) less
          where
            above : (t : ℕ) → from ≤ t → (t ≡ from → ⊥) → Compared t from → from + 1 ≤ t
            above t le other (inl less) = absurd (omega (arith, le, less))
            above t le other (inr (inl same)) = absurd (other same)
            above t le other (inr (inr more)) = omega (arith, more)

pub least : (P : ℕ → Bool) (from most : ℕ) → from ≤ most → P most ≡ true → Least P from most
least P from most le holds = least_by P (most - from) from most (omega (arith, le)) holds

-- ---- one home's next serial

module _ (extents : List (BTreeMap ℕ Block)) where
  -- there is one where one is held
  pub next_exists : (h from t : ℕ) → from ≤ t → is_held_in extents h t ≡ true → (u : ℕ) × IsNextIn extents h from (Some u) × (u ≤ t)
  next_exists h from t le held = let l = least (is_held_in extents h) from t le held in (l.number, (l.from_there, l.holds_there, l.none_before), l.at_most)

  clash : (b : Bool) → b ≡ true → b ≡ false → ⊥
  clash true p q = cc
  clash false p q = cc

  -- there is one at most
  pub next_is_one : (h from s t : ℕ) → IsNextIn extents h from (Some s) → IsNextIn extents h from (Some t) → s ≡ t
  next_is_one h from s t p q = by (compared s t)
    where
      by : Compared s t → s ≡ t
      by (inl less) = absurd (clash (is_held_in extents h s) p.1 (q.2 s p.0 less))
      by (inr (inl is)) = is
      by (inr (inr more)) = absurd (clash (is_held_in extents h t) q.1 (p.2 t q.0 more))

  pub never_next : (h from s : ℕ) → IsNextIn extents h from None → IsNextIn extents h from (Some s) → ⊥
  never_next h from s none p = clash (is_held_in extents h s) p.1 (none s p.0)

-- ---- looking up

pub here_at : (A : Type 0) (s q : ℕ) (x y : A) → s ≡ q → cond (is_at (nat_cmp s) q) x y ≡ x
here_at A s q x y same = ap (λ b. cond b x y) (subst (λ (k : ℕ). is_eq (nat_cmp s k) ≡ true) same (tied s))

pub not_at : (A : Type 0) (s q : ℕ) (x y : A) → (s ≡ q → ⊥) → cond (is_at (nat_cmp s) q) x y ≡ y
not_at A s q x y other = by (compared s q)
  where
    by : Compared s q → cond (is_at (nat_cmp s) q) x y ≡ y
    by (inl less) = ap (λ b. cond b x y) (untied_below s q less)
    by (inr (inl is)) = absurd (other is)
    by (inr (inr more)) = ap (λ b. cond b x y) (untied_above s q more)

same_home : (h g : HomeNo) → h.0 ≡ g.0 → h ≡ g
same_home h g e = λ i. record { 0 = e i }

-- ---- one more home waits

module _ (extents : List (BTreeMap ℕ Block)) (apart : IsApart extents) (heirs : List HomeNo) (home : HomeNo) where
  -- the first homes wait, and then this one too
  pub one_waits :
      (before : List HomeNo) (old new : List (ℕ × HomeNo)) (next : Option ℕ) → ((h : HomeNo) → Listed heirs h ↔ (Listed before h ⊎ (h ≡ home))) → IsQueue extents before 0 old → IsNextIn extents home.0 0 next
      → ((q : ℕ) → waiting_at q new ≡ enqueued next home q (waiting_at q old)) → IsQueue extents heirs 0 new
  one_waits before old new None all queue none turned s h = (
    λ at. let was = (queue s h).0 (sym (turned s) ∙ at) in ((all h).1 (inl was.0), was.1),
    λ waits. turned s ∙ by waits ((all h).0 waits.0),
  )
    where
      by : Listed heirs h × IsNextIn extents h.0 0 (Some s) → Listed before h ⊎ (h ≡ home) → waiting_at s old ≡ Some h
      by waits (inl there) = (queue s h).1 (there, waits.1)
      by waits (inr same) = absurd (never_next extents home.0 0 s none (subst (λ (g : HomeNo). IsNextIn extents g.0 0 (Some s)) same waits.1))
  one_waits before old new (Some t) all queue next turned s h = (λ at. down (same_or_not t s) at, λ waits. turned s ∙ up waits ((all h).0 waits.0) (same_or_not t s))
    where
      down : (t ≡ s) ⊎ (t ≡ s → ⊥) → waiting_at s new ≡ Some h → Listed heirs h × IsNextIn extents h.0 0 (Some s)
      down (inl same) at =
          let one : Some home ≡ Some h = sym (here_at (Option HomeNo) t s (Some home) (waiting_at s old) same) ∙ sym (turned s) ∙ at in
          let it : home ≡ h = cc in
          ((all h).1 (inr (sym it)), subst (λ (g : HomeNo). IsNextIn extents g.0 0 (Some s)) it (subst (λ (k : ℕ). IsNextIn extents home.0 0 (Some k)) same next))
      down (inr other) at = let was = (queue s h).0 (sym (not_at (Option HomeNo) t s (Some home) (waiting_at s old) other) ∙ sym (turned s) ∙ at) in ((all h).1 (inl was.0), was.1)

      up : Listed heirs h × IsNextIn extents h.0 0 (Some s) → Listed before h ⊎ (h ≡ home) → (t ≡ s) ⊎ (t ≡ s → ⊥) → cond (is_at (nat_cmp t) s) (Some home) (waiting_at s old) ≡ Some h
      up waits there (inl same) = here_at (Option HomeNo) t s (Some home) (waiting_at s old) same ∙ ap Some (same_home home h (apart home.0 h.0 s (subst (λ (k : ℕ). is_held_in extents home.0 k ≡ true) same next.1) waits.1.1))
      up waits (inl there) (inr other) = not_at (Option HomeNo) t s (Some home) (waiting_at s old) other ∙ (queue s h).1 (there, waits.1)
      up waits (inr it) (inr other) = absurd (other (next_is_one extents home.0 0 t s next (subst (λ (g : HomeNo). IsNextIn extents g.0 0 (Some s)) it waits.1)))

-- ---- the first of those that wait goes, and waits again

module _ (extents : List (BTreeMap ℕ Block)) (apart : IsApart extents) (heirs : List HomeNo) (from : ℕ) (old mid new : List (ℕ × HomeNo)) (queue : IsQueue extents heirs from old) (s0 : ℕ) (h0 : HomeNo) (first : waiting_at s0 old ≡ Some h0)
    (lowest : (q : ℕ) → IsSome (waiting_at q old) → s0 ≤ q) (taken : (q : ℕ) → waiting_at q mid ≡ cond (is_at (nat_cmp s0) q) None (waiting_at q old))
    (next : Option ℕ) (next_is : IsNextIn extents h0.0 (s0 + 1) next) (turned : (q : ℕ) → waiting_at q new ≡ enqueued next h0 q (waiting_at q mid)) where
  its : Listed heirs h0 × IsNextIn extents h0.0 from (Some s0)
  its = (queue s0 h0).0 first

  -- who waited behind the first waits still
  still : (s : ℕ) (h : HomeNo) → waiting_at s mid ≡ Some h → Listed heirs h × IsNextIn extents h.0 (s0 + 1) (Some s)
  still s h at = by (same_or_not s0 s)
    where
      by : (s0 ≡ s) ⊎ (s0 ≡ s → ⊥) → Listed heirs h × IsNextIn extents h.0 (s0 + 1) (Some s)
      by (inl same) = let no : None ≡ Some h = sym (here_at (Option HomeNo) s0 s None (waiting_at s old) same) ∙ sym (taken s) ∙ at in absurd cc
      by (inr other) =
          let was : waiting_at s old ≡ Some h = sym (not_at (Option HomeNo) s0 s None (waiting_at s old) other) ∙ sym (taken s) ∙ at in
          let waits = (queue s h).0 was in
          let low = lowest s (subst IsSome (sym was) (search rules)) in
          let first_from = its.1.0 in
          (waits.0, (above low other (compared s0 s), waits.1.1, λ t le less. waits.1.2 t (omega (arith, le, first_from)) less))
        where
          above : s0 ≤ s → (s0 ≡ s → ⊥) → Compared s0 s → s0 + 1 ≤ s
          above le other (inl less) = omega (arith, less)
          above le other (inr (inl is)) = absurd (other is)
          above le other (inr (inr more)) = absurd (omega (arith, le, more))

  -- another home waited with the same serial before
  waited : (s : ℕ) (h : HomeNo) → Listed heirs h → IsNextIn extents h.0 (s0 + 1) (Some s) → (h.0 ≡ h0.0 → ⊥) → waiting_at s mid ≡ Some h
  waited s h there is other =
      let above = is.0 in
      let first_from = its.1.0 in
      let u = next_exists extents h.0 from s (omega (arith, above, first_from)) is.1 in
      let at : waiting_at u.0 old ≡ Some h = (queue u.0 h).1 (there, u.1) in
      let low = lowest u.0 (subst IsSome (sym at) (search rules)) in
      let more = by u.0 u.1 low (compared s0 u.0) in
      let same : u.0 ≡ s = next_is_one extents h.0 (s0 + 1) u.0 s (more, u.1.1, λ t le less. u.1.2 t (omega (arith, le, first_from)) less) is in
      taken s ∙ not_at (Option HomeNo) s0 s None (waiting_at s old) (λ e. omega (arith, e, above)) ∙ subst (λ (k : ℕ). waiting_at k old ≡ Some h) same at
    where
      by : (u : ℕ) → IsNextIn extents h.0 from (Some u) → s0 ≤ u → Compared s0 u → s0 + 1 ≤ u
      by u next low (inl less) = omega (arith, less)
      by u next low (inr (inl is)) = absurd (other (apart h.0 h0.0 u next.1 (subst (λ (k : ℕ). is_held_in extents h0.0 k ≡ true) is its.1.1)))
      by u next low (inr (inr more)) = absurd (omega (arith, low, more))

  pub queue_on : IsQueue extents heirs (s0 + 1) new
  queue_on s h = by next next_is turned
    where
      by : (o : Option ℕ) → IsNextIn extents h0.0 (s0 + 1) o → ((q : ℕ) → waiting_at q new ≡ enqueued o h0 q (waiting_at q mid)) → (waiting_at s new ≡ Some h) ↔ (Listed heirs h × IsNextIn extents h.0 (s0 + 1) (Some s))
      by None none turned = (λ at. still s h (sym (turned s) ∙ at), λ waits. turned s ∙ waited s h waits.0 waits.1 (λ e. never_next extents h0.0 (s0 + 1) s none (subst (λ (k : ℕ). IsNextIn extents k (s0 + 1) (Some s)) e waits.1)))
      by (Some t) is turned = (λ at. down (same_or_not t s) at, λ waits. turned s ∙ up waits (same_or_not t s))
        where
          down : (t ≡ s) ⊎ (t ≡ s → ⊥) → waiting_at s new ≡ Some h → Listed heirs h × IsNextIn extents h.0 (s0 + 1) (Some s)
          down (inl same) at =
              let one : Some h0 ≡ Some h = sym (here_at (Option HomeNo) t s (Some h0) (waiting_at s mid) same) ∙ sym (turned s) ∙ at in
              let it : h0 ≡ h = cc in
              (subst (Listed heirs) it its.0, subst (λ (g : HomeNo). IsNextIn extents g.0 (s0 + 1) (Some s)) it (subst (λ (k : ℕ). IsNextIn extents h0.0 (s0 + 1) (Some k)) same is))
          down (inr other) at = still s h (sym (not_at (Option HomeNo) t s (Some h0) (waiting_at s mid) other) ∙ sym (turned s) ∙ at)

          up : Listed heirs h × IsNextIn extents h.0 (s0 + 1) (Some s) → (t ≡ s) ⊎ (t ≡ s → ⊥) → cond (is_at (nat_cmp t) s) (Some h0) (waiting_at s mid) ≡ Some h
          up waits (inl same) = here_at (Option HomeNo) t s (Some h0) (waiting_at s mid) same ∙ ap Some (same_home h0 h (apart h0.0 h.0 s (subst (λ (k : ℕ). is_held_in extents h0.0 k ≡ true) same is.1) waits.1.1))
          up waits (inr other) = not_at (Option HomeNo) t s (Some h0) (waiting_at s mid) other ∙ waited s h waits.0 waits.1 (λ e. other (next_is_one extents h0.0 (s0 + 1) t s is (subst (λ (k : ℕ). IsNextIn extents k (s0 + 1) (Some s)) e waits.1)))

-- ---- lists of homes

pub listed_on : (xs : List HomeNo) (x h : HomeNo) → Listed (xs ++ x ∷ []) h ↔ (Listed xs h ⊎ (h ≡ x))
listed_on xs x h = ((λ at. down xs at.0 at.1), (λ there. up there))
  where
    step : (y : HomeNo) (ys : List HomeNo) → Listed ys h ⊎ (h ≡ x) → Listed (y ∷ ys) h ⊎ (h ≡ x)
    step y ys (inl there) = inl (suc there.0, there.1)
    step y ys (inr is) = inr is

    down : (ys : List HomeNo) (i : ℕ) → slice_get (ys ++ x ∷ []) i ≡ Some h → Listed ys h ⊎ (h ≡ x)
    down [] zero at = inr cc
    down [] (suc i) at = cc
    down (y ∷ ys) zero at = inl (0, at)
    down (y ∷ ys) (suc i) at = step y ys (down ys i at)

    before : (ys : List HomeNo) (i : ℕ) → slice_get ys i ≡ Some h → slice_get (ys ++ x ∷ []) i ≡ Some h
    before [] i at = cc
    before (y ∷ ys) zero at = at
    before (y ∷ ys) (suc i) at = before ys i at

    last : (ys : List HomeNo) → slice_get (ys ++ x ∷ []) (length ys) ≡ Some x
    last [] = refl
    last (y ∷ ys) = last ys

    up : Listed xs h ⊎ (h ≡ x) → Listed (xs ++ x ∷ []) h
    up (inl there) = (there.0, before xs there.0 there.1)
    up (inr is) = (length xs, last xs ∙ ap (λ (g : HomeNo). Some g) (sym is))

pub listed_more : (heirs : List HomeNo) (i : ℕ) (d h : HomeNo) → i < length heirs → Listed (take (i + 1) heirs) h ↔ (Listed (take i heirs) h ⊎ (h ≡ get_or heirs i d))
listed_more heirs i d h within =
    let e : i + 1 ≡ suc i = omega arith in
    subst (λ l. Listed l h ↔ (Listed (take i heirs) h ⊎ (h ≡ get_or heirs i d))) (sym (ap (λ (n : ℕ). take n heirs) e ∙ take-suc heirs i d within)) (listed_on (take i heirs) (get_or heirs i d) h)
