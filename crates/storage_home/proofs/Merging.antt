-- The objects below a serial, one after the other.
use Rattle.std.proofs.Common.{ℕ, ◌+◌, ◌≡◌, ◌<◌, ◌≤◌, ◌==◌, List, [], ◌∷◌, ◌++◌, length, map, filter, take, Option, Some, None, Bool, true, false, inl, inr, cond, refl, sym, ap, subst, ◌∙◌, arith, IsSome, rules}
use Rattle.std.specs.Prelude.{nat_lt, T, ◌&&◌}
use Rattle.std.specs.Ordering.{nat_cmp, is_lt, eq_by_cmp}
use Rattle.std.specs.FinMap.{get, entries, entries_sorted, get-entries, find, is_sorted}
use Rattle.std.specs.FinMap.Entries.{below_all}
use Rattle.std.specs.BTreeMap.{BTreeMap}
use Rattle.std.proofs.lemmas.Bool.{eqb-true, eq-eqb}
use Rattle.std.proofs.lemmas.Bool.Decides.{nat_tests}
use Rattle.pss_base.specs.declared.pid.Pid.{Pid}
use Rattle.type_layout.specs.declared.home.HomeNo.{HomeNo}
use Rattle.type_layout.specs.declared.schema.Schema.{Schema}
use Rattle.type_layout.specs.Schemas.{descends}
use Rattle.type_layout.proofs.Bases.{means}
use Rattle.pss_catalog.specs.Catalog.{Object, Catalog, pid_of, pids_where}
use Rattle.pss_catalog.proofs.Forest.{Compared, compared}
use Rattle.pss_catalog.proofs.Listing.{tie}
use Rattle.storage_home.specs.declared.extents.Block.{Block}
use Rattle.storage_home.specs.Extents.{is_held_in}
use Rattle.storage_home.specs.Kept.{IsKept, is_of, is_object_of}
use Rattle.storage_home.specs.declared.parts.Parts.{Parts}
use Rattle.storage_home.proofs.Taking.{some_there}
use Rattle.pss_catalog.specs.Families.{AreHeirs}
use Rattle.storage_home.specs.inner.Queues.{Listed, waiting_at, IsApart, AreIn, IsQueue, IsListing, after, below}
use Rattle.storage_home.proofs.Places.{by_test}
use Rattle.storage_home.proofs.Queueing.{next_exists}

-- ---- entries by rising serials

first : (a b : Bool) → T (a && b) → T a
first true b p = tt
first false b p = p

second : (a b : Bool) → T (a && b) → T b
second true b p = p
second false b p = absurd p

less_is : (a b : ℕ) → T (is_lt (nat_cmp a b)) → a < b
less_is a b e = grind (arith, nat_tests)

is_below : (a b : ℕ) → a < b → nat_lt a b ≡ true
is_below a b l = grind (arith, nat_tests)

not_below : (a b : ℕ) → b ≤ a → nat_lt a b ≡ false
not_below a b l = grind (arith, nat_tests)

abbrev passing : (Object → Bool) → List (ℕ × Object) → List Pid
passing test es = map pid_of (filter (λ e. test e.1) es)

-- all pass a serial
abbrev Above : ℕ → List (ℕ × Object) → Type 0
Above k es = T (below_all nat_cmp k es)

found_above : (k : ℕ) (es : List (ℕ × Object)) → Above k es → (t : ℕ) (o : Object) → find nat_cmp t es ≡ Some o → k < t
found_above k [] above t o at = cc
found_above k (e ∷ es) above t o at = by (eq_by_cmp nat_cmp t e.0) refl at (found_above k es (second _ _ above) t o)
  where
    by : (b : Bool) → eq_by_cmp nat_cmp t e.0 ≡ b → cond b (Some e.1) (find nat_cmp t es) ≡ Some o → (find nat_cmp t es ≡ Some o → k < t) → k < t
    by true is at rest = let same : t ≡ e.0 = eqb-true t e.0 (sym (tie t e.0) ∙ is) in let l = less_is k e.0 (first _ _ above) in omega (arith, same, l)
    by false is at rest = rest at

found_here : (e : ℕ × Object) (es : List (ℕ × Object)) → find nat_cmp e.0 (e ∷ es) ≡ Some e.1
found_here e es = ap (λ b. cond b (Some e.1) (find nat_cmp e.0 es)) (tie e.0 e.0 ∙ eq-eqb e.0 e.0 refl)

found_behind : (e : ℕ × Object) (es : List (ℕ × Object)) (t : ℕ) → e.0 < t → find nat_cmp t (e ∷ es) ≡ find nat_cmp t es
found_behind e es t less = ap (λ b. cond b (Some e.1) (find nat_cmp t es)) (tie t e.0 ∙ other)
  where
    other : (t == e.0) ≡ false
    other = grind (arith, nat_tests)

-- above a serial none is below it
none_below : (test : Object → Bool) (from : ℕ) (es : List (ℕ × Object)) (k : ℕ) → Above k es → from ≤ k + 1 → below from (passing test es) ≡ []
none_below test from [] k above le = refl
none_below test from (e ∷ es) k above le =
    by_test (λ b. below from (map pid_of (cond b (e ∷ filter (λ x. test x.1) es) (filter (λ x. test x.1) es))) ≡ []) (test e.1)
    (λ _. ap (λ b. cond b (pid_of e ∷ below from (passing test es)) (below from (passing test es))) (not_below e.0 from (let l = less_is k e.0 (first _ _ above) in omega (arith, l, le))) ∙ none_below test from es k (second _ _ above) le)
    (λ _. none_below test from es k (second _ _ above) le)

-- ---- one more

module _ (test : Object → Bool) (from s0 : ℕ) (o0 : Object) (passes : test o0 ≡ true) (le : from ≤ s0) where
  one_more :
      (es : List (ℕ × Object)) → T (is_sorted nat_cmp es) → find nat_cmp s0 es ≡ Some o0 → ((t : ℕ) (o : Object) → find nat_cmp t es ≡ Some o → test o ≡ true → from ≤ t → s0 ≤ t)
      → below (s0 + 1) (passing test es) ≡ below from (passing test es) ++ pid_of (s0, o0) ∷ []
  one_more [] sorted at lowest = cc
  one_more (e ∷ es) sorted at lowest =
      by (compared e.0 s0) (λ at_rest low_rest. one_more es (second _ _ sorted) at_rest low_rest)
    where
      above : Above e.0 es
      above = first _ _ sorted

      lower : e.0 < s0 → (b : Bool) → test e.1 ≡ b → below (s0 + 1) (passing test es) ≡ below from (passing test es) ++ pid_of (s0, o0) ∷ []
          → below (s0 + 1) (map pid_of (cond b (e ∷ filter (λ x. test x.1) es) (filter (λ x. test x.1) es))) ≡ below from (map pid_of (cond b (e ∷ filter (λ x. test x.1) es) (filter (λ x. test x.1) es))) ++ pid_of (s0, o0) ∷ []
      lower less true is rest =
          let before : e.0 < from = under (compared e.0 from) in
          ap (λ b. cond b (pid_of e ∷ below (s0 + 1) (passing test es)) (below (s0 + 1) (passing test es))) (is_below e.0 (s0 + 1) (omega (arith, less)))
          ∙ ap (λ l. pid_of e ∷ l) rest
          ∙ sym (ap (λ b. cond b (pid_of e ∷ below from (passing test es)) (below from (passing test es)) ++ pid_of (s0, o0) ∷ []) (is_below e.0 from before))
        where
          under : Compared e.0 from → e.0 < from
          under (inl l) = l
          under (inr (inl same)) = let low = lowest e.0 e.1 (found_here e es) is (omega (arith, same)) in absurd (omega (arith, low, less))
          under (inr (inr more)) = let low = lowest e.0 e.1 (found_here e es) is (omega (arith, more)) in absurd (omega (arith, low, less))
      lower less false is rest = rest

      by : Compared e.0 s0 → (find nat_cmp s0 es ≡ Some o0 → ((t : ℕ) (o : Object) → find nat_cmp t es ≡ Some o → test o ≡ true → from ≤ t → s0 ≤ t) → below (s0 + 1) (passing test es) ≡ below from (passing test es) ++ pid_of (s0, o0) ∷ [])
          → below (s0 + 1) (passing test (e ∷ es)) ≡ below from (passing test (e ∷ es)) ++ pid_of (s0, o0) ∷ []
      by (inl less) rest =
          lower less (test e.1) refl (rest (sym (found_behind e es s0 less) ∙ at)
          (λ t o found pass from_there. lowest t o (found_behind e es t (found_above e.0 es above t o found) ∙ found) pass from_there))
      by (inr (inl same)) rest =
          let one : Some e.1 ≡ Some o0 = sym (found_here e es) ∙ ap (λ (k : ℕ). find nat_cmp k (e ∷ es)) same ∙ at in
          let it : e.1 ≡ o0 = cc in
          let is : test e.1 ≡ true = ap test it ∙ passes in
          let whole : pid_of e ≡ pid_of (s0, o0) = λ i. pid_of (same i, it i) in
          ap (λ b. below (s0 + 1) (map pid_of (cond b (e ∷ filter (λ x. test x.1) es) (filter (λ x. test x.1) es)))) is
          ∙ ap (λ b. cond b (pid_of e ∷ below (s0 + 1) (passing test es)) (below (s0 + 1) (passing test es))) (is_below e.0 (s0 + 1) (omega (arith, same)))
          ∙ (λ i. whole i ∷ none_below test (s0 + 1) es e.0 above (omega (arith, same)) i)
          ∙ sym (ap (λ l. l ++ pid_of (s0, o0) ∷ [])
          (ap (λ b. below from (map pid_of (cond b (e ∷ filter (λ x. test x.1) es) (filter (λ x. test x.1) es)))) is
          ∙ ap (λ b. cond b (pid_of e ∷ below from (passing test es)) (below from (passing test es))) (not_below e.0 from (omega (arith, same, le)))
          ∙ none_below test from es e.0 above (omega (arith, same, le))))
      by (inr (inr more)) rest = absurd (nothing at)
        where
          nothing : find nat_cmp s0 (e ∷ es) ≡ Some o0 → ⊥
          nothing found = by_find (eq_by_cmp nat_cmp s0 e.0) refl found
            where
              by_find : (b : Bool) → eq_by_cmp nat_cmp s0 e.0 ≡ b → cond b (Some e.1) (find nat_cmp s0 es) ≡ Some o0 → ⊥
              by_find true is found = let same : s0 ≡ e.0 = eqb-true s0 e.0 (sym (tie s0 e.0) ∙ is) in omega (arith, same, more)
              by_find false is found = let l = found_above e.0 es above s0 o0 found in omega (arith, l, more)

-- ---- no more

all_below : (test : Object → Bool) (from : ℕ) (es : List (ℕ × Object)) → T (is_sorted nat_cmp es) → ((t : ℕ) (o : Object) → find nat_cmp t es ≡ Some o → test o ≡ true → t < from) → below from (passing test es) ≡ passing test es
all_below test from [] sorted less = refl
all_below test from (e ∷ es) sorted less =
    by (test e.1) refl (all_below test from es (second _ _ sorted) (λ t o found pass. less t o (found_behind e es t (found_above e.0 es (first _ _ sorted) t o found) ∙ found) pass))
  where
    by : (b : Bool) → test e.1 ≡ b → below from (passing test es) ≡ passing test es → below from (map pid_of (cond b (e ∷ filter (λ x. test x.1) es) (filter (λ x. test x.1) es))) ≡ map pid_of (cond b (e ∷ filter (λ x. test x.1) es) (filter (λ x. test x.1) es))
    by true is rest = ap (λ b. cond b (pid_of e ∷ below from (passing test es)) (below from (passing test es))) (is_below e.0 from (less e.0 e.1 (found_here e es) is)) ∙ ap (λ l. pid_of e ∷ l) rest
    by false is rest = rest

-- what is below a serial stands in front
in_front : (test : Object → Bool) (from : ℕ) (es : List (ℕ × Object)) → T (is_sorted nat_cmp es) → below from (passing test es) ≡ take (length (below from (passing test es))) (passing test es)
in_front test from [] sorted = refl
in_front test from (e ∷ es) sorted = by (test e.1) refl (compared e.0 from) (in_front test from es (second _ _ sorted))
  where
    above : Above e.0 es
    above = first _ _ sorted

    none : from ≤ e.0 → below from (passing test (e ∷ es)) ≡ [] → below from (passing test (e ∷ es)) ≡ take (length (below from (passing test (e ∷ es)))) (passing test (e ∷ es))
    none le is = is ∙ sym (ap (λ l. take (length l) (passing test (e ∷ es))) is)

    empty : test e.1 ≡ true → from ≤ e.0 → below from (passing test (e ∷ es)) ≡ []
    empty is le = ap (λ b. below from (map pid_of (cond b (e ∷ filter (λ x. test x.1) es) (filter (λ x. test x.1) es)))) is
        ∙ ap (λ b. cond b (pid_of e ∷ below from (passing test es)) (below from (passing test es))) (not_below e.0 from le) ∙ none_below test from es e.0 above (omega (arith, le))

    by : (b : Bool) → test e.1 ≡ b → Compared e.0 from → below from (passing test es) ≡ take (length (below from (passing test es))) (passing test es) → below from (passing test (e ∷ es)) ≡ take (length (below from (passing test (e ∷ es)))) (passing test (e ∷ es))
    by true is (inl less) rest =
        let list : passing test (e ∷ es) ≡ pid_of e ∷ passing test es = ap (λ b. map pid_of (cond b (e ∷ filter (λ x. test x.1) es) (filter (λ x. test x.1) es))) is in
        let low : below from (passing test (e ∷ es)) ≡ pid_of e ∷ below from (passing test es) = ap (below from) list ∙ ap (λ b. cond b (pid_of e ∷ below from (passing test es)) (below from (passing test es))) (is_below e.0 from less) in
        low ∙ ap (λ l. pid_of e ∷ l) rest ∙ sym (λ i. take (length (low i)) (list i))
    by true is (inr (inl same)) rest = none (omega (arith, same)) (empty is (omega (arith, same)))
    by true is (inr (inr more)) rest = none (omega (arith, more)) (empty is (omega (arith, more)))
    by false is c rest =
        let list : passing test (e ∷ es) ≡ passing test es = ap (λ b. map pid_of (cond b (e ∷ filter (λ x. test x.1) es) (filter (λ x. test x.1) es))) is in
        subst (λ l. below from l ≡ take (length (below from l)) l) (sym list) rest

-- nothing is below 0
pub below_none : (pids : List Pid) → below 0 pids ≡ []
below_none [] = refl
below_none (p ∷ ps) = ap (λ b. cond b (p ∷ below 0 ps) (below 0 ps)) (not_below p.serial 0 (omega arith)) ∙ below_none ps

-- ---- the serial behind the last

pub after_one : (from : ℕ) (pids : List Pid) (p : Pid) → after from (pids ++ p ∷ []) ≡ p.serial + 1
after_one from [] p = refl
after_one from (q ∷ qs) p = after_one (q.serial + 1) qs p

-- ---- a listing

module _ (S : Schema) (M : Catalog) (home : HomeNo) (extents : List (BTreeMap ℕ Block)) (heirs : List HomeNo) (listing : IsListing S M home extents heirs) where
  -- the object behind a held serial
  object_held : (h : HomeNo) (s : ℕ) → is_held_in extents h.0 s ≡ true → (o : Object) × (get M s ≡ Some o) × (o.home ≡ h)
  object_held h s held = by (get M s) refl (sym (listing.extents_are h.0 s) ∙ held)
    where
      by : (x : Option Object) → get M s ≡ x → is_object_of h.0 x ≡ true → (o : Object) × (get M s ≡ Some o) × (o.home ≡ h)
      by None at is = cc
      by (Some o) at is = (o, at, λ i. record { 0 = eqb-true o.home.0 h.0 is i })

  -- an object of the listing is held in the extent of one of the homes
  held_object : (s : ℕ) (o : Object) → get M s ≡ Some o → is_of S home o ≡ true → Listed heirs o.home × (is_held_in extents o.home.0 s ≡ true)
  held_object s o at is =
      let derives = (means S o.home home (descends S o.home home) refl listing.sound).0 is in
      let there = listing.heirs_are.all o.home (listing.there s o at) derives in
      ((there.0, there.1), listing.extents_are o.home.0 s ∙ ap (is_object_of o.home.0) at ∙ eq-eqb o.home.0 o.home.0 refl)

  module _ (from : ℕ) (queue : List (ℕ × HomeNo)) (waits : IsQueue extents heirs from queue) where
    -- an object from there on waits, or another of its home before it
    waiting_before : (t : ℕ) (o : Object) → get M t ≡ Some o → is_of S home o ≡ true → from ≤ t → (u : ℕ) × IsSome (waiting_at u queue) × (u ≤ t)
    waiting_before t o at is le =
        let held = held_object t o at is in
        let u = next_exists extents o.home.0 from t le held.1 in
        (u.0, subst IsSome (sym ((waits u.0 o.home).1 (held.0, u.1))) (search rules), u.2)

    pub more_listed :
        (s0 : ℕ) (h0 : HomeNo) → waiting_at s0 queue ≡ Some h0 → ((q : ℕ) → IsSome (waiting_at q queue) → s0 ≤ q)
        → below (s0 + 1) (pids_where (is_of S home) M) ≡ below from (pids_where (is_of S home) M) ++ (record { home = h0.0; serial = s0 }) ∷ []
    more_listed s0 h0 at lowest =
        let its = (waits s0 h0).0 at in
        let object = object_held h0 s0 its.1.1 in
        let derives = listing.heirs_are.derive its.0.0 h0 its.0.1 in
        let passes : is_of S home object.0 ≡ true = subst (λ h. descends S h home ≡ true) (sym object.2) ((means S h0 home (descends S h0 home) refl listing.sound).1 derives.1) in
        one_more (is_of S home) from s0 object.0 passes its.1.0 (entries M) (entries_sorted M) (sym (get-entries M s0) ∙ object.1)
        (λ t o found pass le. let u = waiting_before t o (get-entries M t ∙ found) pass le in let low = lowest u.0 u.1 in let less = u.2 in omega (arith, low, less))
        ∙ ap (λ p. below from (pids_where (is_of S home) M) ++ p ∷ []) (λ i. record { home = (object.2 i).0; serial = s0 })

    pub all_listed : ((q : ℕ) → waiting_at q queue ≡ None) → below from (pids_where (is_of S home) M) ≡ pids_where (is_of S home) M
    all_listed none = all_below (is_of S home) from (entries M) (entries_sorted M) (λ t o found pass. by t o (get-entries M t ∙ found) pass (compared t from))
      where
        by : (t : ℕ) (o : Object) → get M t ≡ Some o → is_of S home o ≡ true → Compared t from → t < from
        by t o at pass (inl less) = less
        by t o at pass (inr (inl same)) = let u = waiting_before t o at pass (omega (arith, same)) in absurd (no u.0 u.1)
          where
            no : (u : ℕ) → IsSome (waiting_at u queue) → ⊥
            no u some = let never = subst IsSome (none u) some in cc
        by t o at pass (inr (inr more)) = let u = waiting_before t o at pass (omega (arith, more)) in absurd (no u.0 u.1)
          where
            no : (u : ℕ) → IsSome (waiting_at u queue) → ⊥
            no u some = let never = subst IsSome (none u) some in cc

  pub front_listed : (from n : ℕ) → length (below from (pids_where (is_of S home) M)) ≡ n → below from (pids_where (is_of S home) M) ≡ take n (pids_where (is_of S home) M)
  front_listed from n long = in_front (is_of S home) from (entries M) (entries_sorted M) ∙ ap (λ (k : ℕ). take k (pids_where (is_of S home) M)) long

-- ---- what is kept

module _ (S : Schema) (M : Catalog) (homes : Parts) (kept : IsKept S M homes) where
  pub apart_kept : IsApart homes.extents.items
  apart_kept h g s at_h at_g = by (get M s) (sym (kept.extents h s) ∙ at_h) (sym (kept.extents g s) ∙ at_g)
    where
      by : (o : Option Object) → is_object_of h o ≡ true → is_object_of g o ≡ true → h ≡ g
      by None p q = cc
      by (Some o) p q = sym (eqb-true o.home.0 h p) ∙ eqb-true o.home.0 g q

  module _ (home : HomeNo) (heirs : List HomeNo) (are : AreHeirs S home heirs) where
    pub in_kept : AreIn homes.extents.items heirs
    in_kept h there = let at = some_there S.homes h.0 (are.derive there.0 h there.1).0 in (at.0, subst (λ (n : ℕ). h.0 ≤ n) (sym kept.extents_size) at.1)

    pub listing_kept : IsListing S M home homes.extents.items heirs
    listing_kept = record { sound = kept.sound; there = λ s o at. (kept.each s o at).0; extents_are = kept.extents; heirs_are = are }
