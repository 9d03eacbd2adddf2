-- The objects of a home with those of its heirs, counted home by home.
use Rattle.std.proofs.Common.{ℕ, zero, suc, ◌+◌, ◌≡◌, ◌==◌, List, [], ◌∷◌, length, map, filter, Option, Some, None, Bool, true, false, cond, not, IsSome, refl, sym, ap, subst, ◌∙◌, arith, eq-eqb}
use Rattle.std.specs.Prelude.{is_some}
use Rattle.std.specs.FinMap.{get, entries}
use Rattle.std.specs.List.{slice_get, sum_by}
use Rattle.std.proofs.lemmas.List.Sums.{sum_by-cons}
use Rattle.pss_base.specs.declared.pid.Pid.{Pid}
use Rattle.type_layout.specs.declared.home.HomeNo.{HomeNo}
use Rattle.type_layout.specs.declared.schema.Home.{Home}
use Rattle.type_layout.specs.declared.schema.Schema.{Schema}
use Rattle.type_layout.specs.Schemas.{home_at, descends, DescendsFrom}
use Rattle.type_layout.specs.Sound.{IsSoundSchema}
use Rattle.type_layout.proofs.Bases.{means}
use Rattle.pss_catalog.specs.Catalog.{Object, Catalog, pid_of, pids_where, without}
use Rattle.pss_catalog.specs.Families.{AreHeirs}
use Rattle.pss_catalog.proofs.Listing.{Entries, only_listed}
use Rattle.storage_home.specs.declared.parts.Parts.{Parts}
use Rattle.storage_home.specs.Counts.{number_at, number_of}
use Rattle.storage_home.specs.Kept.{IsKept, is_of, is_own}
use Rattle.storage_home.proofs.Keeping.{counted}
use Rattle.storage_home.proofs.Places.{by_test, same_number}

-- ---- sums over homes

all_none : (hs : List HomeNo) → sum_by (λ (h : HomeNo). 0) hs ≡ 0
all_none [] = refl
all_none (h ∷ hs) = (let sum = sum_by-cons (λ (x : HomeNo). 0) h hs in let rest = all_none hs in omega (arith, sum, rest))

both : (f g : HomeNo → ℕ) (hs : List HomeNo) → sum_by (λ h. f h + g h) hs ≡ sum_by f hs + sum_by g hs
both f g [] = refl
both f g (h ∷ hs) =
    let all = sum_by-cons (λ (x : HomeNo). f x + g x) h hs in
    let left = sum_by-cons f h hs in
    let right = sum_by-cons g h hs in
    let rest = both f g hs in
    omega (arith, all, left, right, rest)

alike : (f g : HomeNo → ℕ) → ((h : HomeNo) → f h ≡ g h) → (hs : List HomeNo) → sum_by f hs ≡ sum_by g hs
alike f g same hs = ap (λ (k : HomeNo → ℕ). sum_by k hs) (λ i h. same h i)

-- ---- how often a number stands

abbrev stands : ℕ → List HomeNo → ℕ
stands n hs = sum_by (λ h. cond (n == h.0) 1 0) hs

not_there : (n : ℕ) (hs : List HomeNo) → ((i : ℕ) (h : HomeNo) → slice_get hs i ≡ Some h → n ≡ h.0 → ⊥) → stands n hs ≡ 0
not_there n [] none = refl
not_there n (x ∷ xs) none =
    sum_by-cons (λ (h : HomeNo). cond (n == h.0) 1 0) x xs
    ∙ by_test (λ b. (n == x.0) ≡ b → cond b 1 0 + stands n xs ≡ 0) (n == x.0) (λ _ same. absurd (none 0 x refl (same_number n x.0 same))) (λ _ _. let rest = not_there n xs (λ i h at. none (suc i) h at) in omega (arith, rest)) refl

-- no number stands at two places
abbrev AreApart : List HomeNo → Type 0
AreApart hs = (i j : ℕ) (h g : HomeNo) → slice_get hs i ≡ Some h → slice_get hs j ≡ Some g → h.0 ≡ g.0 → i ≡ j

there_once : (n : ℕ) (hs : List HomeNo) (i : ℕ) (h : HomeNo) → AreApart hs → slice_get hs i ≡ Some h → n ≡ h.0 → stands n hs ≡ 1
there_once n [] i h apart at is = cc
there_once n (x ∷ xs) zero h apart at is =
    let it : x ≡ h = cc in
    let here : n ≡ x.0 = is ∙ ap (λ (k : HomeNo). k.0) (sym it) in
    let rest = not_there n xs (λ j g found same. (let never = apart 0 (suc j) x g refl found (sym here ∙ same) in omega (arith, never))) in
    let one = ap (λ b. cond {A = ℕ} b 1 0) (eq-eqb n x.0 here) in
    let sum = sum_by-cons (λ (k : HomeNo). cond (n == k.0) 1 0) x xs in
    omega (arith, rest, one, sum)
there_once n (x ∷ xs) (suc i) h apart at is =
    let rest = there_once n xs i h (λ j k g f left right same. (let more = apart (suc j) (suc k) g f left right same in omega (arith, more))) at is in
    sum_by-cons (λ (k : HomeNo). cond (n == k.0) 1 0) x xs
    ∙ by_test (λ b. (n == x.0) ≡ b → cond b 1 0 + stands n xs ≡ 1) (n == x.0) (λ _ same. (let never = apart 0 (suc i) x h refl at (sym (same_number n x.0 same) ∙ is) in absurd (omega (arith, never)))) (λ _ _. omega (arith, rest)) refl

-- ---- the homes of objects

-- the home of each is there
abbrev AreHomed : Schema → Entries → Type 0
AreHomed S [] = Unit {0}
AreHomed S (e ∷ es) = IsSome (home_at S e.1.home) × AreHomed S es

abbrev homeless : Schema → Object → Bool
homeless S o = not (is_some (home_at S o.home))

no_two : (ps : List Pid) → without 0 ps ≡ [] → without 1 ps ≡ [] → ps ≡ []
no_two [] zeroth first = refl
no_two (p ∷ ps) zeroth first = by (p.serial == 0) refl (p.serial == 1) refl zeroth first
  where
    by : (a : Bool) → (p.serial == 0) ≡ a → (b : Bool) → (p.serial == 1) ≡ b → cond (not a) (p ∷ without 0 ps) (without 0 ps) ≡ [] → cond (not b) (p ∷ without 1 ps) (without 1 ps) ≡ [] → p ∷ ps ≡ []
    by false _ b _ left right = cc
    by true _ false _ left right = cc
    by true at true too left right = let zero_is = same_number p.serial 0 at in let one_is = same_number p.serial 1 too in absurd (omega (arith, zero_is, one_is))

homed : (S : Schema) (es : Entries) → map pid_of (filter (λ e. homeless S e.1) es) ≡ [] → AreHomed S es
homed S [] none = tt
homed S (e ∷ es) none = by (home_at S e.1.home) refl none (homed S es)
  where
    by : (o : Option Home) → home_at S e.1.home ≡ o → map pid_of (cond (not (is_some o)) (e ∷ filter (λ x. homeless S x.1) es) (filter (λ x. homeless S x.1) es)) ≡ [] → (map pid_of (filter (λ x. homeless S x.1) es) ≡ [] → AreHomed S es) → IsSome (home_at S e.1.home) × AreHomed S es
    by None is none rest = cc
    by (Some h) is none rest = (subst IsSome (sym is) refl, rest none)

all_homed : (S : Schema) (M : Catalog) → ((t : ℕ) (o : Object) → get M t ≡ Some o → IsSome (home_at S o.home)) → AreHomed S (entries M)
all_homed S M there = homed S (entries M) (no_two (pids_where (homeless S) M) (none_at 0) (none_at 1))
  where
    none_at : (s : ℕ) → without s (pids_where (homeless S) M) ≡ []
    none_at s = (only_listed (homeless S) M s).1 (λ t o found passes. (let some = there t o found in let no = ap not some in let never : false ≡ true = sym no ∙ passes in cc))

module _ (S : Schema) (sound : IsSoundSchema S) (home : HomeNo) (heirs : List HomeNo) (are : AreHeirs S home heirs) where
  apart : AreApart heirs
  apart i j h g left right same = (let it : g ≡ h = λ k. record { 0 = sym same k } in are.once i j h left (right ∙ ap Some it))

  -- the home of an object stands among the heirs where it is one, and once
  stands_where : (o : Object) → IsSome (home_at S o.home) → stands o.home.0 heirs ≡ cond (is_of S home o) 1 0
  stands_where o there = by (descends S o.home home) refl
    where
      by : (b : Bool) → descends S o.home home ≡ b → stands o.home.0 heirs ≡ cond (descends S o.home home) 1 0
      by true is =
          let place = are.all o.home there ((means S o.home home (descends S o.home home) refl sound).0 is) in
          there_once o.home.0 heirs place.0 o.home apart place.1 refl ∙ ap (λ b. cond {A = ℕ} b 1 0) (sym is)
      by false is =
          not_there o.home.0 heirs (λ i h at same. (
          let it : h ≡ o.home = λ k. record { 0 = sym same k } in
          let derives = subst (λ (g : HomeNo). DescendsFrom S g home) it (are.derive i h at).1 in
          let no : false ≡ true = sym is ∙ (means S o.home home (descends S o.home home) refl sound).1 derives in
          cc)) ∙ ap (λ b. cond {A = ℕ} b 1 0) (sym is)

  by_homes : (es : Entries) → AreHomed S es → sum_by (λ e. cond (is_of S home e.1) 1 0) es ≡ sum_by (λ h. sum_by (λ e. cond (is_own h.0 e.1) 1 0) es) heirs
  by_homes [] there = sym (all_none heirs)
  by_homes (e ∷ es) there =
      let whole = sum_by-cons (λ (x : ℕ × Object). cond (is_of S home x.1) 1 0) e es in
      let rest = by_homes es there.1 in
      let one = stands_where e.1 there.0 in
      let parts = alike (λ h. sum_by (λ x. cond (is_own h.0 x.1) 1 0) (e ∷ es)) (λ h. cond (is_own h.0 e.1) 1 0 + sum_by (λ x. cond (is_own h.0 x.1) 1 0) es) (λ h. sum_by-cons (λ (x : ℕ × Object). cond (is_own h.0 x.1) 1 0) e es) heirs in
      let apart_is = both (λ h. cond (is_own h.0 e.1) 1 0) (λ h. sum_by (λ x. cond (is_own h.0 x.1) 1 0) es) heirs in
      omega (arith, whole, rest, one, parts, apart_is)

-- the numbers of all heirs together are how many objects a home has with those of its heirs
pub heirs_counted : (S : Schema) (M : Catalog) (homes : Parts) → IsKept S M homes → (home : HomeNo) (heirs : List HomeNo) → AreHeirs S home heirs → number_of homes.counts.items heirs ≡ length (pids_where (is_of S home) M)
heirs_counted S M homes kept home heirs are =
    alike (λ h. number_at homes.counts.items h.0) (λ h. sum_by (λ e. cond (is_own h.0 e.1) 1 0) (entries M)) (λ h. kept.counts h.0 ∙ counted (is_own h.0) (entries M)) heirs
    ∙ sym (by_homes S kept.sound home heirs are (entries M) (all_homed S M (λ t o found. (kept.each t o found).0)))
    ∙ sym (counted (is_of S home) (entries M))
