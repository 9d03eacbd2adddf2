-- Catalogs in which the same objects pass a test list the same.
use Rattle.std.proofs.Common.{◌≡◌, ℕ, Bool, true, false, cond, not, ◌==◌, ◌&&◌, List, [], ◌∷◌, map, Option, Some, None, refl, sym, ap, ◌∙◌, ◌<◌, arith}
use Rattle.std.specs.Prelude.{filter, T, ◌||◌}
use Rattle.std.specs.List.{list_any}
use Rattle.std.specs.Ordering.{nat_cmp, eq_by_cmp, is_lt}
use Rattle.std.specs.FinMap as finite
use Rattle.std.specs.FinMap.{get, entries, get-entries, entries_sorted, is_sorted, from_sorted, entries-from_sorted, get-from_sorted, same_map, nat_cmp-IsAntisymmetric}
use Rattle.std.specs.FinMap.Entries.{below_all}
use Rattle.std.specs.Cmp.{nat_cmp_total}
use Rattle.std.proofs.lemmas.Bool.Decides.{nat_tests}
use Rattle.pss_base.specs.declared.pid.Pid.{Pid}
use Rattle.type_layout.specs.declared.home.HomeNo.{HomeNo}
use Rattle.pss_catalog.specs.Catalog.{Object, Catalog, pid_of, pids_where, without}
use Rattle.pss_laws.specs.Alike.{home_where, PassAlike}

abbrev Entries : Type 0
Entries = List (ℕ × Object)

tied_is : (a b : ℕ) → eq_by_cmp nat_cmp a b ≡ true → a ≡ b
tied_is a b e = grind (arith, nat_tests)

less_is : (a b : ℕ) → T (is_lt (nat_cmp a b)) → a < b
less_is a b e = grind (arith, nat_tests)

first : (a b : Bool) → T (a && b) → T a
first true b p = tt
first false b p = p

second : (a b : Bool) → T (a && b) → T b
second true b p = p
second false b p = absurd p

both : (a b : Bool) → T a → T b → T (a && b)
both true b p q = q
both false b p q = p

below_missed : (x t : ℕ) (es : Entries) → eq_by_cmp nat_cmp t x ≡ true → T (below_all nat_cmp x es) → finite.find nat_cmp t es ≡ None
below_missed x t [] e h = refl
below_missed x t (y ∷ es) e h =
    let lower : x < y.0 = less_is x y.0 (first _ _ h) in
    let same : t ≡ x = tied_is t x e in
    let apart : eq_by_cmp nat_cmp t y.0 ≡ false = grind (arith, nat_tests) in
    rw apart (below_missed x t es e (second _ _ h))

-- the homes of those that pass
abbrev Seen : Type 0
Seen = List (ℕ × HomeNo)

abbrev keep : Option HomeNo → ℕ → Seen → Seen
keep None s xs = xs
keep (Some h) s xs = (s, h) ∷ xs

abbrev seen : (Object → Bool) → Entries → Seen
seen test [] = []
seen test (e ∷ es) = keep (home_where test (Some e.1)) e.0 (seen test es)

abbrev pid_seen : ℕ × HomeNo → Pid
pid_seen x = record { home = x.1.0; serial = x.0 }

listed_seen : (test : Object → Bool) (es : Entries) → map pid_of (filter (λ e. test e.1) es) ≡ map pid_seen (seen test es)
listed_seen test [] = refl
listed_seen test (e ∷ es) =
    elim (test e.1) as (λ b. map pid_of (cond b (e ∷ filter (λ e. test e.1) es) (filter (λ e. test e.1) es)) ≡ map pid_seen (keep (cond b (Some e.1.home) None) e.0 (seen test es))) [
      | true ↦ ap (λ xs. pid_of e ∷ xs) (listed_seen test es)
      | false ↦ listed_seen test es
    ]

keep_below : (x s : ℕ) (h : Option HomeNo) (es : Seen) → T (is_lt (nat_cmp x s)) → T (below_all nat_cmp x es) → T (below_all nat_cmp x (keep h s es))
keep_below x s None es p q = q
keep_below x s (Some h) es p q = both _ _ p q

seen_below : (test : Object → Bool) (x : ℕ) (es : Entries) → T (below_all nat_cmp x es) → T (below_all nat_cmp x (seen test es))
seen_below test x [] h = tt
seen_below test x (e ∷ es) h = keep_below x e.0 (home_where test (Some e.1)) (seen test es) (first _ _ h) (seen_below test x es (second _ _ h))

keep_sorted : (s : ℕ) (h : Option HomeNo) (es : Seen) → T (below_all nat_cmp s es) → T (is_sorted nat_cmp es) → T (is_sorted nat_cmp (keep h s es))
keep_sorted s None es p q = q
keep_sorted s (Some h) es p q = both _ _ p q

seen_sorted : (test : Object → Bool) (es : Entries) → T (is_sorted nat_cmp es) → T (is_sorted nat_cmp (seen test es))
seen_sorted test [] h = tt
seen_sorted test (e ∷ es) h = keep_sorted e.0 (home_where test (Some e.1)) (seen test es) (seen_below test e.0 es (first _ _ h)) (seen_sorted test es (second _ _ h))

keep_found : (test : Object → Bool) (t s : ℕ) (o : Object) (x : Option HomeNo) (b : Bool) (es : Seen) (rest : Option Object) → home_where test (Some o) ≡ x → finite.find nat_cmp t es ≡ home_where test rest → eq_by_cmp nat_cmp t s ≡ b → (b ≡ true → rest ≡ None)
    → finite.find nat_cmp t (keep x s es) ≡ home_where test (cond b (Some o) rest)
keep_found test t s o None false es rest is found place none = found
keep_found test t s o None true es rest is found place none = found ∙ ap (home_where test) (none refl) ∙ sym is
keep_found test t s o (Some h) false es rest is found place none = rw place found
keep_found test t s o (Some h) true es rest is found place none = rw place (sym is)

seen_found : (test : Object → Bool) (t : ℕ) (es : Entries) → T (is_sorted nat_cmp es) → finite.find nat_cmp t (seen test es) ≡ home_where test (finite.find nat_cmp t es)
seen_found test t [] h = refl
seen_found test t (e ∷ es) h =
    keep_found test t e.0 e.1 (home_where test (Some e.1)) (eq_by_cmp nat_cmp t e.0) (seen test es) (finite.find nat_cmp t es) refl (seen_found test t es (second _ _ h)) refl (λ same. below_missed e.0 t es same (first _ _ h))

pub same_listed : (test : Object → Bool) (M N : Catalog) → PassAlike test M N → pids_where test M ≡ pids_where test N
same_listed test M N alike =
    let sorted_m = seen_sorted test (entries M) (entries_sorted M) in
    let sorted_n = seen_sorted test (entries N) (entries_sorted N) in
    let found : (t : ℕ) → get (from_sorted {R = nat_cmp} (seen test (entries M))) t ≡ get (from_sorted {R = nat_cmp} (seen test (entries N))) t
    = λ t. get-from_sorted nat_cmp (seen test (entries M)) t sorted_m ∙ seen_found test t (entries M) (entries_sorted M) ∙ ap (home_where test) (sym (get-entries M t))
    ∙ alike t ∙ ap (home_where test) (get-entries N t) ∙ sym (seen_found test t (entries N) (entries_sorted N)) ∙ sym (get-from_sorted nat_cmp (seen test (entries N)) t sorted_n) in
    let one = same_map nat_cmp_total nat_cmp-IsAntisymmetric (from_sorted (seen test (entries M))) (from_sorted (seen test (entries N))) found in
    listed_seen test (entries M) ∙ ap (map pid_seen) (sym (entries-from_sorted nat_cmp (seen test (entries M)) sorted_m) ∙ ap entries one ∙ entries-from_sorted nat_cmp (seen test (entries N)) sorted_n)
    ∙ sym (listed_seen test (entries N))

-- ---- another than one with a serial

pub no_others : (s : ℕ) (ps : List Pid) → list_any (λ p. not (p.serial == s)) ps ≡ false → without s ps ≡ []
no_others s [] e = refl
no_others s (p ∷ ps) e = by_place (p.serial == s) e (no_others s ps)
  where
    by_place : (b : Bool) → (not b || list_any (λ p. not (p.serial == s)) ps) ≡ false → (list_any (λ p. not (p.serial == s)) ps ≡ false → without s ps ≡ []) → cond (not b) (p ∷ without s ps) (without s ps) ≡ []
    by_place true e rest = rest e
    by_place false e rest = absurd cc

pub none_other : (s : ℕ) (ps : List Pid) → without s ps ≡ [] → list_any (λ p. not (p.serial == s)) ps ≡ false
none_other s [] e = refl
none_other s (p ∷ ps) e = by_place (p.serial == s) e (none_other s ps)
  where
    by_place : (b : Bool) → cond (not b) (p ∷ without s ps) (without s ps) ≡ [] → (without s ps ≡ [] → list_any (λ p. not (p.serial == s)) ps ≡ false) → (not b || list_any (λ p. not (p.serial == s)) ps) ≡ false
    by_place true e rest = rest e
    by_place false e rest = absurd cc
