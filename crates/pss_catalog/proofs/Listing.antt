-- Lists of objects, entry by entry.
use Rattle.std.proofs.Common.{ℕ, ◌≡◌, ◌+◌, ◌<◌, Bool, true, false, cond, not, ◌==◌, ◌&&◌, List, [], ◌∷◌, map, sum, Option, Some, None, refl, sym, ap, subst, ◌∙◌, arith}
use Rattle.std.specs.Prelude.{filter, T, nat_lt, ◌↔◌}
use Rattle.std.proofs.Common.{Ordering, Less, Equal, Greater}
use Rattle.std.specs.Ordering.{nat_cmp, eq_by_cmp, is_lt}
use Rattle.std.specs.FinMap.{get, insert, remove, entries, entries_sorted, entries-insert, get-entries, get-remove, get-from_sorted, entries-from_sorted, from_sorted, same_map, nat_cmp-IsAntisymmetric, find, put, is_sorted}
use Rattle.std.specs.FinMap.Entries.{below_all, is_sorted-where_key, find-where_key}
use Rattle.std.specs.Cmp.{nat_cmp_total}
use Rattle.std.proofs.lemmas.Bool.{eqb-true, eq-eqb}
use Rattle.std.proofs.lemmas.Bool.Decides.{nat_tests}
use Rattle.std.specs.List.{sum_by}
use Rattle.std.proofs.lemmas.List.Sums.{sum_by-cons, sum-map}
use Rattle.pss_base.specs.declared.pid.Pid.{Pid}
use Rattle.type_layout.specs.Schemas.{given}
use Rattle.pss_catalog.specs.Catalog.{Object, Catalog, pid_of, pids_where, without, placed}

abbrev pub Entries : Type 0
Entries = List (ℕ × Object)

-- ---- tests of numbers

pub tie : (a b : ℕ) → eq_by_cmp nat_cmp a b ≡ (a == b)
tie a b = grind (arith, nat_tests)

less_is : (a b : ℕ) → T (is_lt (nat_cmp a b)) → a < b
less_is a b e = grind (arith, nat_tests)

first : (a b : Bool) → T (a && b) → T a
first true b p = tt
first false b p = p

second : (a b : Bool) → T (a && b) → T b
second true b p = p
second false b p = absurd p

both : (a b : Bool) → T a → T b → T (a && b)
both true b p q = q
both false b p q = p

is_below : (a b : ℕ) → a < b → T (is_lt (nat_cmp a b))
is_below a b lt = grind (arith, nat_tests)

apart : (s t : ℕ) → s < t → (t == s) ≡ false
apart s t lt = grind (arith, nat_tests)

apart_left : (s t : ℕ) → s < t → (s == t) ≡ false
apart_left s t lt = grind (arith, nat_tests)

before : (s t : ℕ) → s < t → nat_lt s t ≡ true
before s t lt = grind (arith, nat_tests)

not_before : (s t : ℕ) → t < s → nat_lt s t ≡ false
not_before s t lt = grind (arith, nat_tests)

less_of : (s t : ℕ) → nat_cmp s t ≡ Less → s < t
less_of s t is = grind (arith, nat_tests)

above : (s t : ℕ) → nat_cmp s t ≡ Greater → t < s
above s t is = grind (arith, nat_tests)

same : (s t : ℕ) → nat_cmp s t ≡ Equal → s ≡ t
same s t is = nat_cmp-IsAntisymmetric s t is

-- ---- a removal

abbrev others : ℕ → Entries → Entries
others s es = filter (λ e. not (e.0 == s)) es

pub entries_without : (M : Catalog) (s : ℕ) → entries (remove M s) ≡ others s (entries M)
entries_without M s =
    let test : ℕ → Bool = λ x. not (x == s) in
    let sorted = is_sorted-where_key nat_cmp test (entries M) (entries_sorted M) in
    let found : (t : ℕ) → get (remove M s) t ≡ get (from_sorted {R = nat_cmp} (others s (entries M))) t
    = λ t. get-remove nat_cmp_total M s t ∙ turned t
    ∙ sym (find-where_key nat_cmp test t (λ x e. ap test (sym (same t x e))) (entries M)) ∙ sym (get-from_sorted nat_cmp (others s (entries M)) t sorted) in
    ap entries (same_map nat_cmp_total nat_cmp-IsAntisymmetric (remove M s) (from_sorted (others s (entries M))) found) ∙ entries-from_sorted nat_cmp (others s (entries M)) sorted
  where
    by_test : (b : Bool) (x y : Option Object) → x ≡ y → cond b None x ≡ cond (not b) y None
    by_test true x y e = refl
    by_test false x y e = e

    turned : (t : ℕ) → cond (eq_by_cmp nat_cmp t s) None (get M t) ≡ cond (not (t == s)) (find nat_cmp t (entries M)) None
    turned t = ap (λ (b : Bool). cond b None (get M t)) (tie t s) ∙ by_test (t == s) (get M t) (find nat_cmp t (entries M)) (get-entries M t)

-- ---- those that pass a test

abbrev passing : (Object → Bool) → Entries → List Pid
passing test es = map pid_of (filter (λ e. test e.1) es)

passing_without : (test : Object → Bool) (s : ℕ) (es : Entries) → passing test (others s es) ≡ without s (passing test es)
passing_without test s [] = refl
passing_without test s (e ∷ es) = by (e.0 == s) refl (test e.1) refl (passing_without test s es)
  where
    by : (b : Bool) → (e.0 == s) ≡ b → (t : Bool) → test e.1 ≡ t → passing test (others s es) ≡ without s (passing test es) → passing test (others s (e ∷ es)) ≡ without s (passing test (e ∷ es))
    by true place true is rest = rw (place, is, place) rest
    by true place false is rest = rw (place, is) rest
    by false place true is rest = rw (place, is, place) (ap (λ (l : List Pid). pid_of e ∷ l) rest)
    by false place false is rest = rw (place, is) rest

pub listed_without : (test : Object → Bool) (M : Catalog) (s : ℕ) → pids_where test (remove M s) ≡ without s (pids_where test M)
listed_without test M s = ap (passing test) (entries_without M s) ∙ passing_without test s (entries M)

-- above a serial, all are left without it, and it comes first
kept : (test : Object → Bool) (s : ℕ) (es : Entries) → T (below_all nat_cmp s es) → without s (passing test es) ≡ passing test es
kept test s [] h = refl
kept test s (e ∷ es) h = by (test e.1) refl (kept test s es (second _ _ h))
  where
    by : (t : Bool) → test e.1 ≡ t → without s (passing test es) ≡ passing test es → without s (passing test (e ∷ es)) ≡ passing test (e ∷ es)
    by true is rest = rw (is, apart s e.0 (less_is s e.0 (first _ _ h))) (ap (λ (l : List Pid). pid_of e ∷ l) rest)
    by false is rest = rw is rest

comes_first : (test : Object → Bool) (p : Pid) (es : Entries) → T (below_all nat_cmp p.serial es) → placed p (passing test es) ≡ p ∷ passing test es
comes_first test p [] h = refl
comes_first test p (e ∷ es) h = by (test e.1) refl (comes_first test p es (second _ _ h))
  where
    by : (t : Bool) → test e.1 ≡ t → placed p (passing test es) ≡ p ∷ passing test es → placed p (passing test (e ∷ es)) ≡ p ∷ passing test (e ∷ es)
    by true is rest = rw (is, before p.serial e.0 (less_is p.serial e.0 (first _ _ h))) refl
    by false is rest = rw is rest

-- the list with one more where it passes
abbrev with_one : Bool → Pid → List Pid → List Pid
with_one b p pids = cond b (placed p pids) pids

below_all_below : (s t : ℕ) (es : Entries) → s < t → T (below_all nat_cmp t es) → T (below_all nat_cmp s es)
below_all_below s t [] lt h = tt
below_all_below s t (e ∷ es) lt h = both _ _ (is_below s e.0 (omega (arith, lt, less_is t e.0 (first _ _ h)))) (below_all_below s t es lt (second _ _ h))

passing_with : (test : Object → Bool) (s : ℕ) (object : Object) (es : Entries) → T (is_sorted nat_cmp es) → passing test (put nat_cmp s object es) ≡ with_one (test object) (pid_of (s, object)) (without s (passing test es))
passing_with test s object [] h = by (test object) refl
  where
    by : (t : Bool) → test object ≡ t → passing test ((s, object) ∷ []) ≡ with_one (test object) (pid_of (s, object)) []
    by true is = rw is refl
    by false is = rw is refl
passing_with test s object (e ∷ es) h = by (nat_cmp s e.0) refl (passing_with test s object es (second _ _ h))
  where
    -- all of `list` are above
    put_first : (list : Entries) → T (below_all nat_cmp s list) → passing test ((s, object) ∷ list) ≡ with_one (test object) (pid_of (s, object)) (without s (passing test list))
    put_first list low = at (test object) refl
      where
        at : (t : Bool) → test object ≡ t → passing test ((s, object) ∷ list) ≡ with_one (test object) (pid_of (s, object)) (without s (passing test list))
        at true is = rw (is, kept test s list low, comes_first test (pid_of (s, object)) list low) refl
        at false is = rw (is, kept test s list low) refl

    -- the entry of the serial itself is none of the others
    gone : (e.0 == s) ≡ true → without s (passing test (e ∷ es)) ≡ without s (passing test es)
    gone place = at (test e.1) refl
      where
        at : (t : Bool) → test e.1 ≡ t → without s (passing test (e ∷ es)) ≡ without s (passing test es)
        at true is = rw (is, place) refl
        at false is = rw is refl

    behind : e.0 < s → passing test (put nat_cmp s object es) ≡ with_one (test object) (pid_of (s, object)) (without s (passing test es)) → (t : Bool) → test e.1 ≡ t → (o : Bool) → test object ≡ o
        → passing test (e ∷ put nat_cmp s object es) ≡ with_one (test object) (pid_of (s, object)) (without s (passing test (e ∷ es)))
    behind lt later true is true is_o =
        rw (is, is_o, apart_left e.0 s lt, not_before s e.0 lt) (ap (λ (l : List Pid). pid_of e ∷ l) (later ∙ ap (λ (b : Bool). with_one b (pid_of (s, object)) (without s (passing test es))) is_o))
    behind lt later true is false is_o =
        rw (is, is_o, apart_left e.0 s lt) (ap (λ (l : List Pid). pid_of e ∷ l) (later ∙ ap (λ (b : Bool). with_one b (pid_of (s, object)) (without s (passing test es))) is_o))
    behind lt later false is o is_o = rw is later

    by : (r : Ordering) → nat_cmp s e.0 ≡ r → passing test (put nat_cmp s object es) ≡ with_one (test object) (pid_of (s, object)) (without s (passing test es))
        → passing test (put nat_cmp s object (e ∷ es)) ≡ with_one (test object) (pid_of (s, object)) (without s (passing test (e ∷ es)))
    by Less is later =
        let lt = less_of s e.0 is in
        rw is (put_first (e ∷ es) (both _ _ (is_below s e.0 lt) (below_all_below s e.0 es lt (first _ _ h))))
    by Equal is later =
        let one : s ≡ e.0 = same s e.0 is in
        let low : T (below_all nat_cmp s es) = subst (λ (k : ℕ). T (below_all nat_cmp k es)) (sym one) (first _ _ h) in
        rw is (ap (λ (k : ℕ). passing test ((k, object) ∷ es)) (sym one) ∙ put_first es low ∙ ap (with_one (test object) (pid_of (s, object))) (sym (gone (eq-eqb e.0 s (sym one)))))
    by Greater is later = rw is (behind (above s e.0 is) later (test e.1) refl (test object) refl)

pub listed_with : (test : Object → Bool) (M : Catalog) (s : ℕ) (object : Object) → pids_where test (insert M s object) ≡ with_one (test object) (pid_of (s, object)) (without s (pids_where test M))
listed_with test M s object = ap (passing test) (entries-insert nat_cmp_total M s object) ∙ passing_with test s object (entries M) (entries_sorted M)

-- ---- one that passes, or none

below_found : (s t : ℕ) (object : Object) (es : Entries) → T (below_all nat_cmp s es) → find nat_cmp t es ≡ Some object → s < t
below_found s t object [] h found = absurd cc
below_found s t object (e ∷ es) h found = by (eq_by_cmp nat_cmp t e.0) refl found (λ found. below_found s t object es (second _ _ h) found)
  where
    by : (b : Bool) → eq_by_cmp nat_cmp t e.0 ≡ b → cond b (Some e.1) (find nat_cmp t es) ≡ Some object → (find nat_cmp t es ≡ Some object → s < t) → s < t
    by true place found rest = (let one = eqb-true t e.0 (sym (tie t e.0) ∙ place) in omega (arith, less_is s e.0 (first _ _ h), one))
    by false place found rest = rest found

-- what is found in the rest is found in the whole
found_behind : (t : ℕ) (object : Object) (e : ℕ × Object) (es : Entries) → T (below_all nat_cmp e.0 es) → find nat_cmp t es ≡ Some object → find nat_cmp t (e ∷ es) ≡ Some object
found_behind t object e es h found = rw (tie t e.0, apart e.0 t (below_found e.0 t object es h found)) found

-- the first is found
found_here : (e : ℕ × Object) (es : Entries) → find nat_cmp e.0 (e ∷ es) ≡ Some e.1
found_here e es = rw (tie e.0 e.0, eq-eqb e.0 e.0 refl) refl

-- where it passes, it is the object with this serial
abbrev IsOnly : (Object → Bool) → ℕ → Entries → Type 0
IsOnly test s es = (t : ℕ) (object : Object) → find nat_cmp t es ≡ Some object → test object ≡ true → t ≡ s

only_behind : (test : Object → Bool) (s : ℕ) (e : ℕ × Object) (es : Entries) → T (below_all nat_cmp e.0 es) → IsOnly test s (e ∷ es) → IsOnly test s es
only_behind test s e es h only t object found passes = only t object (found_behind t object e es h found) passes

none_pass : (test : Object → Bool) (s : ℕ) (es : Entries) → T (is_sorted nat_cmp es) → IsOnly test s es → T (below_all nat_cmp s es) → passing test es ≡ []
none_pass test s [] h only low = refl
none_pass test s (e ∷ es) h only low = by (test e.1) refl (none_pass test s es (second _ _ h) (only_behind test s e es (first _ _ h) only) (second _ _ low))
  where
    by : (t : Bool) → test e.1 ≡ t → passing test es ≡ [] → passing test (e ∷ es) ≡ []
    by true is rest = (let one = only e.0 e.1 (found_here e es) is in absurd (omega (arith, less_is s e.0 (first _ _ low), one)))
    by false is rest = rw is rest

lonely : (test : Object → Bool) (s : ℕ) (es : Entries) → T (is_sorted nat_cmp es) → IsOnly test s es → without s (passing test es) ≡ []
lonely test s [] h only = refl
lonely test s (e ∷ es) h only = by (test e.1) refl (lonely test s es (second _ _ h) (only_behind test s e es (first _ _ h) only))
  where
    by : (t : Bool) → test e.1 ≡ t → without s (passing test es) ≡ [] → without s (passing test (e ∷ es)) ≡ []
    by true is rest = (let one = only e.0 e.1 (found_here e es) is in rw (is, eq-eqb e.0 s one) rest)
    by false is rest = rw is rest

only_one : (test : Object → Bool) (s : ℕ) (es : Entries) → without s (passing test es) ≡ [] → IsOnly test s es
only_one test s [] none t object found passes = absurd cc
only_one test s (e ∷ es) none t object found passes = by (test e.1) refl (eq_by_cmp nat_cmp t e.0) refl found none (λ none found. only_one test s es none t object found passes)
  where
    head : (b : Bool) → (e.0 == s) ≡ b → cond (not b) (pid_of e ∷ without s (passing test es)) (without s (passing test es)) ≡ [] → (e.0 ≡ s) × (without s (passing test es) ≡ [])
    head true place none = (eqb-true e.0 s place, none)
    head false place none = absurd cc

    by : (b : Bool) → test e.1 ≡ b → (c : Bool) → eq_by_cmp nat_cmp t e.0 ≡ c → cond c (Some e.1) (find nat_cmp t es) ≡ Some object → without s (map pid_of (cond b (e ∷ filter (λ e. test e.1) es) (filter (λ e. test e.1) es))) ≡ [] → (without s (passing test es) ≡ [] → find nat_cmp t es ≡ Some object → t ≡ s) → t ≡ s
    by true is true place found none rest = eqb-true t e.0 (sym (tie t e.0) ∙ place) ∙ (head (e.0 == s) refl none).0
    by true is false place found none rest = rest (head (e.0 == s) refl none).1 found
    by false is true place found none rest = (let one : e.1 ≡ object = cc in let no : true ≡ false = sym passes ∙ ap test (sym one) ∙ is in absurd cc)
    by false is false place found none rest = rest none found

-- no other passes exactly where none is listed
pub only_listed : (test : Object → Bool) (M : Catalog) (s : ℕ) → (without s (pids_where test M) ≡ []) ↔ ((t : ℕ) (object : Object) → get M t ≡ Some object → test object ≡ true → t ≡ s)
only_listed test M s = (
  λ none t object found passes. only_one test s (entries M) none t object (sym (get-entries M t) ∙ found) passes,
  λ only. lonely test s (entries M) (entries_sorted M) (λ t object found passes. only t object (get-entries M t ∙ found) passes),
)

one_passes : (test : Object → Bool) (s : ℕ) (object : Object) (es : Entries) → T (is_sorted nat_cmp es) → find nat_cmp s es ≡ Some object → test object ≡ true → IsOnly test s es → passing test es ≡ pid_of (s, object) ∷ []
one_passes test s object [] h found passes only = absurd cc
one_passes test s object (e ∷ es) h found passes only =
    by (eq_by_cmp nat_cmp s e.0) refl found (test e.1) refl (λ found. one_passes test s object es (second _ _ h) found passes (only_behind test s e es (first _ _ h) only))
  where
    by : (c : Bool) → eq_by_cmp nat_cmp s e.0 ≡ c → cond c (Some e.1) (find nat_cmp s es) ≡ Some object → (b : Bool) → test e.1 ≡ b → (find nat_cmp s es ≡ Some object → passing test es ≡ pid_of (s, object) ∷ []) → passing test (e ∷ es) ≡ pid_of (s, object) ∷ []
    by true place found b is rest =
        let one : s ≡ e.0 = eqb-true s e.0 (sym (tie s e.0) ∙ place) in
        let it : e.1 ≡ object = cc in
        let low : T (below_all nat_cmp s es) = subst (λ (k : ℕ). T (below_all nat_cmp k es)) (sym one) (first _ _ h) in
        let here : test e.1 ≡ true = ap test it ∙ passes in
        let none : passing test es ≡ [] = none_pass test s es (second _ _ h) (only_behind test s e es (first _ _ h) only) low in
        rw here ((λ i. pid_of e ∷ none i) ∙ (λ i. pid_of (sym one i, it i) ∷ []))
    by false place found true is rest =
        let one = only e.0 e.1 (found_here e es) is in
        let no : false ≡ true = sym place ∙ tie s e.0 ∙ eq-eqb s e.0 (sym one) in
        absurd cc
    by false place found false is rest = rw is (rest found)

-- where one passes and no other does, it is listed alone
pub lists_one : (test : Object → Bool) (M : Catalog) (s : ℕ) (object : Object) → get M s ≡ Some object → test object ≡ true → ((t : ℕ) (x : Object) → get M t ≡ Some x → test x ≡ true → t ≡ s) → pids_where test M ≡ pid_of (s, object) ∷ []
lists_one test M s object there passes only = one_passes test s object (entries M) (entries_sorted M) (sym (get-entries M s) ∙ there) passes (λ t x found p. only t x (get-entries M t ∙ found) p)

-- ---- sums

-- what the objects weigh, one by one
abbrev added : (Object → ℕ) → Entries → ℕ
added f [] = 0
added f (e ∷ es) = f e.1 + added f es

summed : (f : Object → ℕ) (es : Entries) → sum (map (λ e. f e.1) es) ≡ added f es
summed f es = sum-map (λ e. f e.1) es ∙ one_by_one es
  where
    one_by_one : (es : Entries) → sum_by (λ e. f e.1) es ≡ added f es
    one_by_one [] = refl
    one_by_one (e ∷ es) = sum_by-cons (λ e. f e.1) e es ∙ ap (λ (n : ℕ). f e.1 + n) (one_by_one es)

all_left : (f : Object → ℕ) (s : ℕ) (es : Entries) → T (below_all nat_cmp s es) → added f (others s es) ≡ added f es
all_left f s [] h = refl
all_left f s (e ∷ es) h = rw (apart s e.0 (less_is s e.0 (first _ _ h))) (ap (λ (n : ℕ). f e.1 + n) (all_left f s es (second _ _ h)))

weighed_without : (f : Object → ℕ) (s : ℕ) (es : Entries) → T (is_sorted nat_cmp es) → added f (others s es) + given (find nat_cmp s es) 0 f ≡ added f es
weighed_without f s [] h = refl
weighed_without f s (e ∷ es) h = by (e.0 == s) refl (weighed_without f s es (second _ _ h))
  where
    by : (b : Bool) → (e.0 == s) ≡ b → added f (others s es) + given (find nat_cmp s es) 0 f ≡ added f es → added f (others s (e ∷ es)) + given (find nat_cmp s (e ∷ es)) 0 f ≡ added f (e ∷ es)
    by true place rest =
        let one : e.0 ≡ s = eqb-true e.0 s place in
        let low : T (below_all nat_cmp s es) = subst (λ (k : ℕ). T (below_all nat_cmp k es)) one (first _ _ h) in
        rw (place, tie s e.0, eq-eqb s e.0 (sym one)) (omega (arith, all_left f s es low))
    by false place rest =
        let other : (s == e.0) ≡ false = grind (arith, nat_tests) in
        rw (place, tie s e.0, other) (omega (arith, rest))

none_below : (s : ℕ) (es : Entries) → T (below_all nat_cmp s es) → find nat_cmp s es ≡ None
none_below s [] h = refl
none_below s (e ∷ es) h = rw (tie s e.0, apart_left s e.0 (less_is s e.0 (first _ _ h))) (none_below s es (second _ _ h))

weighed_with : (f : Object → ℕ) (s : ℕ) (object : Object) (es : Entries) → T (is_sorted nat_cmp es) → added f (put nat_cmp s object es) + given (find nat_cmp s es) 0 f ≡ added f es + f object
weighed_with f s object [] h = omega arith
weighed_with f s object (e ∷ es) h = by (nat_cmp s e.0) refl (weighed_with f s object es (second _ _ h))
  where
    by : (r : Ordering) → nat_cmp s e.0 ≡ r → added f (put nat_cmp s object es) + given (find nat_cmp s es) 0 f ≡ added f es + f object → added f (put nat_cmp s object (e ∷ es)) + given (find nat_cmp s (e ∷ es)) 0 f ≡ added f (e ∷ es) + f object
    by Less is rest =
        let lt = less_of s e.0 is in
        let none = none_below s (e ∷ es) (both _ _ (is_below s e.0 lt) (below_all_below s e.0 es lt (first _ _ h))) in
        ap (λ (o : Option Object). added f (put nat_cmp s object (e ∷ es)) + given o 0 f) none ∙ (rw is (omega arith))
    by Equal is rest =
        let one : (s == e.0) ≡ true = eq-eqb s e.0 (same s e.0 is) in
        ap (λ (b : Bool). added f (put nat_cmp s object (e ∷ es)) + given (cond b (Some e.1) (find nat_cmp s es)) 0 f) (tie s e.0 ∙ one) ∙ (rw is (omega arith))
    by Greater is rest =
        let other : (s == e.0) ≡ false = apart e.0 s (above s e.0 is) in
        ap (λ (b : Bool). added f (put nat_cmp s object (e ∷ es)) + given (cond b (Some e.1) (find nat_cmp s es)) 0 f) (tie s e.0 ∙ other) ∙ (rw is (omega (arith, rest)))

pub total_without : (f : Object → ℕ) (M : Catalog) (s : ℕ) → sum (map (λ e. f e.1) (entries (remove M s))) + given (get M s) 0 f ≡ sum (map (λ e. f e.1) (entries M))
total_without f M s =
    (λ i. summed f (entries (remove M s)) i + given (get M s) 0 f)
    ∙ (λ i. added f (entries_without M s i) + given (get-entries M s i) 0 f)
    ∙ weighed_without f s (entries M) (entries_sorted M)
    ∙ sym (summed f (entries M))

pub total_with : (f : Object → ℕ) (M : Catalog) (s : ℕ) (object : Object) → sum (map (λ e. f e.1) (entries (insert M s object))) + given (get M s) 0 f ≡ sum (map (λ e. f e.1) (entries M)) + f object
total_with f M s object =
    (λ i. summed f (entries (insert M s object)) i + given (get M s) 0 f)
    ∙ (λ i. added f (entries-insert nat_cmp_total M s object i) + given (get-entries M s i) 0 f)
    ∙ weighed_with f s object (entries M) (entries_sorted M)
    ∙ (λ i. sym (summed f (entries M)) i + f object)
