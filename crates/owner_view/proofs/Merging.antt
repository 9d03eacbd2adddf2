-- Two orders that are merged are that of a view.
use Rattle.std.proofs.Common.{◌≡◌, ◌<◌, ◌≤◌, ℕ, zero, suc, ◌+◌, Bool, true, false, cond, not, ◌==◌, List, [], ◌∷◌, ◌++◌, length, map, take, drop, Option, Some, None, refl, sym, ap, ◌∙◌, arith}
use Rattle.std.specs.Prelude.{filter, nat_lt, T}
use Rattle.std.specs.Option.{option_to_list}
use Rattle.std.specs.List.{prefix_len}
use Rattle.std.specs.Ordering.{nat_cmp, is_lt}
use Rattle.std.specs.FinMap.{entries, entries_sorted, is_sorted}
use Rattle.std.specs.FinMap.Entries.{below_all}
use Rattle.std.proofs.lemmas.Bool.Decides.{nat_tests}
use Rattle.std.proofs.lemmas.List.{append_assoc, take-take}
use Rattle.pss_base.specs.declared.pid.Pid.{Pid}
use Rattle.pss_catalog.specs.Catalog.{Object, Catalog, pid_of, pids_where, without, placed}
use Rattle.pss_catalog.specs.Changes.{Change, over}
use Rattle.pss_machine.proofs.Found.{first, second}
use Rattle.owner_view.specs.Merging.{is_before, before, onward, past, passing_at, merged}
use Rattle.owner_view.proofs.Listing.{changed_list, changed_lists, listed_after}

-- ---- the parts of a list

one_more : (n : ℕ) → 1 + n ≡ suc n
one_more n = omega arith

pub before_is : (s : ℕ) (pids : List Pid) → take (prefix_len (is_before s) pids) pids ≡ before s pids
before_is s [] = refl
before_is s (p ∷ ps) = by (is_before s p) (before_is s ps)
  where
    by : (b : Bool) → take (prefix_len (is_before s) ps) ps ≡ before s ps → take (cond b (1 + prefix_len (is_before s) ps) 0) (p ∷ ps) ≡ cond b (p ∷ before s ps) []
    by true rest = ap (λ (n : ℕ). take n (p ∷ ps)) (one_more (prefix_len (is_before s) ps)) ∙ ap (λ (l : List Pid). p ∷ l) rest
    by false rest = refl

pub onward_is : (s : ℕ) (pids : List Pid) → drop (prefix_len (is_before s) pids) pids ≡ onward s pids
onward_is s [] = refl
onward_is s (p ∷ ps) = by (is_before s p) (onward_is s ps)
  where
    by : (b : Bool) → drop (prefix_len (is_before s) ps) ps ≡ onward s ps → drop (cond b (1 + prefix_len (is_before s) ps) 0) (p ∷ ps) ≡ cond b (onward s ps) (p ∷ ps)
    by true rest = ap (λ (n : ℕ). drop n (p ∷ ps)) (one_more (prefix_len (is_before s) ps)) ∙ rest
    by false rest = refl

-- ---- order

-- the serials rise, from this one on
abbrev Ascends : ℕ → List Pid → Type 0
Ascends least [] = Unit {0}
Ascends least (p ∷ ps) = (least ≤ p.serial) × Ascends (p.serial + 1) ps

-- all serials are below this one
abbrev AreBelow : ℕ → List Pid → Type 0
AreBelow s [] = Unit {0}
AreBelow s (p ∷ ps) = (p.serial < s) × AreBelow s ps

-- the serials of changes rise, from this one on
abbrev pub Rises : ℕ → List Change → Type 0
Rises least [] = Unit {0}
Rises least (c ∷ cs) = (least ≤ c.serial) × Rises (c.serial + 1) cs

ascends_lower : (n m : ℕ) (pids : List Pid) → n ≤ m → Ascends m pids → Ascends n pids
ascends_lower n m [] le h = tt
ascends_lower n m (p ∷ ps) le h = (omega (arith, le, h.0), h.1)

below_higher : (s t : ℕ) (pids : List Pid) → s ≤ t → AreBelow s pids → AreBelow t pids
below_higher s t [] le h = tt
below_higher s t (p ∷ ps) le h = (omega (arith, le, h.0), below_higher s t ps le h.1)

below_both : (s : ℕ) (xs ys : List Pid) → AreBelow s xs → AreBelow s ys → AreBelow s (xs ++ ys)
below_both s [] ys a b = b
below_both s (x ∷ xs) ys a b = (a.0, below_both s xs ys a.1 b)

less_test : (a b : ℕ) → a < b → nat_lt a b ≡ true
less_test a b lt = grind (arith, nat_tests)

more_test : (a b : ℕ) → b ≤ a → nat_lt a b ≡ false
more_test a b le = grind (arith, nat_tests)

apart_test : (a b : ℕ) → b < a → (a == b) ≡ false
apart_test a b lt = grind (arith, nat_tests)

under_test : (a b : ℕ) → a < b → (a == b) ≡ false
under_test a b lt = grind (arith, nat_tests)

test_less : (a b : ℕ) → nat_lt a b ≡ true → a < b
test_less a b e = grind (arith, nat_tests)

test_more : (a b : ℕ) → nat_lt a b ≡ false → b ≤ a
test_more a b e = grind (arith, nat_tests)

test_same : (a b : ℕ) → (a == b) ≡ true → a ≡ b
test_same a b e = grind (arith, nat_tests)

test_apart : (a b : ℕ) → (a == b) ≡ false → b ≤ a → b + 1 ≤ a
test_apart a b e le = grind (arith, nat_tests)

below_before : (s : ℕ) (pids : List Pid) → AreBelow s (before s pids)
below_before s [] = tt
below_before s (p ∷ ps) = by (is_before s p) refl (below_before s ps)
  where
    by : (b : Bool) → is_before s p ≡ b → AreBelow s (before s ps) → AreBelow s (cond b (p ∷ before s ps) [])
    by true is rest = (test_less p.serial s is, rest)
    by false is rest = tt

ascends_past : (n s : ℕ) (pids : List Pid) → Ascends n pids → Ascends (s + 1) (past s (onward s pids))
ascends_past n s [] h = tt
ascends_past n s (p ∷ ps) h = by (is_before s p) refl (ascends_past (p.serial + 1) s ps h.1)
  where
    here : s ≤ p.serial → (b : Bool) → (p.serial == s) ≡ b → Ascends (s + 1) (cond b ps (p ∷ ps))
    here le true is = (let e = test_same p.serial s is in ascends_lower (s + 1) (p.serial + 1) ps (omega (arith, e)) h.1)
    here le false is = (test_apart p.serial s is le, h.1)

    by : (b : Bool) → is_before s p ≡ b → Ascends (s + 1) (past s (onward s ps)) → Ascends (s + 1) (past s (cond b (onward s ps) (p ∷ ps)))
    by true is rest = rest
    by false is rest = here (test_more p.serial s is) (p.serial == s) refl

-- above a serial, all stay without it
all_stay : (s n : ℕ) (pids : List Pid) → s < n → Ascends n pids → without s pids ≡ pids
all_stay s n [] lt h = refl
all_stay s n (p ∷ ps) lt h = rw (apart_test p.serial s (omega (arith, lt, h.0))) (ap (λ (l : List Pid). p ∷ l) (all_stay s (p.serial + 1) ps (omega (arith, lt, h.0)) h.1))

without_is : (n s : ℕ) (pids : List Pid) → Ascends n pids → without s pids ≡ before s pids ++ past s (onward s pids)
without_is n s [] h = refl
without_is n s (p ∷ ps) h = by (is_before s p) refl (without_is (p.serial + 1) s ps h.1)
  where
    here : s ≤ p.serial → (b : Bool) → (p.serial == s) ≡ b → cond (not b) (p ∷ without s ps) (without s ps) ≡ cond b ps (p ∷ ps)
    here le true is = (let e = test_same p.serial s is in all_stay s (p.serial + 1) ps (omega (arith, e)) h.1)
    here le false is = (let e = test_apart p.serial s is le in ap (λ (l : List Pid). p ∷ l) (all_stay s (p.serial + 1) ps (omega (arith, e)) h.1))

    by : (b : Bool) → is_before s p ≡ b → without s ps ≡ before s ps ++ past s (onward s ps) → without s (p ∷ ps) ≡ before s (p ∷ ps) ++ past s (onward s (p ∷ ps))
    by true is rest = rw (is, under_test p.serial s (test_less p.serial s is)) (ap (λ (l : List Pid). p ∷ l) rest)
    by false is rest = rw is (here (test_more p.serial s is) (p.serial == s) refl)

-- an object stands behind those below it, in front of those above it
placed_is : (p : Pid) (n : ℕ) (xs ys : List Pid) → AreBelow p.serial xs → p.serial < n → Ascends n ys → placed p (xs ++ ys) ≡ xs ++ p ∷ ys
placed_is p n [] [] a lt h = refl
placed_is p n [] (y ∷ ys) a lt h = rw (less_test p.serial y.serial (omega (arith, lt, h.0))) refl
placed_is p n (x ∷ xs) ys a lt h = rw (more_test p.serial x.serial (let l = a.0 in omega (arith, l))) (ap (λ (l : List Pid). x ∷ l) (placed_is p n xs ys a.1 lt h))

-- ---- one change

abbrev own : (Object → Bool) → Change → List Pid
own test c = option_to_list (passing_at test c.serial c.state)

changed_is : (test : Object → Bool) (c : Change) (n : ℕ) (pids : List Pid) → Ascends n pids → changed_list test c pids ≡ before c.serial pids ++ (own test c ++ past c.serial (onward c.serial pids))
changed_is test c n pids h = by c.state
  where
    by : (state : Option Object) → changed_list test (record { serial = c.serial; state = state }) pids ≡ before c.serial pids ++ (option_to_list (passing_at test c.serial state) ++ past c.serial (onward c.serial pids))
    by None = without_is n c.serial pids h
    by (Some object) = at (test object)
      where
        at : (b : Bool) → cond b (placed (pid_of (c.serial, object)) (without c.serial pids)) (without c.serial pids) ≡ before c.serial pids ++ (option_to_list (cond b (Some (pid_of (c.serial, object))) None) ++ past c.serial (onward c.serial pids))
        at true = ap (placed (pid_of (c.serial, object))) (without_is n c.serial pids h) ∙ placed_is (pid_of (c.serial, object)) (c.serial + 1) (before c.serial pids) (past c.serial (onward c.serial pids)) (below_before c.serial pids) (omega arith) (ascends_past n c.serial pids h)
        at false = without_is n c.serial pids h

own_below : (test : Object → Bool) (c : Change) → AreBelow (c.serial + 1) (own test c)
own_below test c = by c.state
  where
    by : (state : Option Object) → AreBelow (c.serial + 1) (option_to_list (passing_at test c.serial state))
    by None = tt
    by (Some object) = at (test object)
      where
        at : (b : Bool) → AreBelow (c.serial + 1) (option_to_list (cond b (Some (pid_of (c.serial, object))) None))
        at true = (omega arith, tt)
        at false = tt

-- ---- those below a change are not touched by it

without_front : (s : ℕ) (xs ys : List Pid) → AreBelow s xs → without s (xs ++ ys) ≡ xs ++ without s ys
without_front s [] ys a = refl
without_front s (x ∷ xs) ys a = rw (under_test x.serial s a.0) (ap (λ (l : List Pid). x ∷ l) (without_front s xs ys a.1))

placed_front : (p : Pid) (xs ys : List Pid) → AreBelow p.serial xs → placed p (xs ++ ys) ≡ xs ++ placed p ys
placed_front p [] ys a = refl
placed_front p (x ∷ xs) ys a = rw (more_test p.serial x.serial (let l = a.0 in omega (arith, l))) (ap (λ (l : List Pid). x ∷ l) (placed_front p xs ys a.1))

changed_front : (test : Object → Bool) (c : Change) (xs ys : List Pid) → AreBelow c.serial xs → changed_list test c (xs ++ ys) ≡ xs ++ changed_list test c ys
changed_front test c xs ys a = by c.state
  where
    by : (state : Option Object) → changed_list test (record { serial = c.serial; state = state }) (xs ++ ys) ≡ xs ++ changed_list test (record { serial = c.serial; state = state }) ys
    by None = without_front c.serial xs ys a
    by (Some object) = at (test object)
      where
        at : (b : Bool) → cond b (placed (pid_of (c.serial, object)) (without c.serial (xs ++ ys))) (without c.serial (xs ++ ys)) ≡ xs ++ cond b (placed (pid_of (c.serial, object)) (without c.serial ys)) (without c.serial ys)
        at true = ap (placed (pid_of (c.serial, object))) (without_front c.serial xs ys a) ∙ placed_front (pid_of (c.serial, object)) xs (without c.serial ys) a
        at false = without_front c.serial xs ys a

front_stays : (test : Object → Bool) (n : ℕ) (cs : List Change) (xs ys : List Pid) → Rises n cs → AreBelow n xs → changed_lists test cs (xs ++ ys) ≡ xs ++ changed_lists test cs ys
front_stays test n [] xs ys r a = refl
front_stays test n (c ∷ cs) xs ys r a =
    ap (changed_lists test cs) (changed_front test c xs ys (below_higher n c.serial xs r.0 a))
    ∙ front_stays test (c.serial + 1) cs xs (changed_list test c ys) r.1 (below_higher n (c.serial + 1) xs (let l = r.0 in omega (arith, l)) a)

-- ---- all changes

merged_is : (test : Object → Bool) (n m : ℕ) (cs : List Change) (pids : List Pid) → Rises m cs → Ascends n pids → changed_lists test cs pids ≡ merged test cs pids
merged_is test n m [] pids r h = refl
merged_is test n m (c ∷ cs) pids r h =
    let front = before c.serial pids in
    let back = past c.serial (onward c.serial pids) in
    let low : AreBelow (c.serial + 1) (front ++ own test c) = below_both (c.serial + 1) front (own test c) (below_higher c.serial (c.serial + 1) front (omega arith) (below_before c.serial pids)) (own_below test c) in
    ap (changed_lists test cs) (changed_is test c n pids h ∙ sym (append_assoc front (own test c) back))
    ∙ front_stays test (c.serial + 1) cs (front ++ own test c) back r.1 low
    ∙ ap (λ (l : List Pid). (front ++ own test c) ++ l) (merged_is test (c.serial + 1) (c.serial + 1) cs back r.1 (ascends_past n c.serial pids h))
    ∙ append_assoc front (own test c) (merged test cs back)

pub less_is : (a b : ℕ) → T (is_lt (nat_cmp a b)) → a < b
less_is a b e = grind (arith, nat_tests)

abbrev passing : (Object → Bool) → List (ℕ × Object) → List Pid
passing test es = map pid_of (filter (λ e. test e.1) es)

-- the first entry is the lowest
lowest : (test : Object → Bool) (s : ℕ) (es : List (ℕ × Object)) → T (below_all nat_cmp s es) → T (is_sorted nat_cmp es) → Ascends (s + 1) (passing test es)
lowest test s [] low h = tt
lowest test s (e ∷ es) low h = by (test e.1) (lowest test e.0 es (first (below_all nat_cmp e.0 es) _ h) (second (below_all nat_cmp e.0 es) _ h))
  where
    by : (b : Bool) → Ascends (e.0 + 1) (passing test es) → Ascends (s + 1) (map pid_of (cond b (e ∷ filter (λ e. test e.1) es) (filter (λ e. test e.1) es)))
    by true rest = (let lt = less_is s e.0 (first _ _ low) in omega (arith, lt), rest)
    by false rest = (let lt = less_is s e.0 (first _ _ low) in ascends_lower (s + 1) (e.0 + 1) (passing test es) (omega (arith, lt)) rest)

extent_ascends : (test : Object → Bool) (es : List (ℕ × Object)) → T (is_sorted nat_cmp es) → Ascends 0 (passing test es)
extent_ascends test [] h = tt
extent_ascends test (e ∷ es) h = by (test e.1) (lowest test e.0 es (first (below_all nat_cmp e.0 es) _ h) (second (below_all nat_cmp e.0 es) _ h))
  where
    by : (b : Bool) → Ascends (e.0 + 1) (passing test es) → Ascends 0 (map pid_of (cond b (e ∷ filter (λ e. test e.1) es) (filter (λ e. test e.1) es)))
    by true rest = (omega arith, rest)
    by false rest = ascends_lower 0 (e.0 + 1) (passing test es) (omega arith) rest

-- the objects of a view that pass a test
pub view_merged : (test : Object → Bool) (M : Catalog) (cs : List Change) → Rises 0 cs → pids_where test (over M cs) ≡ merged test cs (pids_where test M)
view_merged test M cs r = listed_after test M cs ∙ merged_is test 0 0 cs (pids_where test M) r (extent_ascends test (entries M) (entries_sorted M))

-- ---- the first of them

same_shorter : (n : ℕ) (xs ys : List Pid) → take (suc n) xs ≡ take (suc n) ys → take n xs ≡ take n ys
same_shorter n xs ys e = sym (take-take n (suc n) xs (omega arith)) ∙ ap (take n) e ∙ take-take n (suc n) ys (omega arith)

same_behind : (n : ℕ) (zs xs ys : List Pid) → take n xs ≡ take n ys → take n (zs ++ xs) ≡ take n (zs ++ ys)
same_behind n [] xs ys e = e
same_behind zero (z ∷ zs) xs ys e = refl
same_behind (suc n) (z ∷ zs) xs ys e = ap (λ (l : List Pid). z ∷ l) (same_behind n zs xs ys (same_shorter n xs ys e))

-- what is cut off before more comes is cut off behind it too
pub cut_once : (n : ℕ) (xs ys : List Pid) → take n (take n xs ++ ys) ≡ take n (xs ++ ys)
cut_once zero xs ys = refl
cut_once (suc n) [] ys = refl
cut_once (suc n) (x ∷ xs) ys = ap (λ (l : List Pid). x ∷ l) (cut_once n xs ys)

-- what a change and those behind it leave
abbrev tail : (Object → Bool) → Change → List Change → List Pid → List Pid
tail test c cs pids = own test c ++ merged test cs (past c.serial pids)

-- as many as there are changes may be missing from the end
abbrev IsFront : (Object → Bool) → List Change → Type 0
IsFront test cs = (n m : ℕ) (pids : List Pid) → n + length cs ≤ m → take n (merged test cs (take m pids)) ≡ take n (merged test cs pids)

abbrev whole : (Object → Bool) → Change → List Change → List Pid → List Pid
whole test c cs pids = before c.serial pids ++ tail test c cs (onward c.serial pids)

-- each change takes one of them away at most
pub merged_front : (test : Object → Bool) (cs : List Change) → IsFront test cs
merged_front test [] n m pids le = take-take n m pids (omega (arith, le))
merged_front test (c ∷ cs) n m pids le = one (merged_front test cs) n m pids (let e : n + suc (length cs) ≤ m = le in omega (arith, e))
  where
    one : IsFront test cs → (n m : ℕ) (pids : List Pid) → n + 1 + length cs ≤ m → take n (whole test c cs (take m pids)) ≡ take n (whole test c cs pids)
    one fewer n zero pids le = absurd (omega (arith, le))
    one fewer n (suc m) [] le = refl
    one fewer n (suc m) (p ∷ ps) le = by (is_before c.serial p) refl (λ k less. one fewer k m ps less)
      where
        here : (b : Bool) → (p.serial == c.serial) ≡ b → take n (own test c ++ merged test cs (cond b (take m ps) (p ∷ take m ps))) ≡ take n (own test c ++ merged test cs (cond b ps (p ∷ ps)))
        here true is = same_behind n (own test c) _ _ (fewer n m ps (omega (arith, le)))
        here false is = same_behind n (own test c) _ _ (fewer n (suc m) (p ∷ ps) (omega (arith, le)))

        further : ((k : ℕ) → k + 1 + length cs ≤ m → take k (whole test c cs (take m ps)) ≡ take k (whole test c cs ps)) → (n : ℕ) → n + 1 + length cs ≤ suc m → take n (p ∷ whole test c cs (take m ps)) ≡ take n (p ∷ whole test c cs ps)
        further rest zero le = refl
        further rest (suc n) le = ap (λ (l : List Pid). p ∷ l) (rest n (omega (arith, le)))

        by : (b : Bool) → is_before c.serial p ≡ b → ((k : ℕ) → k + 1 + length cs ≤ m → take k (whole test c cs (take m ps)) ≡ take k (whole test c cs ps)) → take n (whole test c cs (p ∷ take m ps)) ≡ take n (whole test c cs (p ∷ ps))
        by true is rest = rw is (further rest n le)
        by false is rest = rw is (here (p.serial == c.serial) refl)

-- ---- the list of the first so far

pub cut_short : (n : ℕ) (xs : List Pid) → length (take n xs) ≤ n
cut_short zero xs = omega arith
cut_short (suc n) [] = omega arith
cut_short (suc n) (x ∷ xs) = (let rest = cut_short n xs in omega (arith, rest))

-- where it is full, nothing is put
pub full : (n : ℕ) (xs ys : List Pid) → length xs ≡ n → take n (xs ++ ys) ≡ xs
full zero [] ys e = refl
full zero (x ∷ xs) ys e = absurd (omega (arith, e))
full (suc n) [] ys e = absurd (omega (arith, e))
full (suc n) (x ∷ xs) ys e = ap (λ (l : List Pid). x ∷ l) (full n xs ys (omega (arith, e)))

-- more is put behind what was put
pub put_more : (n : ℕ) (old so_far more now : List Pid) → so_far ≡ take n old → now ≡ take n (so_far ++ more) → now ≡ take n (old ++ more)
put_more n old so_far more now is put = put ∙ ap (λ (l : List Pid). take n (l ++ more)) is ∙ cut_once n old more

pub put_both : (n : ℕ) (old front own between now : List Pid) → between ≡ take n (old ++ front) → now ≡ take n (between ++ own) → now ≡ take n (old ++ (front ++ own))
put_both n old front own between now is put = put_more n (old ++ front) between own now is put ∙ ap (take n) (append_assoc old front own)

-- one change more is put
pub change_put : (test : Object → Bool) (n : ℕ) (c : Change) (cs : List Change) (pids rest now left all : List Pid) → now ≡ take n (pids ++ (before c.serial rest ++ own test c)) → left ≡ past c.serial (onward c.serial rest) → take n (pids ++ merged test (c ∷ cs) rest) ≡ all → take n (now ++ merged test cs left) ≡ all
change_put test n c cs pids rest now left all put is so_far =
    let front = before c.serial rest in
    let back = merged test cs (past c.serial (onward c.serial rest)) in
    ap (λ (l : List Pid). take n (l ++ merged test cs left)) put
    ∙ cut_once n (pids ++ (front ++ own test c)) (merged test cs left)
    ∙ ap (λ (l : List Pid). take n ((pids ++ (front ++ own test c)) ++ merged test cs l)) is
    ∙ ap (take n) (append_assoc pids (front ++ own test c) back ∙ ap (λ (l : List Pid). pids ++ l) (append_assoc front (own test c) back))
    ∙ so_far
