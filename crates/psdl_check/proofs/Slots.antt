-- Where a number stands among those of a range that pass a test.
use Rattle.std.proofs.Common.{◌≡◌, ℕ, zero, suc, ◌+◌, ◌≤◌, ◌<◌, List, [], ◌∷◌, Bool, true, false, cond, ◌==◌, ◌||◌, length, length-append, filter, Option, Some, None, refl, sym, ap, ◌∙◌, arith, nat_lt, get_or, ltb-true, ltb-false}
use Rattle.std.specs.List.{position_from, range_with_len, slice_get}
use Rattle.std.proofs.lemmas.Bool.{eqb-true, eq-eqb}
use Rattle.type_layout.specs.declared.home.HomeNo.{HomeNo}
use Rattle.type_layout.specs.Schemas.{given}
use Rattle.psdl_directory.specs.Declarations.{Declaration}
use Rattle.psdl_directory.specs.Parts.{is_concrete_home}
use Rattle.psdl_directory.specs.Lookup.{at}
use Rattle.psdl_lineage.specs.Descent.{has, concrete_homes}
use Rattle.psdl_rules.specs.Faults.Limit.{home_number}
use Rattle.psdl_check.specs.inner.HomeNos.{homes_in_front, home_nos}
use Rattle.std.proofs.lemmas.List.FromFn.{get_or-map-range_with_len, length-map-range_with_len}
use Rattle.psdl_check.specs.Schemas.{home_no}
use Rattle.psdl_lineage.proofs.Inherited.{homes_below}
use Rattle.psdl_lineage.proofs.Supplying.{homes_before, homes_more}

differ : (a n : ℕ) → a < n → (a == n) ≡ false
differ a n lt = grind arith

differ_back : (a n : ℕ) → n < a → (a == n) ≡ false
differ_back a n lt = grind arith

abbrev number : ℕ → HomeNo
number k = record { 0 = k }

abbrev place : ℕ → ℕ → List ℕ → Option ℕ
place n i xs = position_from (λ m. m == n) i xs

-- ---- none is lower than the first

lower_step : (rest : List ℕ) (a i n : ℕ) → n < a → ((j : ℕ) → place n j rest ≡ None) → (b : Bool) → place n i (cond b (a ∷ rest) rest) ≡ None
lower_step rest a i n lt none true = ap (λ v. cond v (Some i) (place n (i + 1) rest)) (differ_back a n lt) ∙ none (i + 1)
lower_step rest a i n lt none false = none i

none_under : (test : ℕ → Bool) (k a i n : ℕ) → n < a → place n i (filter test (range_with_len a k)) ≡ None
none_under test zero a i n lt = refl
none_under test (suc k) a i n lt = lower_step (filter test (range_with_len (a + 1) k)) a i n lt (λ j. none_under test k (a + 1) j n (omega (arith, lt))) (test a)

-- ---- one that passes stands behind those in front of it

here : (rest : List ℕ) (a i : ℕ) → ((j : ℕ) → place a j rest ≡ None) → (b : Bool) → place a i (cond b (a ∷ rest) rest) ≡ cond b (Some (i + 0)) None
here rest a i none true = let e : i ≡ i + 0 = omega arith in ap (λ v. cond v (Some i) (place a (i + 1) rest)) (eq-eqb a a refl) ∙ ap (λ m. Some m) e
here rest a i none false = none i

further : (rest front : List ℕ) (a i n : ℕ) (passes : Bool) → a < n → ((j : ℕ) → place n j rest ≡ cond passes (Some (j + length front)) None)
    → (b : Bool) → place n i (cond b (a ∷ rest) rest) ≡ cond passes (Some (i + length (cond b (a ∷ front) front))) None
further rest front a i n passes lt so_far true =
    let e : i + 1 + length front ≡ i + length (a ∷ front) = omega arith in
    ap (λ v. cond v (Some i) (place n (i + 1) rest)) (differ a n lt) ∙ so_far (i + 1) ∙ ap (λ m. cond passes (Some m) None) e
further rest front a i n passes lt so_far false = so_far i

pub place_is : (test : ℕ → Bool) (k a d i n : ℕ) → n ≡ a + d → d < k → place n i (filter test (range_with_len a k)) ≡ cond (test n) (Some (i + length (filter test (range_with_len a d)))) None
place_is test zero a d i n e lt = absurd (omega (arith, lt))
place_is test (suc k) a zero i n e lt =
    let same : n ≡ a = omega (arith, e) in
    rw same (here (filter test (range_with_len (a + 1) k)) a i (λ j. none_under test k (a + 1) j a (omega arith)) (test a))
place_is test (suc k) a (suc d) i n e lt =
    further (filter test (range_with_len (a + 1) k)) (filter test (range_with_len (a + 1) d)) a i n (test n) (omega (arith, e))
    (λ j. place_is test k (a + 1) d j n (omega (arith, e)) (omega (arith, lt))) (test a)

number_of : (b : Bool) (k : ℕ) → given (cond b (Some k) None) 0 (λ p. p) ≡ cond b k 0
number_of true k = refl
number_of false k = refl

-- the number of a home is by one more than that of the homes in front of it
pub numbered : (all : List Declaration) (n : ℕ) → n < length all → home_number all n ≡ cond (is_concrete_home (at all n).what) (1 + homes_in_front all n) 0
unfolding concrete_homes
numbered all n lt =
    ap (λ (o : Option ℕ). given o 0 (λ p. p)) (place_is (λ m. is_concrete_home (at all m).what) (length all) 0 n 1 n (omega arith) lt)
    ∙ number_of (is_concrete_home (at all n).what) (1 + homes_in_front all n)

-- ---- what stands at a place

abbrev is_place : ℕ → Option ℕ → Bool
is_place p o = given o false (λ q. q == p)

early : (xs : List ℕ) (n j p : ℕ) → p < j → is_place p (place n j xs) ≡ false
early [] n j p lt = refl
early (x ∷ xs) n j p lt = by (x == n) (early xs n (j + 1) p (omega (arith, lt)))
  where
    by : (b : Bool) → is_place p (place n (j + 1) xs) ≡ false → is_place p (cond b (Some j) (place n (j + 1) xs)) ≡ false
    by true rest = differ_back j p lt
    by false rest = rest

-- the first one
at_first : (rest : List ℕ) (x i n : ℕ) (b : Bool) → is_place (i + 0) (cond b (Some i) (place n (i + 1) rest)) ≡ b
at_first rest x i n true = eq-eqb i (i + 0) (omega arith)
at_first rest x i n false = early rest n (i + 1) (i + 0) (omega arith)

-- a later one
at_later : (rest : List ℕ) (x i n p : ℕ) → ((j : ℕ) → is_place (j + p) (place n j rest) ≡ given (slice_get rest p) false (λ h. h == n)) → (x ≡ n → (j : ℕ) → place n j rest ≡ None)
    → (b : Bool) → (x == n) ≡ b → is_place (i + suc p) (cond b (Some i) (place n (i + 1) rest)) ≡ given (slice_get rest p) false (λ h. h == n)
at_later rest x i n p so_far none true e =
    differ i (i + suc p) (omega arith) ∙ ap (λ (o : Option ℕ). is_place (0 + p) o) (sym (none (eqb-true x n e) 0)) ∙ so_far 0
at_later rest x i n p so_far none false e =
    let moved : i + suc p ≡ i + 1 + p = omega arith in
    ap (λ q. is_place q (place n (i + 1) rest)) moved ∙ so_far (i + 1)

slot_step : (rest : List ℕ) (a i n p : ℕ) → ((j q : ℕ) → is_place (j + q) (place n j rest) ≡ given (slice_get rest q) false (λ h. h == n)) → (a ≡ n → (j : ℕ) → place n j rest ≡ None)
    → (b : Bool) → is_place (i + p) (place n i (cond b (a ∷ rest) rest)) ≡ given (slice_get (cond b (a ∷ rest) rest) p) false (λ h. h == n)
slot_step rest a i n zero so_far none true = at_first rest a i n (a == n)
slot_step rest a i n (suc p) so_far none true = at_later rest a i n p (λ j. so_far j p) none (a == n) refl
slot_step rest a i n p so_far none false = so_far i p

slot_is : (test : ℕ → Bool) (k a i n p : ℕ) → is_place (i + p) (place n i (filter test (range_with_len a k))) ≡ given (slice_get (filter test (range_with_len a k)) p) false (λ h. h == n)
slot_is test zero a i n p = refl
slot_is test (suc k) a i n p =
    slot_step (filter test (range_with_len (a + 1) k)) a i n p (λ j q. slot_is test k (a + 1) j n q) (λ e j. none_under test k (a + 1) j n (omega (arith, e))) (test a)

of_number : (o : Option ℕ) (k : ℕ) → (given o 0 (λ p. p) == k + 1) ≡ is_place (1 + k) o
of_number None k = differ 0 (k + 1) (omega arith)
of_number (Some p) k = let e : k + 1 ≡ 1 + k = omega arith in ap (λ m. p == m) e

-- a home has the number of the place where it stands
pub numbered_at : (ds : List Declaration) (n k : ℕ) → (home_number ds n == k + 1) ≡ given (slice_get (concrete_homes ds) k) false (λ h. h == n)
unfolding concrete_homes
numbered_at ds n k =
    of_number (place n 1 (concrete_homes ds)) k ∙ slot_is (λ m. is_concrete_home (at ds m).what) (length ds) 0 1 n k

pub in_front_more : (all : List Declaration) (i : ℕ) → homes_in_front all (i + 1) ≡ cond (is_concrete_home (at all i).what) (homes_in_front all i + 1) (homes_in_front all i)
in_front_more all i = ap (λ l. length l) (homes_more all i) ∙ length-append (homes_before all i) (cond (is_concrete_home (at all i).what) (i ∷ []) []) ∙ by (is_concrete_home (at all i).what) (homes_in_front all i)
  where
    by : (b : Bool) (k : ℕ) → k + length (cond b (i ∷ []) []) ≡ cond b (k + 1) k
    by true k = omega arith
    by false k = omega arith

-- no more homes stand in front than there are
few_in_front : (test : ℕ → Bool) (k i a : ℕ) → i ≤ k → length (filter test (range_with_len a i)) ≤ length (filter test (range_with_len a k))
few_in_front test k zero a le = omega arith
few_in_front test zero (suc i) a le = absurd (omega (arith, le))
few_in_front test (suc k) (suc i) a le =
    by (filter test (range_with_len (a + 1) i)) (filter test (range_with_len (a + 1) k)) (test a) (few_in_front test k i (a + 1) (omega (arith, le)))
  where
    by : (xs ys : List ℕ) (b : Bool) → length xs ≤ length ys → length (cond b (a ∷ xs) xs) ≤ length (cond b (a ∷ ys) ys)
    by xs ys true le = omega (arith, le)
    by xs ys false le = le

pub in_front_within : (all : List Declaration) (i : ℕ) → i ≤ length all → homes_in_front all i ≤ length (concrete_homes all)
unfolding concrete_homes
in_front_within all i le = few_in_front (λ n. is_concrete_home (at all n).what) (length all) i 0 le

-- ---- one declaration more

numbered_by : (all : List Declaration) (n : ℕ) (k : ℕ) → n < length all → (b : Bool) → is_concrete_home (at all n).what ≡ b → k ≡ cond b (1 + homes_in_front all n) 0 → number k ≡ home_no all n
numbered_by all n k lt b h e = ap number (e ∙ sym (numbered all n lt ∙ ap (λ v. cond v (1 + homes_in_front all n) 0) h))

pub with_home : (all : List Declaration) (n k c : ℕ) → n < length all → k ≡ homes_in_front all n → c ≡ k + 1 → is_concrete_home (at all n).what ≡ true → number c ≡ home_no all n
with_home all n k c lt e more h = numbered_by all n c lt true h (omega (arith, e, more))

pub without_home : (all : List Declaration) (n : ℕ) → n < length all → is_concrete_home (at all n).what ≡ false → number 0 ≡ home_no all n
without_home all n lt h = numbered_by all n 0 lt false h refl

pub one_home_more : (all : List Declaration) (n k c : ℕ) → k ≡ homes_in_front all n → c ≡ k + 1 → is_concrete_home (at all n).what ≡ true → c ≡ homes_in_front all (n + 1)
one_home_more all n k c e more h = more ∙ ap (λ m. m + 1) e ∙ sym (in_front_more all n ∙ ap (λ b. cond b (homes_in_front all n + 1) (homes_in_front all n)) h)

pub no_home_more : (all : List Declaration) (n k : ℕ) → k ≡ homes_in_front all n → is_concrete_home (at all n).what ≡ false → k ≡ homes_in_front all (n + 1)
no_home_more all n k e h = e ∙ sym (in_front_more all n ∙ ap (λ b. cond b (homes_in_front all n + 1) (homes_in_front all n)) h)

-- ---- what is no home

none_there : (n i : ℕ) (xs : List ℕ) → has xs n ≡ false → place n i xs ≡ None
none_there n i [] h = refl
none_there n i (x ∷ xs) h = by (x == n) h (λ g. none_there n (i + 1) xs g)
  where
    by : (b : Bool) → b || has xs n ≡ false → (has xs n ≡ false → place n (i + 1) xs ≡ None) → cond b (Some i) (place n (i + 1) xs) ≡ None
    by true h rest = absurd (cc)
    by false h rest = rest h

not_has : (b : Bool) → (b ≡ true → ⊥) → b ≡ false
not_has true out = absurd (out refl)
not_has false out = refl

-- what is no declaration has the number 0
pub past : (all : List Declaration) (n : ℕ) → length all ≤ n → number 0 ≡ home_no all n
past all n le =
    let out : has (concrete_homes all) n ≡ false = not_has (has (concrete_homes all) n) (λ h. omega (arith, homes_below all n h, le)) in
    ap number (sym (ap (λ (o : Option ℕ). given o 0 (λ p. p)) (none_there n 1 (concrete_homes all) out)))

-- ---- the number that is kept

pub no_got : (all : List Declaration) (ns : List HomeNo) (n i : ℕ) (h : HomeNo) → ns ≡ home_nos all → i ≡ n → true ≡ nat_lt i (length ns) → h ≡ get_or ns i h → h ≡ home_no all n
no_got all ns n i h e same there got =
    let within : n < length all = omega (arith, ltb-true i (length ns) (sym there), same, ap (λ l. length l) e, length-map-range_with_len (home_no all) 0 (length all)) in
    got ∙ ap (λ k. get_or ns k h) same ∙ ap (λ l. get_or l n h) e ∙ get_or-map-range_with_len (home_no all) 0 (length all) n n h within (omega arith)

pub no_none : (all : List Declaration) (ns : List HomeNo) (n i : ℕ) → ns ≡ home_nos all → i ≡ n → false ≡ nat_lt i (length ns) → number 0 ≡ home_no all n
no_none all ns n i e same none = past all n (omega (arith, ltb-false i (length ns) (sym none), same, ap (λ l. length l) e, length-map-range_with_len (home_no all) 0 (length all)))
