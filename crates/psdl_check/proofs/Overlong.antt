-- Up to which home the shape stays within its limit.
use Rattle.std.proofs.Common.{◌≡◌, ℕ, zero, suc, ◌+◌, ◌<◌, List, [], ◌∷◌, ◌++◌, length, map, take, Bool, true, false, cond, nat_lt, Some, None, refl, sym, ap, ◌∙◌, add-one, arith, length-append}
use Rattle.std.specs.List.{find, range_with_len, slice_get}
use Rattle.std.specs.Option.{option_map, option_and_then}
use Rattle.std.proofs.lemmas.List.{append-nil, append_assoc, length-map}
use Rattle.std.proofs.lemmas.Option.{slice_get-map}
use Rattle.psdl_lineage.proofs.Inherited.{homes_below}
use Rattle.psdl_lineage.proofs.Named.{has_at}
use Rattle.type_layout.specs.declared.schema.Home.{Home}
use Rattle.type_layout.specs.declared.schema.Schema.{Schema}
use Rattle.type_layout.specs.Schemas.{nth}
use Rattle.type_layout.specs.ShapeText.{home_lines, lines_from}
use Rattle.psdl_directory.specs.Declarations.{Declaration}
use Rattle.psdl_lineage.specs.Descent.{concrete_homes}
use Rattle.psdl_check.specs.Faults.{passing}
use Rattle.psdl_rules.specs.Faults.Limit.{most_shape}
use Rattle.psdl_check.specs.inner.Made.{lines_at, lines_before}
use Rattle.psdl_check.specs.Schemas.{home_of, schema}
use Rattle.psdl_standings.specs.Standings.{standings}
use Rattle.psdl_standings.specs.TextLengths.{cut}

take_next : {A : Type 0} (xs : List A) (i : ℕ) (x : A) → slice_get xs i ≡ Some x → take (suc i) xs ≡ take i xs ++ x ∷ []
take_next [] i x is = absurd (cc)
take_next (y ∷ ys) zero x is = let same : y ≡ x = cc in ap (λ z. z ∷ []) same
take_next (y ∷ ys) (suc i) x is = ap (λ l. y ∷ l) (take_next ys i x is)

pub take_step : {A : Type 0} (xs : List A) (i : ℕ) (x : A) → slice_get xs i ≡ Some x → take (i + 1) xs ≡ take i xs ++ x ∷ []
take_step xs i x is = ap (λ (n : ℕ). take n xs) (add-one i) ∙ take_next xs i x is

-- ---- lines of one home more

lines_step : (S : Schema) (homes : List Home) (i k : ℕ) (x : Home) → slice_get homes i ≡ Some x → lines_from S k (take (suc i) homes) ≡ lines_from S k (take i homes) ++ home_lines S (k + i) x
lines_step S [] i k x is = absurd (cc)
lines_step S (h ∷ hs) zero k x is =
    let same : h ≡ x = cc in
    append-nil (home_lines S k h) ∙ ap (home_lines S k) same ∙ ap (λ (n : ℕ). home_lines S n x) (omega arith)
lines_step S (h ∷ hs) (suc i) k x is =
    ap (λ (l : List ℕ). home_lines S k h ++ l) (lines_step S hs i (k + 1) x is ∙ ap (λ (n : ℕ). lines_from S (k + 1) (take i hs) ++ home_lines S n x) (omega arith))
    ∙ sym (append_assoc (home_lines S k h) (lines_from S (k + 1) (take i hs)) (home_lines S (k + suc i) x))

homes_are : (all : List Declaration) → (schema all).homes ≡ map (home_of all (standings all)) (concrete_homes all)
unfolding schema
homes_are all = refl

home_there : (all : List Declaration) (i h : ℕ) → slice_get (concrete_homes all) i ≡ Some h → slice_get (schema all).homes i ≡ Some (home_of all (standings all) h)
home_there all i h is =
    ap (λ (l : List Home). slice_get l i) (homes_are all) ∙ slice_get-map (home_of all (standings all)) (concrete_homes all) i ∙ ap (option_map (home_of all (standings all))) is

pub lines_more : (all : List Declaration) (i h : ℕ) → slice_get (concrete_homes all) i ≡ Some h → lines_before all (i + 1) ≡ lines_before all i ++ lines_at all (i + 1) h
unfolding lines_at
lines_more all i h is =
    ap (λ (n : ℕ). lines_from (schema all) 1 (take n (schema all).homes)) (add-one i)
    ∙ lines_step (schema all) (schema all).homes i 1 (home_of all (standings all) h) (home_there all i h is)
    ∙ ap (λ (n : ℕ). lines_before all i ++ home_lines (schema all) n (home_of all (standings all) h)) (omega arith)

-- ---- the first number that does

find_step : {A : Type 0} (test : A → Bool) (x : A) (xs : List A) (b : Bool) → b ≡ test x → cond b (Some x) (find test xs) ≡ None → (b ≡ false) × (find test xs ≡ None)
find_step test x xs true is none = absurd (cc)
find_step test x xs false is none = (refl, none)

none_more : (test : ℕ → Bool) (a n : ℕ) → find test (range_with_len a n) ≡ None → test (a + n) ≡ false → find test (range_with_len a (suc n)) ≡ None
none_more test a zero none last =
    let here : test a ≡ false = ap test (omega arith) ∙ last in
    ap (λ (b : Bool). cond b (Some a) None) here
none_more test a (suc n) none last =
    let both = find_step test a (range_with_len (a + 1) n) (test a) refl none in
    ap (λ (b : Bool). cond b (Some a) (find test (range_with_len (a + 1) (suc n)))) both.0
    ∙ none_more test (a + 1) n both.1 (ap test (omega arith) ∙ last)

some_here : (test : ℕ → Bool) (a n k : ℕ) → find test (range_with_len a n) ≡ None → test (a + n) ≡ true → n < k → find test (range_with_len a k) ≡ Some (a + n)
some_here test a n zero none here lt = absurd (omega (arith, lt))
some_here test a zero (suc k) none here lt =
    let at : test a ≡ true = ap test (omega arith) ∙ here in
    ap (λ (b : Bool). cond b (Some a) (find test (range_with_len (a + 1) k))) at ∙ ap (λ (m : ℕ). Some m) (omega arith)
some_here test a (suc n) (suc k) none here lt =
    let both = find_step test a (range_with_len (a + 1) n) (test a) refl none in
    ap (λ (b : Bool). cond b (Some a) (find test (range_with_len (a + 1) k))) both.0
    ∙ some_here test (a + 1) n k both.1 (ap test (omega arith) ∙ here) (omega (arith, lt))
    ∙ ap (λ (m : ℕ). Some m) (omega arith)

-- ---- the home with which the limit is passed

abbrev pub passes : List Declaration → ℕ → Bool
passes all k = nat_lt most_shape (length (lines_before all k))

cut_or_not : (n : ℕ) → nat_lt most_shape (cut n) ≡ nat_lt most_shape n
cut_or_not n = grind (arith)

pub over_is : (all : List Declaration) (i total : ℕ) (b : Bool) → total ≡ cut (length (lines_before all i)) → b ≡ nat_lt most_shape total → passes all i ≡ b
over_is all i total b is test = sym (test ∙ ap (nat_lt most_shape) is ∙ cut_or_not (length (lines_before all i)))

-- the length with one home more
pub longer : (all : List Declaration) (i h front total : ℕ) → slice_get (concrete_homes all) i ≡ Some h → front ≡ cut (length (lines_before all i)) → total ≡ cut (front + length (lines_at all (i + 1) h))
    → total ≡ cut (length (lines_before all (i + 1)))
longer all i h front total is before after =
    let whole : length (lines_before all (i + 1)) ≡ length (lines_before all i) + length (lines_at all (i + 1) h) = ap (λ (l : List ℕ). length l) (lines_more all i h is) ∙ length-append (lines_before all i) (lines_at all (i + 1) h) in
    omega (arith, before, after, whole)

pub fits_more : (all : List Declaration) (i : ℕ) → find (passes all) (range_with_len 1 i) ≡ None → passes all (i + 1) ≡ false → find (passes all) (range_with_len 1 (i + 1)) ≡ None
fits_more all i none last =
    ap (λ (n : ℕ). find (passes all) (range_with_len 1 n)) (add-one i) ∙ none_more (passes all) 1 i none (ap (passes all) (omega arith) ∙ last)

count_is : (all : List Declaration) → length (schema all).homes ≡ length (concrete_homes all)
count_is all = ap (λ (l : List Home). length l) (homes_are all) ∙ length-map (concrete_homes all) (home_of all (standings all))

pub passed_here : (all : List Declaration) (i h : ℕ) → slice_get (concrete_homes all) i ≡ Some h → i < length (concrete_homes all) → find (passes all) (range_with_len 1 i) ≡ None → passes all (i + 1) ≡ true
    → option_and_then (nth (concrete_homes all)) (passing (schema all)) ≡ Some h
passed_here all i h is lt none here =
    let count : i < length (schema all).homes = omega (arith, lt, count_is all) in
    let found : passing (schema all) ≡ Some (suc i) =
    some_here (passes all) 1 i (length (schema all).homes) none (ap (passes all) (omega arith) ∙ here) count ∙ ap (λ (m : ℕ). Some m) (omega arith) in
    ap (option_and_then (nth (concrete_homes all))) found ∙ is

pub never_passed : (all : List Declaration) (i : ℕ) → i ≡ length (concrete_homes all) → find (passes all) (range_with_len 1 i) ≡ None → option_and_then (nth (concrete_homes all)) (passing (schema all)) ≡ None
never_passed all i end none =
    ap (option_and_then (nth (concrete_homes all))) (ap (λ (n : ℕ). find (passes all) (range_with_len 1 n)) (count_is all ∙ sym end) ∙ none)

-- and that it is declared
pub home_declared : (all : List Declaration) (i h : ℕ) → slice_get (concrete_homes all) i ≡ Some h → h < length all
home_declared all i h is = homes_below all h (has_at (concrete_homes all) i h is)
