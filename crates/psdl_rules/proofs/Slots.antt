-- Where a number stands among those of a range that pass a test.
use Rattle.std.proofs.Common.{◌≡◌, ℕ, zero, suc, ◌+◌, ◌<◌, List, [], ◌∷◌, Bool, true, false, cond, ◌==◌, ◌&&◌, length, filter, Option, Some, None, refl, sym, ap, ◌∙◌, arith}
use Rattle.std.specs.List.{position_from, range_with_len, slice_get}
use Rattle.std.proofs.lemmas.Bool.{eqb-true, eq-eqb}
use Rattle.type_layout.specs.Schemas.{given}
use Rattle.psdl_directory.specs.Declarations.{Declaration}
use Rattle.psdl_directory.specs.Parts.{is_concrete_home}
use Rattle.psdl_directory.specs.Lookup.{at}
use Rattle.psdl_lineage.specs.Descent.{concrete_homes}
use Rattle.psdl_rules.specs.Faults.Limit.{home_number, most_homes}

differ : (a n : ℕ) → a < n → (a == n) ≡ false
differ a n lt = grind arith

differ_back : (a n : ℕ) → n < a → (a == n) ≡ false
differ_back a n lt = grind arith

abbrev place : ℕ → ℕ → List ℕ → Option ℕ
place n i xs = position_from (λ m. m == n) i xs

-- ---- none is lower than the first

lower_step : (rest : List ℕ) (a i n : ℕ) → n < a → ((j : ℕ) → place n j rest ≡ None) → (b : Bool) → place n i (cond b (a ∷ rest) rest) ≡ None
lower_step rest a i n lt none true = ap (λ v. cond v (Some i) (place n (i + 1) rest)) (differ_back a n lt) ∙ none (i + 1)
lower_step rest a i n lt none false = none i

none_under : (test : ℕ → Bool) (k a i n : ℕ) → n < a → place n i (filter test (range_with_len a k)) ≡ None
none_under test zero a i n lt = refl
none_under test (suc k) a i n lt = lower_step (filter test (range_with_len (a + 1) k)) a i n lt (λ j. none_under test k (a + 1) j n (omega (arith, lt))) (test a)

-- ---- what stands at a place

abbrev is_place : ℕ → Option ℕ → Bool
is_place p o = given o false (λ q. q == p)

early : (xs : List ℕ) (n j p : ℕ) → p < j → is_place p (place n j xs) ≡ false
early [] n j p lt = refl
early (x ∷ xs) n j p lt = by (x == n) (early xs n (j + 1) p (omega (arith, lt)))
  where
    by : (b : Bool) → is_place p (place n (j + 1) xs) ≡ false → is_place p (cond b (Some j) (place n (j + 1) xs)) ≡ false
    by true rest = differ_back j p lt
    by false rest = rest

-- the first one
at_first : (rest : List ℕ) (x i n : ℕ) (b : Bool) → is_place (i + 0) (cond b (Some i) (place n (i + 1) rest)) ≡ b
at_first rest x i n true = eq-eqb i (i + 0) (omega arith)
at_first rest x i n false = early rest n (i + 1) (i + 0) (omega arith)

-- a later one
at_later : (rest : List ℕ) (x i n p : ℕ) → ((j : ℕ) → is_place (j + p) (place n j rest) ≡ given (slice_get rest p) false (λ h. h == n)) → (x ≡ n → (j : ℕ) → place n j rest ≡ None)
    → (b : Bool) → (x == n) ≡ b → is_place (i + suc p) (cond b (Some i) (place n (i + 1) rest)) ≡ given (slice_get rest p) false (λ h. h == n)
at_later rest x i n p so_far none true e =
    differ i (i + suc p) (omega arith) ∙ ap (λ (o : Option ℕ). is_place (0 + p) o) (sym (none (eqb-true x n e) 0)) ∙ so_far 0
at_later rest x i n p so_far none false e =
    let moved : i + suc p ≡ i + 1 + p = omega arith in
    ap (λ q. is_place q (place n (i + 1) rest)) moved ∙ so_far (i + 1)

slot_step : (rest : List ℕ) (a i n p : ℕ) → ((j q : ℕ) → is_place (j + q) (place n j rest) ≡ given (slice_get rest q) false (λ h. h == n)) → (a ≡ n → (j : ℕ) → place n j rest ≡ None)
    → (b : Bool) → is_place (i + p) (place n i (cond b (a ∷ rest) rest)) ≡ given (slice_get (cond b (a ∷ rest) rest) p) false (λ h. h == n)
slot_step rest a i n zero so_far none true = at_first rest a i n (a == n)
slot_step rest a i n (suc p) so_far none true = at_later rest a i n p (λ j. so_far j p) none (a == n) refl
slot_step rest a i n p so_far none false = so_far i p

slot_is : (test : ℕ → Bool) (k a i n p : ℕ) → is_place (i + p) (place n i (filter test (range_with_len a k))) ≡ given (slice_get (filter test (range_with_len a k)) p) false (λ h. h == n)
slot_is test zero a i n p = refl
slot_is test (suc k) a i n p =
    slot_step (filter test (range_with_len (a + 1) k)) a i n p (λ j q. slot_is test k (a + 1) j n q) (λ e j. none_under test k (a + 1) j n (omega (arith, e))) (test a)

of_number : (o : Option ℕ) (k : ℕ) → (given o 0 (λ p. p) == k + 1) ≡ is_place (1 + k) o
of_number None k = differ 0 (k + 1) (omega arith)
of_number (Some p) k = let e : k + 1 ≡ 1 + k = omega arith in ap (λ m. p == m) e

-- a home has the number of the place where it stands
pub numbered_at : (ds : List Declaration) (n k : ℕ) → (home_number ds n == k + 1) ≡ given (slice_get (concrete_homes ds) k) false (λ h. h == n)
unfolding concrete_homes
numbered_at ds n k =
    of_number (place n 1 (concrete_homes ds)) k ∙ slot_is (λ m. is_concrete_home (at ds m).what) (length ds) 0 1 n k

-- ---- whether the limit is passed

pub passes : (all : List Declaration) (homes : List ℕ) (n : ℕ) (b : Bool) → homes ≡ concrete_homes all → is_concrete_home (at all n).what ≡ true
    → b ≡ given (slice_get homes most_homes) false (λ h. h == n) → b ≡ (is_concrete_home (at all n).what && home_number all n == most_homes + 1)
passes all homes n b e h is =
    is ∙ ap (λ l. given (slice_get l most_homes) false (λ m. m == n)) e ∙ sym (numbered_at all n most_homes)
    ∙ sym (ap (λ v. v && home_number all n == most_homes + 1) h)

pub never : (all : List Declaration) (n : ℕ) → is_concrete_home (at all n).what ≡ false → false ≡ (is_concrete_home (at all n).what && home_number all n == most_homes + 1)
never all n h = sym (ap (λ v. v && home_number all n == most_homes + 1) h)
