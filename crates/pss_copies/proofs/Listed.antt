-- Lists: what holds of each thing, and what is counted part by part.
use Rattle.std.proofs.Common.{arith, ◌≡◌, ℕ, ◌+◌, ◌==◌, ◌&&◌, Bool, true, false, cond, List, [], ◌∷◌, ◌++◌, map, length, Some, None, refl, sym, ap, ◌∙◌, length-append}
use Rattle.std.specs.Prelude.{◌||◌, filter, nat_lt}
use Rattle.std.specs.List.{list_any, flat_map, sum}
use Rattle.std.proofs.lemmas.List.Sums.{sum_by-cons}
use Rattle.std.proofs.Math.Dec.{T}
use Rattle.std.proofs.lemmas.Bool.{lt-ltb, eqb-true}
use Rattle.std.specs.declared.cmp.Ordering.{Ordering}
use Rattle.std.specs.declared.cmp.Ordering.TheVariants.{Less, Equal, Greater}
use Rattle.std.specs.Ordering.{nat_cmp, eq_by_cmp, is_eq, is_lt}
use Rattle.std.specs.FinMap as finite
use Rattle.std.specs.FinMap.{FinMap, get, entries, entries_sorted, is_sorted, get-entries}
use Rattle.std.specs.FinMap.Entries.{below_all}
use Rattle.pss_machine.proofs.Found.{below_missed}
use Rattle.pss_machine.proofs.Maps.{tie}
use Rattle.pss_machine.proofs.Logic.{none_some, true_false}
use Rattle.recent_table.proofs.Maps.{IsKey, tie_self, tied, weight}

-- the sum of a list begins with its first number
sum_cons : (n : ℕ) (ns : List ℕ) → sum (n ∷ ns) ≡ n + sum ns
sum_cons n ns = sum_by-cons (λ m. m) n ns

-- ---- each thing

-- a fact of each thing of a list
abbrev pub EachOf : {A : Type 0} → (A → Type 0) → List A → Type 0
EachOf P [] = Unit {0}
EachOf P (x ∷ xs) = P x × EachOf P xs

pub map_each : {A B : Type 0} (f g : A → B) (xs : List A) → EachOf (λ x. f x ≡ g x) xs → map f xs ≡ map g xs
map_each f g [] each = refl
map_each f g (x ∷ xs) each = λ i. each.0 i ∷ map_each f g xs each.1 i

pub flat_each : {A B : Type 0} (f g : A → List B) (xs : List A) → EachOf (λ x. f x ≡ g x) xs → flat_map f xs ≡ flat_map g xs
flat_each f g [] each = refl
flat_each f g (x ∷ xs) each = λ i. each.0 i ++ flat_each f g xs each.1 i

-- ---- of a map

split : (a b : Bool) → T (a && b) → T a × T b
split true b h = (tt, h)
split false b h = absurd h

module _ {K X : Type 0} {R : K → K → Ordering} (key : IsKey R) where
  below_none : (k : K) (es : List (K × X)) → T (below_all R k es) → finite.find R k es ≡ None
  below_none k [] h = refl
  below_none k (e ∷ es) h = let s = split (is_lt (R k e.0)) (below_all R k es) h in by (R k e.0) s.0 (below_none k es s.1)
    where
      by : (o : Ordering) → T (is_lt o) → finite.find R k es ≡ None → cond (is_eq o) (Some e.1) (finite.find R k es) ≡ None
      by Less lt rest = rest
      by Equal lt rest = absurd lt
      by Greater lt rest = rest

  each_sorted : (P : K × X → Type 0) (es : List (K × X)) → T (is_sorted R es) → ((k : K) (x : X) → finite.find R k es ≡ Some x → P (k, x)) → EachOf P es
  each_sorted P [] sorted h = tt
  each_sorted P (e ∷ es) sorted h =
      let s = split (below_all R e.0 es) (is_sorted R es) sorted in
      (h e.0 e.1 (ap (λ b. cond b (Some e.1) (finite.find R e.0 es)) (tie_self key e.0)), each_sorted P es s.1 (λ k x found. h k x (behind s.0 k x found (eq_by_cmp R k e.0) refl)))
    where
      behind : T (below_all R e.0 es) → (k : K) (x : X) → finite.find R k es ≡ Some x → (b : Bool) → eq_by_cmp R k e.0 ≡ b → cond b (Some e.1) (finite.find R k es) ≡ Some x
      behind below k x found true is = absurd (none_some (sym (below_none e.0 es below) ∙ ap (λ q. finite.find R q es) (sym (tied key k e.0 is)) ∙ found))
      behind below k x found false is = found

  -- what holds of whatever is found holds of each entry
  pub each_entry : (P : K × X → Type 0) (m : FinMap R X) → ((k : K) (x : X) → get m k ≡ Some x → P (k, x)) → EachOf P (entries m)
  each_entry P m h = each_sorted P (entries m) (entries_sorted m) (λ k x found. h k x (get-entries m k ∙ found))

-- ---- filters and tests

pub filter_one : {A : Type 0} (t : A → Bool) (x : A) (xs : List A) → length (filter t (x ∷ xs)) ≡ length (filter t xs) + weight (t x)
filter_one t x xs = by (t x)
  where
    by : (b : Bool) → length (cond b (x ∷ filter t xs) (filter t xs)) ≡ length (filter t xs) + weight b
    by true = omega arith
    by false = omega arith

pub filter_twice : {A : Type 0} (f g : A → Bool) (xs : List A) → filter f (filter g xs) ≡ filter (λ x. g x && f x) xs
filter_twice f g [] = refl
filter_twice f g (x ∷ xs) = by (g x) (filter_twice f g xs)
  where
    by : (b : Bool) → filter f (filter g xs) ≡ filter (λ x. g x && f x) xs → filter f (cond b (x ∷ filter g xs) (filter g xs)) ≡ cond (b && f x) (x ∷ filter (λ x. g x && f x) xs) (filter (λ x. g x && f x) xs)
    by true rest = ap (λ l. cond (f x) (x ∷ l) l) rest
    by false rest = rest

pub filter_all : {A : Type 0} (xs : List A) → filter (λ x. true) xs ≡ xs
filter_all [] = refl
filter_all (x ∷ xs) = ap (λ l. x ∷ l) (filter_all xs)

pub any_filter : {A : Type 0} (f t : A → Bool) (xs : List A) → list_any f (filter t xs) ≡ list_any (λ x. t x && f x) xs
any_filter f t [] = refl
any_filter f t (x ∷ xs) = by (t x) (any_filter f t xs)
  where
    by : (b : Bool) → list_any f (filter t xs) ≡ list_any (λ x. t x && f x) xs → list_any f (cond b (x ∷ filter t xs) (filter t xs)) ≡ ((b && f x) || list_any (λ x. t x && f x) xs)
    by true rest = ap (λ b. f x || b) rest
    by false rest = rest

pub any_map : {A B : Type 0} (f : B → Bool) (g : A → B) (xs : List A) → list_any f (map g xs) ≡ list_any (λ x. f (g x)) xs
any_map f g [] = refl
any_map f g (x ∷ xs) = ap (λ b. f (g x) || b) (any_map f g xs)

any_append : {A : Type 0} (f : A → Bool) (xs ys : List A) → list_any f (xs ++ ys) ≡ (list_any f xs || list_any f ys)
any_append f [] ys = refl
any_append f (x ∷ xs) ys = ap (λ b. f x || b) (any_append f xs ys) ∙ by (f x)
  where
    by : (b : Bool) → (b || (list_any f xs || list_any f ys)) ≡ ((b || list_any f xs) || list_any f ys)
    by true = refl
    by false = refl

pub any_flat : {A B : Type 0} (f : B → Bool) (g : A → List B) (xs : List A) → list_any f (flat_map g xs) ≡ list_any (λ x. list_any f (g x)) xs
any_flat f g [] = refl
any_flat f g (x ∷ xs) = any_append f (g x) (flat_map g xs) ∙ ap (λ b. list_any f (g x) || b) (any_flat f g xs)

pub flat_length : {A B : Type 0} (g : A → List B) (xs : List A) → length (flat_map g xs) ≡ sum (map (λ x. length (g x)) xs)
flat_length g [] = refl
flat_length g (x ∷ xs) = length-append (g x) (flat_map g xs) ∙ ap (λ n. length (g x) + n) (flat_length g xs) ∙ sym (sum_cons (length (g x)) (map (λ x. length (g x)) xs))

-- a thing passes where some do
pub any_counted : {A : Type 0} (t : A → Bool) (xs : List A) → list_any t xs ≡ nat_lt 0 (length (filter t xs))
any_counted t [] = refl
any_counted t (x ∷ xs) = by (t x) (any_counted t xs)
  where
    by : (b : Bool) → list_any t xs ≡ nat_lt 0 (length (filter t xs)) → (b || list_any t xs) ≡ nat_lt 0 (length (cond b (x ∷ filter t xs) (filter t xs)))
    by true rest = sym (lt-ltb 0 (length (x ∷ filter t xs)) (omega arith))
    by false rest = rest

-- ---- parts

sum_add : {A : Type 0} (f g h : A → ℕ) → ((a : A) → f a ≡ g a + h a) → (parts : List A) → sum (map f parts) ≡ sum (map g parts) + sum (map h parts)
sum_add f g h each [] = refl
sum_add f g h each (a ∷ parts) = omega (arith, sum_cons (f a) (map f parts), sum_cons (g a) (map g parts), sum_cons (h a) (map h parts), each a, sum_add f g h each parts)

sum_none : {A : Type 0} (parts : List A) → sum (map (λ a. 0) parts) ≡ 0
sum_none [] = refl
sum_none (a ∷ parts) = sum_cons 0 (map (λ a. 0) parts) ∙ ap (λ n. 0 + n) (sum_none parts)

any_none : {A : Type 0} (parts : List A) → list_any (λ a. false) parts ≡ false
any_none [] = refl
any_none (a ∷ parts) = any_none parts

and_true : (b : Bool) → (b && true) ≡ b
and_true true = refl
and_true false = refl

and_false : (b : Bool) → (b && false) ≡ false
and_false true = refl
and_false false = refl

any_both : {A : Type 0} (f : A → Bool) (b : Bool) (parts : List A) → list_any (λ a. f a && b) parts ≡ (list_any f parts && b)
any_both f true parts = (λ i. list_any (λ a. and_true (f a) i) parts) ∙ sym (and_true (list_any f parts))
any_both f false parts = (λ i. list_any (λ a. and_false (f a) i) parts) ∙ any_none parts ∙ sym (and_false (list_any f parts))

any_either : {A : Type 0} (f g : A → Bool) (parts : List A) → list_any (λ a. f a || g a) parts ≡ (list_any f parts || list_any g parts)
any_either f g [] = refl
any_either f g (a ∷ parts) = ap (λ b. (f a || g a) || b) (any_either f g parts) ∙ by (f a) (g a) (list_any f parts) (list_any g parts)
  where
    by : (a b c d : Bool) → ((a || b) || (c || d)) ≡ ((a || c) || (b || d))
    by true b c d = refl
    by false true true d = refl
    by false true false d = refl
    by false false c d = refl

module _ {A X : Type 0} (is : A → X → Bool) where
  -- in how many parts a thing is
  abbrev pub parts_with : X → List A → ℕ
  parts_with x parts = sum (map (λ a. weight (is a x)) parts)

  one_part : (x : X) (parts : List A) (b : Bool) → parts_with x parts ≡ 1 → sum (map (λ a. weight (is a x && b)) parts) ≡ weight b
  one_part x parts true one = (λ i. sum (map (λ a. weight (and_true (is a x) i)) parts)) ∙ one
  one_part x parts false one = (λ i. sum (map (λ a. weight (and_false (is a x) i)) parts)) ∙ sum_none parts

  -- where each thing is in one part, those that pass are counted part by part
  pub part_sum : (t : X → Bool) (parts : List A) (xs : List X) → EachOf (λ x. parts_with x parts ≡ 1) xs → sum (map (λ a. length (filter (λ x. is a x && t x) xs)) parts) ≡ length (filter t xs)
  part_sum t parts [] each = sum_none parts
  part_sum t parts (x ∷ xs) each =
      sum_add (λ a. length (filter (λ x. is a x && t x) (x ∷ xs))) (λ a. length (filter (λ x. is a x && t x) xs)) (λ a. weight (is a x && t x)) (λ a. filter_one (λ x. is a x && t x) x xs) parts
      ∙ (λ i. part_sum t parts xs each.1 i + one_part x parts (t x) each.0 i)
      ∙ sym (filter_one t x xs)

  in_none : (x : X) (parts : List A) → list_any (λ a. is a x) parts ≡ false → parts_with x parts ≡ 0
  in_none x [] none = refl
  in_none x (a ∷ parts) none = sum_cons (weight (is a x)) (map (λ a. weight (is a x)) parts) ∙ by (is a x) none (in_none x parts)
    where
      by : (b : Bool) → (b || list_any (λ a. is a x) parts) ≡ false → (list_any (λ a. is a x) parts ≡ false → parts_with x parts ≡ 0) → weight b + parts_with x parts ≡ 0
      by true none rest = absurd (true_false refl none)
      by false none rest = omega (arith, rest none)

  in_some : (x : X) (parts : List A) → parts_with x parts ≡ 1 → list_any (λ a. is a x) parts ≡ true
  in_some x parts one = by (list_any (λ a. is a x) parts) refl
    where
      by : (b : Bool) → list_any (λ a. is a x) parts ≡ b → b ≡ true
      by true some = refl
      by false some = absurd (omega (arith, in_none x parts some, one))

  -- and one passes where one of a part does
  pub part_any : (t : X → Bool) (parts : List A) (xs : List X) → EachOf (λ x. parts_with x parts ≡ 1) xs → list_any (λ a. list_any (λ x. is a x && t x) xs) parts ≡ list_any t xs
  part_any t parts [] each = any_none parts
  part_any t parts (x ∷ xs) each =
      any_either (λ a. is a x && t x) (λ a. list_any (λ x. is a x && t x) xs) parts
      ∙ (λ i. (any_both (λ a. is a x) (t x) parts ∙ ap (λ b. b && t x) (in_some x parts each.0)) i || part_any t parts xs each.1 i)

-- ---- keys

missed : {A : Type 0} (n : ℕ) (es : List (ℕ × A)) → finite.find nat_cmp n es ≡ None → sum (map (λ q. weight (n == q.0)) es) ≡ 0
missed n [] none = refl
missed n (e ∷ es) none = sum_cons (weight (n == e.0)) (map (λ q. weight (n == q.0)) es) ∙ by (n == e.0) (ap (λ b. cond b (Some e.1) (finite.find nat_cmp n es)) (sym (tie n e.0)) ∙ none) (missed n es)
  where
    by : (b : Bool) → cond b (Some e.1) (finite.find nat_cmp n es) ≡ None → (finite.find nat_cmp n es ≡ None → sum (map (λ q. weight (n == q.0)) es) ≡ 0) → weight b + sum (map (λ q. weight (n == q.0)) es) ≡ 0
    by true none rest = absurd (none_some (sym none))
    by false none rest = omega (arith, rest none)

hit : {A : Type 0} (n : ℕ) (es : List (ℕ × A)) → T (is_sorted nat_cmp es) → (x : A) → finite.find nat_cmp n es ≡ Some x → sum (map (λ q. weight (n == q.0)) es) ≡ 1
hit n [] sorted x found = absurd (none_some found)
hit n (e ∷ es) sorted x found = let s = split (below_all nat_cmp e.0 es) (is_sorted nat_cmp es) sorted in sum_cons (weight (n == e.0)) (map (λ q. weight (n == q.0)) es) ∙ by (n == e.0) refl (ap (λ b. cond b (Some e.1) (finite.find nat_cmp n es)) (sym (tie n e.0)) ∙ found) s.0 (hit n es s.1 x)
  where
    by : (b : Bool) → (n == e.0) ≡ b → cond b (Some e.1) (finite.find nat_cmp n es) ≡ Some x → T (below_all nat_cmp e.0 es) → (finite.find nat_cmp n es ≡ Some x → sum (map (λ q. weight (n == q.0)) es) ≡ 1) → weight b + sum (map (λ q. weight (n == q.0)) es) ≡ 1
    by true is found below rest = omega (arith, missed n es (below_missed e.0 n es (eqb-true n e.0 is) below))
    by false is found below rest = omega (arith, rest found)

-- a key of a map is that of one entry
pub one_key : {A : Type 0} (m : FinMap nat_cmp A) (n : ℕ) (x : A) → get m n ≡ Some x → sum (map (λ q. weight (n == q.0)) (entries m)) ≡ 1
one_key m n x there = hit n (entries m) (entries_sorted m) x (sym (get-entries m n) ∙ there)
