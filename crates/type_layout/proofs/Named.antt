-- Places of names, and what is found by them.
use Rattle.std.proofs.Common.{ℕ, suc, ◌+◌, ◌≡◌, ◌<◌, List, [], ◌∷◌, ◌++◌, length, map, take, find, get_or, Option, Some, None, Bool, true, false, cond, refl, sym, ap, subst, ◌∙◌, arith, take-suc, length-take-le, nat_lt, ltb-false, ltb-true, is_some, IfSome}
use Rattle.std.specs.BTreeMap.{BTreeMap}
use Rattle.std.specs.Cmp.Lexicographic.{slice_cmp}
use Rattle.std.specs.List.{position_from, slice_get}
use Rattle.std.specs.Map.{KeepsOthers}
use Rattle.std.specs.Option.{option_or, option_map, option_and_then}
use Rattle.std.specs.Ordering.{is_eq, nat_cmp, eq_by_cmp}
use Rattle.std.specs.Str.{bytes_eq}
use Rattle.std.specs.declared.vec.Vec.{Vec}
use Rattle.std.proofs.lemmas.Map.Text.{is_eq-slice_cmp}
use Rattle.std.proofs.lemmas.Slice.Eq.{bytes_eq-Decides}
use Rattle.std.proofs.lemmas.List.{map-append}
use Rattle.std.proofs.lemmas.Option.{slice_get_past, slice_get-get_or}
use Rattle.type_layout.specs.NamePlaces.{place_in, Finds, IsEntered}

same_bytes : (xs ys : List ℕ) → bytes_eq xs ys ≡ true → xs ≡ ys
same_bytes xs ys h = (bytes_eq-Decides xs ys).0 h

same_order : (xs ys : List ℕ) → is_eq (slice_cmp nat_cmp xs ys) ≡ true → xs ≡ ys
same_order xs ys h = same_bytes xs ys (sym (is_eq-slice_cmp xs ys) ∙ h)

by_test : (P : Bool → Type 0) (b : Bool) → (b ≡ true → P true) → (b ≡ false → P false) → P b
by_test P true f g = f refl
by_test P false f g = g refl

or_none : {T : Type 0} (o : Option T) → o ≡ option_or o None
or_none None = refl
or_none (Some x) = refl

none_or : {T : Type 0} (o : Option T) (x : T) → o ≡ None → Some x ≡ option_or o (Some x)
none_or None x e = refl
none_or (Some y) x e = cc

module _ {Z : Type 0} (old new : BTreeMap (Vec ℕ Z) ℕ) (name : List ℕ) (place : ℕ) where
  -- a name that had no place has one
  pub entered : place_in old name ≡ None → place_in new name ≡ Some place
      → KeepsOthers (eq_by_cmp (λ x y. slice_cmp nat_cmp x.items y.items)) (λ k. is_eq (slice_cmp nat_cmp name k.items)) old.entries new.entries → IsEntered old new name place
  unfolding KeepsOthers
  entered absent here others q =
      by_test (λ b. bytes_eq q name ≡ b → place_in new q ≡ option_or (place_in old q) (cond b (Some place) None)) (bytes_eq q name)
      (λ e same. ap (λ (l : List ℕ). place_in new l) (same_bytes q name same) ∙ here ∙ none_or (place_in old q) place (ap (λ (l : List ℕ). place_in old l) (same_bytes q name same) ∙ absent))
      (λ e apart. others (λ k. is_eq (slice_cmp nat_cmp q k.items)) (λ x y at. ap (λ (l : List ℕ). is_eq (slice_cmp nat_cmp l y.items)) (same_order q x.items at))
      (λ k at. is_eq-slice_cmp q k.items ∙ ap (bytes_eq q) (sym (same_order name k.items at)) ∙ apart) ∙ or_none (place_in old q))
      refl

-- ---- one name more

at_head : {X : Type 0} (test : X → Bool) (i n : ℕ) (ys : List X) (x : X) (b : Bool) → position_from test (i + 1) (ys ++ x ∷ []) ≡ option_or (position_from test (i + 1) ys) (cond (test x) (Some n) None)
    → cond b (Some i) (position_from test (i + 1) (ys ++ x ∷ [])) ≡ option_or (cond b (Some i) (position_from test (i + 1) ys)) (cond (test x) (Some n) None)
at_head test i n ys x true h = refl
at_head test i n ys x false h = h

position-push : {X : Type 0} (test : X → Bool) (i n : ℕ) (xs : List X) (x : X) → n ≡ i + length xs → position_from test i (xs ++ x ∷ []) ≡ option_or (position_from test i xs) (cond (test x) (Some n) None)
position-push test i n [] x e =
    let same : n ≡ i = omega arith in
    rw same refl
position-push test i n (y ∷ ys) x e = at_head test i n ys x (test y) (position-push test (i + 1) n ys x (omega arith))

pub taken_one_more : {X : Type 0} (xs : List X) (i : ℕ) (x : X) → i < length xs → get_or xs i x ≡ x → take (i + 1) xs ≡ take i xs ++ x ∷ []
taken_one_more xs i x within there = ap (λ k. take k xs) (plus i) ∙ take-suc xs i x within ∙ ap (λ y. take i xs ++ y ∷ []) there
  where
    plus : (n : ℕ) → n + 1 ≡ suc n
    plus n = omega arith

map-length : {X Y : Type 0} (f : X → Y) (xs : List X) → length (map f xs) ≡ length xs
map-length f [] = refl
map-length f (x ∷ xs) = ap suc (map-length f xs)

-- where one more stands is where one stood, or there
pub one_further : {X Y : Type 0} (made : X → Y) (test : Y → Bool) (xs : List X) (i : ℕ) (x : X) → i < length xs → get_or xs i x ≡ x
    → option_or (position_from test 0 (map made (take i xs))) (cond (test (made x)) (Some i) None) ≡ position_from test 0 (map made (take (i + 1) xs))
one_further made test xs i x within there =
    let front = map made (take i xs) in
    let len : length front ≡ i = map-length made (take i xs) ∙ length-take-le i xs (omega (arith, within)) in
    let here : i ≡ 0 + length front = omega (arith, len) in
    sym (ap (λ l. position_from test 0 (map made l)) (taken_one_more xs i x within there) ∙ ap (position_from test 0) (map-append made (take i xs) (x ∷ [])) ∙ position-push test 0 i front (made x) here)

module _ {X Z : Type 0} (name : X → List ℕ) (old new : BTreeMap (Vec ℕ Z) ℕ) (xs : List X) (i : ℕ) (x : X) where
  -- one more name was entered
  pub one_more : i < length xs → get_or xs i x ≡ x → Finds old (map name (take i xs)) → IsEntered old new (name x) i → Finds new (map name (take (i + 1) xs))
  one_more within there finds is q =
      is q ∙ ap (λ o. option_or o (cond (bytes_eq q (name x)) (Some i) None)) (finds q) ∙ one_further name (bytes_eq q) xs i x within there

-- ---- what stands at a place

later : {X : Type 0} (test : X → Bool) (i : ℕ) (xs : List X) → position_from test (i + 1) xs ≡ option_map suc (position_from test i xs)
later test i [] = refl
later test i (x ∷ xs) = by (test x) (later test (i + 1) xs)
  where
    by : (b : Bool) → position_from test (i + 1 + 1) xs ≡ option_map suc (position_from test (i + 1) xs)
        → cond b (Some (i + 1)) (position_from test (i + 1 + 1) xs) ≡ option_map suc (cond b (Some i) (position_from test (i + 1) xs))
    by true h = ap (λ n. Some n) (omega arith)
    by false h = h

behind : {X : Type 0} (x : X) (xs : List X) (o : Option ℕ) → option_and_then (slice_get (x ∷ xs)) (option_map suc o) ≡ option_and_then (slice_get xs) o
behind x xs None = refl
behind x xs (Some n) = refl

module _ {X Y : Type 0} (test : Y → Bool) (name : X → Y) where
  -- what is found by a name stands at its first place
  pub found_at : (xs : List X) → option_and_then (slice_get xs) (position_from test 0 (map name xs)) ≡ find (λ x. test (name x)) xs
  found_at [] = refl
  found_at (x ∷ xs) = by (test (name x)) (found_at xs)
    where
      by : (b : Bool) → option_and_then (slice_get xs) (position_from test 0 (map name xs)) ≡ find (λ y. test (name y)) xs
          → option_and_then (slice_get (x ∷ xs)) (cond b (Some 0) (position_from test 1 (map name xs))) ≡ cond b (Some x) (find (λ y. test (name y)) xs)
      by true h = refl
      by false h = ap (option_and_then (slice_get (x ∷ xs))) (later test 0 (map name xs)) ∙ behind x xs (position_from test 0 (map name xs)) ∙ h

map-self : {X : Type 0} (xs : List X) → map (λ x. x) xs ≡ xs
map-self [] = refl
map-self (x ∷ xs) = ap (λ l. x ∷ l) (map-self xs)

-- the same of names themselves
pub one_more_name : {Z : Type 0} (old new : BTreeMap (Vec ℕ Z) ℕ) (names : List (List ℕ)) (i : ℕ) (name : List ℕ) → i < length names → get_or names i name ≡ name
    → Finds old (take i names) → IsEntered old new name i → Finds new (take (i + 1) names)
one_more_name {Z} old new names i name within there finds is =
    subst (λ (l : List (List ℕ)). Finds new l) (map-self (take (i + 1) names))
    (one_more (λ (l : List ℕ). l) old new names i name within there (subst (λ (l : List (List ℕ)). Finds old l) (sym (map-self (take i names))) finds) is)

-- what a look-up gives
pub looked : {A B : Type 0} (f : A → B) (xs : List B) (i : ℕ) (o : Option A) → is_some o ≡ nat_lt i (length xs) → IfSome o (λ a. f a ≡ get_or xs i (f a)) → option_map f o ≡ slice_get xs i
looked f xs i None has is = sym (slice_get_past xs i (ltb-false i (length xs) (sym has)))
looked f xs i (Some a) has is = sym (slice_get-get_or xs i (f a) (ltb-true i (length xs) (sym has)) ∙ ap Some (sym is))
