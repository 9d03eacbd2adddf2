-- What is found in a list, and in one with one more at its end.
use Rattle.std.proofs.Common.{ℕ, suc, not, ◌+◌, ◌≡◌, ◌<◌, ◌≤◌, List, [], ◌∷◌, ◌++◌, length, map, take, find, position, get_or, Option, Some, None, Bool, true, false, cond, eqb, nat_lt, refl, sym, ap, subst, ◌∙◌, arith, length-append, take-suc}
use Rattle.std.specs.Option.{option_or, option_map}
use Rattle.std.specs.List.{position_or_len}
use Rattle.std.proofs.lemmas.List.Folds.{find-append, position_or_len_push}
use Rattle.std.specs.declared.vec.Vec.{Vec}
use Rattle.std.specs.Str.{bytes_eq}
use Rattle.schema_names.specs.Tables.{IsEntered, Finds}

module _ {X : Type 0} (p : X → Bool) where
  at_most : (xs : List X) → position_or_len p xs ≤ length xs
  at_most [] = omega arith
  at_most (x ∷ xs) = by_test (p x) (at_most xs)
    where
      by_test : (b : Bool) → position_or_len p xs ≤ length xs → (let n : ℕ = cond (not b) (1 + position_or_len p xs) 0 in n) ≤ suc (length xs)
      by_test true le = omega arith
      by_test false le = omega (arith, le)

  pub position-push : (xs : List X) (y : X) → position p (xs ++ y ∷ []) ≡ option_or (position p xs) (cond (p y) (Some (length xs)) None)
  position-push xs y = by_place (position_or_len p xs) (length xs) (p y) (position_or_len p (xs ++ y ∷ [])) (length (xs ++ y ∷ [])) (at_most xs) (position_or_len_push p xs y) (length-append xs (y ∷ []))
    where
      by_place : (n l : ℕ) (b : Bool) (m k : ℕ) → n ≤ l → m ≡ cond (eqb n l) (l + cond b 0 1) n → k ≡ l + 1
          → (let o : Option ℕ = cond (nat_lt m k) (Some m) None in o) ≡ option_or (cond (nat_lt n l) (Some n) None) (cond b (Some l) None)
      by_place n l true m k le is end = grind arith
      by_place n l false m k le is end = grind arith

  pub find-push : (xs : List X) (y : X) → find p (xs ++ y ∷ []) ≡ option_or (find p xs) (cond (p y) (Some y) None)
  find-push xs y = find-append p xs (y ∷ [])

pub taken_one_more : {X : Type 0} (xs : List X) (i : ℕ) (x : X) → i < length xs → get_or xs i x ≡ x → take (i + 1) xs ≡ take i xs ++ x ∷ []
taken_one_more xs i x within there = ap (λ k. take k xs) (plus i) ∙ take-suc xs i x within ∙ ap (λ y. take i xs ++ y ∷ []) there
  where
    plus : (n : ℕ) → n + 1 ≡ suc n
    plus n = omega arith

module _ {Z T X : Type 0} (name : X → List ℕ) (found : List X → List ℕ → Option T) where
  -- one more thing was entered
  pub one_more : (old new : List (Vec ℕ Z × T)) (xs : List X) (x : X) (value : T)
      → ((q : List ℕ) → found (xs ++ x ∷ []) q ≡ option_or (found xs q) (cond (bytes_eq q (name x)) (Some value) None))
      → Finds old (found xs) → IsEntered old new (name x) value → Finds new (found (xs ++ x ∷ []))
  one_more old new xs x value grows old_finds entered q = entered q ∙ ap (λ o. option_or o (cond (bytes_eq q (name x)) (Some value) None)) (old_finds q) ∙ sym (grows q)

  pub next : (old new : List (Vec ℕ Z × T)) (xs : List X) (i : ℕ) (x : X) (word : List ℕ) (value : T) → i < length xs → get_or xs i x ≡ x → word ≡ name x
      → ((q : List ℕ) → found (take i xs ++ x ∷ []) q ≡ option_or (found (take i xs) q) (cond (bytes_eq q (name x)) (Some value) None))
      → Finds old (found (take i xs)) → IsEntered old new word value → Finds new (found (take (i + 1) xs))
  next old new xs i x word value within there is grows old_finds entered q =
      one_more old new (take i xs) x value grows old_finds (subst (λ (l : List ℕ). IsEntered old new l value) is entered) q ∙ ap (λ l. found l q) (sym (taken_one_more xs i x within there))

-- what is made of a place, with one more at the end
pub made : {T : Type 0} (f : ℕ → T) (o : Option ℕ) (b : Bool) (l : ℕ) → option_map f (option_or o (cond b (Some l) None)) ≡ option_or (option_map f o) (cond b (Some (f l)) None)
made f None true l = refl
made f None false l = refl
made f (Some n) b l = refl

pub made_of : {X T : Type 0} (f : X → T) (o : Option X) (b : Bool) (x : X) → option_map f (option_or o (cond b (Some x) None)) ≡ option_or (option_map f o) (cond b (Some (f x)) None)
made_of f None true x = refl
made_of f None false x = refl
made_of f (Some y) b x = refl

pub map-push : {X Y : Type 0} (f : X → Y) (xs : List X) (x : X) → map f (xs ++ x ∷ []) ≡ map f xs ++ f x ∷ []
map-push f [] x = refl
map-push f (y ∷ xs) x = ap (λ l. f y ∷ l) (map-push f xs x)

pub map-length : {X Y : Type 0} (f : X → Y) (xs : List X) → length (map f xs) ≡ length xs
map-length f [] = refl
map-length f (x ∷ xs) = ap suc (map-length f xs)
