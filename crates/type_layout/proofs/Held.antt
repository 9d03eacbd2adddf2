-- The factories that a home holds.
use Rattle.std.proofs.Common.{ℕ, ◌≡◌, List, [], ◌∷◌, map, find, Option, Some, None, Bool, true, false, cond, refl, sym, ap, ◌∙◌, ◌||◌, if◌then◌else◌}
use Rattle.std.specs.List.{list_any}
use Rattle.std.specs.Option.{option_map}
use Rattle.std.specs.Str.{bytes_eq}
use Rattle.std.specs.Cmp.Lexicographic.{pointwise}
use Rattle.std.proofs.lemmas.Bool.{and_parts}
use Rattle.std.proofs.lemmas.Slice.Eq.{bytes_eq-Decides}
use Rattle.type_layout.specs.declared.factories.DeclaredFactory.{DeclaredFactory}
use Rattle.type_layout.specs.declared.schema.Factory.{Factory}
use Rattle.type_layout.specs.Factories.{same_declared, first_of_each, numbers_among, numbered, factories_held}

find-map : {X Y : Type 0} (test : Y → Bool) (f : X → Y) (xs : List X) → find test (map f xs) ≡ option_map f (find (λ x. test (f x)) xs)
find-map test f [] = refl
find-map {X} {Y} test f (x ∷ xs) = by (test (f x)) (find-map test f xs)
  where
    by : (b : Bool) → find test (map f xs) ≡ option_map f (find (λ y. test (f y)) xs) → cond b (Some (f x)) (find test (map f xs)) ≡ option_map f (cond b (Some x) (find (λ y. test (f y)) xs))
    by true h = refl
    by false h = h

-- no known one is the one that is sought
abbrev NoneKnown : {X : Type 0} → (X → X → Bool) → (X → Bool) → List X → Type 0
NoneKnown same test known = (x : _) → list_any (same x) known ≡ true → test x ≡ false

module _ {X : Type 0} (same : X → X → Bool) (test : X → Bool) (alike : (x y : X) → same x y ≡ true → test x ≡ test y) where
  one_more_known : (x : X) (known : List X) → test x ≡ false → NoneKnown same test known → NoneKnown same test (x ∷ known)
  one_more_known x known off none y h = by (same y x) refl h
    where
      by : (b : Bool) → same y x ≡ b → b || list_any (same y) known ≡ true → test y ≡ false
      by true e h = alike y x e ∙ off
      by false e h = none y h

  -- the first that is sought is the first of its kind
  pub first_is_first : (known xs : List X) → NoneKnown same test known → find test (first_of_each same known xs) ≡ find test xs
  first_is_first known [] none = refl
  first_is_first known (x ∷ xs) none =
      by (list_any (same x) known) refl (first_is_first known xs none) (λ off. first_is_first (x ∷ known) xs (one_more_known x known off none))
    where
      at_first : (t : Bool) → test x ≡ t → (test x ≡ false → find test (first_of_each same (x ∷ known) xs) ≡ find test xs)
          → cond t (Some x) (find test (first_of_each same (x ∷ known) xs)) ≡ cond t (Some x) (find test xs)
      at_first true e h = refl
      at_first false e h = h e

      by : (b : Bool) → list_any (same x) known ≡ b → find test (first_of_each same known xs) ≡ find test xs → (test x ≡ false → find test (first_of_each same (x ∷ known) xs) ≡ find test xs)
          → find test (if b then first_of_each same known xs else x ∷ first_of_each same (x ∷ known) xs) ≡ cond (test x) (Some x) (find test xs)
      by true e kept h = kept ∙ ap (λ t. cond t (Some x) (find test xs)) (sym (none x e))
      by false e kept h = at_first (test x) refl h

same_name : (word : List ℕ) (a b : DeclaredFactory) → same_declared a b ≡ true → bytes_eq word a.name ≡ bytes_eq word b.name
same_name word a b h = ap (bytes_eq word) ((bytes_eq-Decides a.name b.name).0 (and_parts (bytes_eq a.name b.name) (pointwise bytes_eq a.members b.members) h).0)

-- a factory is found among those that are held
pub found_held : (members : List (List ℕ)) (held : List DeclaredFactory) (word : List ℕ) → find (λ f. bytes_eq word f.name) (factories_held members held) ≡ option_map (numbered members) (find (λ f. bytes_eq word f.name) held)
unfolding factories_held
found_held members held word =
    find-map (λ (f : Factory). bytes_eq word f.name) (numbered members) (first_of_each same_declared [] held)
    ∙ ap (option_map (numbered members)) (first_is_first same_declared (λ (f : DeclaredFactory). bytes_eq word f.name) (same_name word) [] held (λ x h. absurd (cc)))

-- the members of what is found
pub members_held : (members : List (List ℕ)) (held : List DeclaredFactory) (word : List ℕ) (o : Option DeclaredFactory) → o ≡ find (λ f. bytes_eq word f.name) held
    → option_map (λ (f : DeclaredFactory). numbers_among members f.members) o ≡ option_map (λ (f : Factory). f.members) (find (λ f. bytes_eq word f.name) (factories_held members held))
members_held members held word o is =
    by o ∙ ap (λ (p : Option DeclaredFactory). option_map (λ (f : Factory). f.members) (option_map (numbered members) p)) is ∙ ap (option_map (λ (f : Factory). f.members)) (sym (found_held members held word))
  where
    by : (p : Option DeclaredFactory) → option_map (λ (f : DeclaredFactory). numbers_among members f.members) p ≡ option_map (λ (f : Factory). f.members) (option_map (numbered members) p)
    by None = refl
    by (Some f) = refl
