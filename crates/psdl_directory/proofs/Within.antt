-- What is found is one of the declarations.
use Rattle.std.proofs.Common.{◌≡◌, ℕ, ◌+◌, ◌<◌, List, [], ◌∷◌, length, Bool, true, false, cond, Option, Some, None, refl, arith, nat_lt}
use Rattle.std.specs.List.{position_from}
use Rattle.std.specs.Option.{IfSome, option_or}
use Rattle.pss_base.specs.declared.place.Place.{Place}
use Rattle.psdl_tree.specs.declared.names.NamePart.{NamePart}
use Rattle.psdl_tree.specs.Trees.{Name}
use Rattle.type_layout.specs.Schemas.{given}
use Rattle.psdl_directory.specs.Declarations.{Path, Declaration}
use Rattle.psdl_directory.specs.Parts.{is_module}
use Rattle.psdl_directory.specs.Lookup.{is_named, first, below, first_of, outwards, first_inside, inwards, beginning, meaning, at}

found_at : {K : Type 0} (test : K → Bool) (i : ℕ) (x : K) (xs : List K) (n : ℕ) → (position_from test (i + 1) xs ≡ Some n → n < (i + 1) + length xs)
    → (b : Bool) → test x ≡ b → cond (test x) (Some i) (position_from test (i + 1) xs) ≡ Some n → n < i + length (x ∷ xs)
found_at test i x xs n later true t e =
    let is : Some i ≡ Some n = rw t at e in
    let same : i ≡ n = cc in
    omega (arith, same)
found_at test i x xs n later false t e =
    let rest : position_from test (i + 1) xs ≡ Some n = rw t at e in
    omega (arith, later rest)

-- what is found has one of the numbers
pub found-lower : {K : Type 0} (test : K → Bool) (i : ℕ) (xs : List K) (n : ℕ) → position_from test i xs ≡ Some n → n < i + length xs
found-lower test i [] n e = absurd (cc)
found-lower test i (x ∷ xs) n e = found_at test i x xs n (λ h. found-lower test (i + 1) xs n h) (test x) refl e

if_some : (o : Option ℕ) (bound : ℕ) → ((n : ℕ) → o ≡ Some n → n < bound) → IfSome o (λ n. n < bound)
if_some None bound f = tt
if_some (Some m) bound f = f m refl

some_below : (limit bound : ℕ) (o : Option ℕ) → IfSome o (λ n. n < bound) → IfSome (below limit o) (λ n. n < bound)
some_below limit bound None h = tt
some_below limit bound (Some m) h = by (nat_lt m limit)
  where
    by : (b : Bool) → IfSome (cond b (Some m) None) (λ n. n < bound)
    by true = h
    by false = tt

module _ (spelled : List ℕ → List ℕ) (all : List Declaration) (limit : ℕ) where
  pub first-within : (path : Path) (name : List ℕ) → IfSome (first_of spelled all limit path name) (λ n. n < length all)
  first-within path name = some_below limit (length all) (first spelled all path name) (if_some (first spelled all path name) (length all) (λ n e. omega (arith, found-lower (is_named spelled path name) 0 all n e)))

  either : (o p : Option ℕ) → IfSome o (λ n. n < length all) → IfSome p (λ n. n < length all) → IfSome (option_or o p) (λ n. n < length all)
  either None p h k = k
  either (Some m) p h k = h

  outwards-within : (path : Path) (name : List ℕ) → IfSome (outwards (λ p. first_of spelled all limit p name) path) (λ n. n < length all)
  outwards-within [] name = first-within [] name
  outwards-within (m ∷ path) name = either (first_of spelled all limit (m ∷ path) name) (outwards (λ p. first_of spelled all limit p name) path) (first-within (m ∷ path) name) (outwards-within path name)

  pub inside-within : (n : ℕ) (name : List ℕ) → IfSome (first_inside spelled all limit n name) (λ m. m < length all)
  inside-within n name = by (is_module (at all n).what)
    where
      by : (b : Bool) → IfSome (cond b (first_of spelled all limit ((at all n).name ∷ (at all n).path) name) None) (λ m. m < length all)
      by true = first-within ((at all n).name ∷ (at all n).path) name
      by false = tt

  inwards-at : (o : Option ℕ) (parts : List NamePart) → IfSome o (λ m. m < length all) → ((m : ℕ) → m < length all → IfSome (inwards spelled all limit m parts) (λ k. k < length all)) → IfSome (given o None (λ m. inwards spelled all limit m parts)) (λ k. k < length all)
  inwards-at None parts h on = tt
  inwards-at (Some m) parts h on = on m h

  inwards-within : (n : ℕ) (parts : List NamePart) → n < length all → IfSome (inwards spelled all limit n parts) (λ m. m < length all)
  inwards-within n [] lt = lt
  inwards-within n (part ∷ parts) lt = inwards-at (first_inside spelled all limit n part.name.name) parts (inside-within n part.name.name) (λ m h. inwards-within m parts h)

  pub beginning-within : (path : Path) (name : Name) → IfSome (beginning spelled all limit path name) (λ n. n < length all)
  beginning-within path name = by name.leading
    where
      by : (o : Option Place) → IfSome (given o (outwards (λ p. first_of spelled all limit p name.first.name) path) (λ _. first_of spelled all limit [] name.first.name)) (λ n. n < length all)
      by None = outwards-within path name.first.name
      by (Some place) = first-within [] name.first.name

  pub meaning-within : (path : Path) (name : Name) → IfSome (meaning spelled all limit path name) (λ n. n < length all)
  unfolding meaning
  meaning-within path name = by (beginning spelled all limit path name) (beginning-within path name)
    where
      by : (o : Option ℕ) → IfSome o (λ n. n < length all) → IfSome (given o None (λ n. inwards spelled all limit n name.others)) (λ n. n < length all)
      by None h = tt
      by (Some n) h = inwards-within n name.others h
