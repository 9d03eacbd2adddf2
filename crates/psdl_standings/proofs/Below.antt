-- What names mean stands before their place.
use Rattle.std.proofs.Common.{◌≡◌, ℕ, ◌<◌, ◌≤◌, List, [], ◌∷◌, ◌++◌, length, Bool, true, false, cond, nat_lt, ltb-true, Option, Some, None, refl, arith}
use Rattle.std.specs.Option.{option_or}
use Rattle.std.proofs.lemmas.List.{get_or_append_left}
use Rattle.psdl_tree.specs.declared.names.NamePart.{NamePart}
use Rattle.psdl_tree.specs.Trees.{Name}
use Rattle.type_layout.specs.Schemas.{given}
use Rattle.psdl_directory.specs.Declarations.{Path, Declaration}
use Rattle.psdl_directory.specs.Lookup.{as_is, at, below, first, first_of, first_inside, outwards, inwards, beginning, meaning}
use Rattle.psdl_directory.specs.Parts.{is_module}
use Rattle.psdl_standings.specs.Standings.{Standing, Nothing, standing, sight}

-- ---- what names mean is below the limit

below_less : (limit : ℕ) (o : Option ℕ) (m : ℕ) → below limit o ≡ Some m → m < limit
below_less limit None m e = cc
below_less limit (Some n) m e = by (nat_lt n limit) refl e
  where
    by : (b : Bool) → nat_lt n limit ≡ b → cond b (Some n) None ≡ Some m → m < limit
    by true lt e = let same : n ≡ m = cc in let less : n < limit = ltb-true n limit lt in rw same at less
    by false lt e = cc

or_less : (limit : ℕ) (a b : Option ℕ) → ((m : ℕ) → a ≡ Some m → m < limit) → ((m : ℕ) → b ≡ Some m → m < limit) → (m : ℕ) → option_or a b ≡ Some m → m < limit
or_less limit None b h k m e = k m e
or_less limit (Some n) b h k m e = h m e

outwards_less : (limit : ℕ) (f : Path → Option ℕ) → ((p : Path) (m : ℕ) → f p ≡ Some m → m < limit) → (path : Path) (m : ℕ) → outwards f path ≡ Some m → m < limit
outwards_less limit f h [] m e = h [] m e
outwards_less limit f h (name ∷ path) m e = or_less limit (f (name ∷ path)) (outwards f path) (h (name ∷ path)) (outwards_less limit f h path) m e

inside_less : (spelled : List ℕ → List ℕ) (all : List Declaration) (limit n : ℕ) (name : List ℕ) (m : ℕ) → first_inside spelled all limit n name ≡ Some m → m < limit
inside_less spelled all limit n name m e = by (is_module (at all n).what) e
  where
    by : (b : Bool) → cond b (first_of spelled all limit ((at all n).name ∷ (at all n).path) name) None ≡ Some m → m < limit
    by true e = below_less limit (first spelled all ((at all n).name ∷ (at all n).path) name) m e
    by false e = cc

inwards_less : (spelled : List ℕ → List ℕ) (all : List Declaration) (limit n : ℕ) (parts : List NamePart) → n < limit → (m : ℕ) → inwards spelled all limit n parts ≡ Some m → m < limit
inwards_less spelled all limit n [] lt m e = let same : n ≡ m = cc in rw same at lt
inwards_less spelled all limit n (part ∷ parts) lt m e =
    further (first_inside spelled all limit n part.name.name) (inside_less spelled all limit n part.name.name) (λ k less is. inwards_less spelled all limit k parts less m is) e
  where
    further : (o : Option ℕ) → ((k : ℕ) → o ≡ Some k → k < limit) → ((k : ℕ) → k < limit → inwards spelled all limit k parts ≡ Some m → m < limit) → given o None (λ k. inwards spelled all limit k parts) ≡ Some m → m < limit
    further None h next e = cc
    further (Some k) h next e = next k (h k refl) e

beginning_less : (spelled : List ℕ → List ℕ) (all : List Declaration) (limit : ℕ) (path : Path) (name : Name) (m : ℕ) → beginning spelled all limit path name ≡ Some m → m < limit
beginning_less spelled all limit path name m e = by name.leading e
  where
    each : (p : Path) (m : ℕ) → first_of spelled all limit p name.first.name ≡ Some m → m < limit
    each p m e = below_less limit (first spelled all p name.first.name) m e

    by : {P : Type 0} (o : Option P) → given o (outwards (λ p. first_of spelled all limit p name.first.name) path) (λ _. first_of spelled all limit [] name.first.name) ≡ Some m → m < limit
    by None e = outwards_less limit (λ p. first_of spelled all limit p name.first.name) each path m e
    by (Some place) e = each [] m e

pub meaning_less : (spelled : List ℕ → List ℕ) (all : List Declaration) (limit : ℕ) (path : Path) (name : Name) (m : ℕ) → meaning spelled all limit path name ≡ Some m → m < limit
unfolding meaning
meaning_less spelled all limit path name m e = by (beginning spelled all limit path name) (beginning_less spelled all limit path name) e
  where
    by : (o : Option ℕ) → ((k : ℕ) → o ≡ Some k → k < limit) → given o None (λ n. inwards spelled all limit n name.others) ≡ Some m → m < limit
    by None h e = cc
    by (Some n) h e = inwards_less spelled all limit n name.others (h n refl) m e

-- ---- what stands further on does not matter

pub sight_more : (all : List Declaration) (done more : List Standing) (limit : ℕ) (path : Path) → limit ≤ length done → (name : Name) → sight all (done ++ more) limit path name ≡ sight all done limit path name
sight_more all done more limit path le name = by (meaning as_is all limit path name) (meaning_less as_is all limit path name)
  where
    by : (o : Option ℕ) → ((m : ℕ) → o ≡ Some m → m < limit) → given o Nothing (λ n. standing (done ++ more) n) ≡ given o Nothing (λ n. standing done n)
    by None h = refl
    by (Some n) h = let lt : n < limit = h n refl in get_or_append_left done more Nothing n (omega (arith, lt, le))
