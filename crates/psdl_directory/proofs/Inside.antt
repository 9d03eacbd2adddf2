-- What stands inside modules.
use Rattle.std.proofs.Common.{◌≡◌, ℕ, zero, suc, ◌+◌, ◌<◌, ◌≤◌, List, [], ◌∷◌, length, get_or, drop, Bool, true, cond, Option, Some, None, refl, sym, ap, ◌∙◌, arith, add-one, drop-cons}
use Rattle.psdl_tree.specs.declared.names.NamePart.{NamePart}
use Rattle.type_layout.specs.Schemas.{given}
use Rattle.psdl_directory.specs.Declarations.{Path, Declaration}
use Rattle.psdl_directory.specs.Parts.{is_module}
use Rattle.psdl_directory.specs.Lookup.{first_of, first_inside, inwards, at}

-- a scope with the module's path is its inside
pub inside_found : (spelled : List ℕ → List ℕ) (all : List Declaration) (limit number : ℕ) (name : List ℕ) (p : Path) → is_module (at all number).what ≡ true → p ≡ (at all number).name ∷ (at all number).path
    → first_inside spelled all limit number name ≡ first_of spelled all limit p name
inside_found spelled all limit number name p m e =
    ap (λ (b : Bool). cond b (first_of spelled all limit ((at all number).name ∷ (at all number).path) name) None) m ∙ ap (λ (q : Path). first_of spelled all limit q name) (sym e)

-- ---- from part to part

cut : (parts : List NamePart) (i : ℕ) (part : NamePart) → i < length parts → part ≡ get_or parts i part → drop i parts ≡ part ∷ drop (i + 1) parts
cut parts i part lt is = rw (add-one, drop-cons parts i part) (ap (λ (x : NamePart). x ∷ drop (suc i) parts) (sym is))

none_left : (xs : List NamePart) (i : ℕ) → length xs ≤ i → drop i xs ≡ []
none_left [] zero le = refl
none_left [] (suc i) le = refl
none_left (x ∷ xs) zero le = absurd (omega (arith, le))
none_left (x ∷ xs) (suc i) le = none_left xs i (omega (arith, le))

pub inwards_end : (spelled : List ℕ → List ℕ) (all : List Declaration) (limit n : ℕ) (parts : List NamePart) (i : ℕ) → length parts ≤ i → inwards spelled all limit n (drop i parts) ≡ Some n
inwards_end spelled all limit n parts i le = ap (λ (ps : List NamePart). inwards spelled all limit n ps) (none_left parts i le)

pub inwards_on : (spelled : List ℕ → List ℕ) (all : List Declaration) (limit n : ℕ) (parts : List NamePart) (i : ℕ) (part : NamePart) (o : Option ℕ) → i < length parts → part ≡ get_or parts i part
    → o ≡ first_inside spelled all limit n part.name.name → inwards spelled all limit n (drop i parts) ≡ given o None (λ m. inwards spelled all limit m (drop (i + 1) parts))
inwards_on spelled all limit n parts i part o lt is e =
    ap (λ (ps : List NamePart). inwards spelled all limit n ps) (cut parts i part lt is) ∙ ap (λ (x : Option ℕ). given x None (λ m. inwards spelled all limit m (drop (i + 1) parts))) (sym e)
