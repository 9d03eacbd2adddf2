-- The homes of a text, one after the other.
use Rattle.std.proofs.Common.{◌≡◌, ℕ, zero, suc, ◌+◌, List, [], ◌∷◌, ◌++◌, length, take, Option, Some, false, ◌==◌, refl, ap, ◌∙◌}
use Rattle.std.specs.List.{slice_get}
use Rattle.std.proofs.lemmas.Bool.{eqb-true, eq-eqb}
use Rattle.type_layout.specs.Schemas.{given}
use Rattle.psdl_directory.specs.Declarations.{Declaration}
use Rattle.psdl_lineage.specs.Descent.{concrete_homes}
use Rattle.psdl_rules.specs.Faults.Limit.{home_number}
use Rattle.psdl_standings.specs.TextLengths.{cut}
use Rattle.psdl_check.specs.inner.Made.{lines_at, lines_of}
use Rattle.psdl_check.proofs.Slots.{numbered_at}

-- a list round one of its elements
pub cut_at : (xs : List ℕ) (i x : ℕ) → slice_get xs i ≡ Some x → (more : List ℕ) × (xs ≡ (take i xs ++ x ∷ []) ++ more)
cut_at [] i x is = absurd (cc)
cut_at (y ∷ ys) zero x is = let same : y ≡ x = cc in (ys, ap (λ z. z ∷ ys) same)
cut_at (y ∷ ys) (suc i) x is = let rest = cut_at ys i x is in (rest.0, ap (λ l. y ∷ l) rest.1)

pub number_at : (all : List Declaration) (i h : ℕ) → slice_get (concrete_homes all) i ≡ Some h → home_number all h ≡ i + 1
number_at all i h is = eqb-true (home_number all h) (i + 1) (numbered_at all h i ∙ ap (λ (o : Option ℕ). given o false (λ n. n == h)) is ∙ eq-eqb h h refl)

-- the lines of a home with the number that its place tells
pub own_number : (all : List Declaration) (i h front total : ℕ) → slice_get (concrete_homes all) i ≡ Some h → total ≡ cut (front + length (lines_of all h)) → total ≡ cut (front + length (lines_at all (i + 1) h))
own_number all i h front total is reach = reach ∙ ap (λ (n : ℕ). cut (front + length (lines_at all n h))) (number_at all i h is)
