-- What a type stands for, and the sizes of bounds without a fault.
use Rattle.std.proofs.Common.{◌≡◌, ℕ, List, [], ℤ, pos, negsuc, true, Option, Some, None, is_some, refl, ap, ◌∙◌}
use Rattle.std.specs.List.{list_all}
use Rattle.std.specs.Option.{option_and_then}
use Rattle.psdl_standings.specs.Values.{is_within}
use Rattle.psdl_tree.specs.Trees.{Name, Expression}
use Rattle.type_layout.specs.Types.{PlainType}
use Rattle.psdl_directory.specs.Declarations.{Path, Declaration}
use Rattle.psdl_standings.specs.Expressions.{operands}
use Rattle.psdl_directory.specs.Lookup.{as_is, at, meaning}
use Rattle.psdl_standings.specs.Naming.{of_use, of_texts}
use Rattle.psdl_directory.specs.Parts.{is_type}
use Rattle.psdl_standings.specs.Ranges.{from_one, of_bound}
use Rattle.psdl_standings.specs.Standings.{natural, type_of, number_of, standing, standings, sight, size_by, as_type}
use Rattle.psdl_standings.specs.Uses.{Use, is_number, Bound, in_expression}
use Rattle.psdl_sound.specs.SmallLiterals.{is_small}
use Rattle.psdl_sound.proofs.Among.{Among}
use Rattle.psdl_sound.proofs.ToldValues.{value_told}

-- a type that is there is stood for
pub type_as : (o : Option PlainType) → is_some o ≡ true → is_some (type_of (as_type o)) ≡ true
type_as None e = absurd (cc)
type_as (Some t) e = refl

-- what stands for a type is no number
pub no_number_type : (o : Option PlainType) → is_number (as_type o) ≡ true → ⊥
no_number_type None e = cc
no_number_type (Some t) e = cc

-- what is declared there stands for what it says
abbrev pub IsGrounded : List Declaration → ℕ → Type 0
IsGrounded all m = (is_type (at all m).what ≡ true → is_some (type_of (standing (standings all) m)) ≡ true) × (is_number (standing (standings all) m) ≡ true → is_some (number_of (standing (standings all) m)) ≡ true)

-- an expression of a bound without a fault
pub record IsFineBound (all : List Declaration) (path : Path) (b : Bound) : Type 0 where
  pub no_fault : of_bound all (standings all) path b ≡ []
  pub no_text : of_texts b.value ≡ []
  pub is_small : list_all is_small (operands b.value) ≡ true

-- its size is there
pub size_told : (all : List Declaration) (path : Path) (limit most : ℕ) (e : Expression)
    → ((name : Name) (m : ℕ) → meaning as_is all limit path name ≡ Some m → is_number (standing (standings all) m) ≡ true → is_some (number_of (standing (standings all) m)) ≡ true)
    → ((u : Use) → Among u (in_expression limit e) → of_use all (standings all) path u ≡ []) → IsFineBound all path (record { limit = limit; most = most; value = e }) → is_some (size_by (sight all (standings all) limit path) e) ≡ true
size_told all path limit most e numbers used fine =
    let told = value_told all path limit e (from_one most) (record { no_use = used; no_text = fine.no_text; is_small = fine.is_small; have_numbers = numbers }) fine.no_fault in
    ap (λ (o : Option ℤ). is_some (option_and_then natural o)) told.1 ∙ by told.0 told.2
  where
    by : (z : ℤ) → is_within (pos 1) (pos most) z ≡ true → is_some (natural z) ≡ true
    by (pos n) on = refl
    by (negsuc n) on = absurd (cc)
