-- What names and strings stand where they may not.
use Rattle.std.specs.Prelude.{ℕ, List, [], ◌∷◌, map, is_some, Bool, false, not, if◌then◌else◌}
use Rattle.std.specs.List.{flat_map}
use Rattle.psdl_tree.specs.Trees.{Expression, Constant}
use Rattle.type_layout.specs.Schemas.{given}
use Rattle.psdl_directory.specs.declared.fault.CheckFault.{CheckFault}
use Rattle.psdl_directory.specs.declared.fault.CheckKind.TheVariants.{Unknown, WrongCase, WrongKind}
use Rattle.psdl_directory.specs.Declarations.{Path, What, IsConstant, Declaration}
use Rattle.psdl_directory.specs.Lookup.{as_is, lower, at, meaning, place_of}
use Rattle.psdl_standings.specs.Expressions.{operands, text_of, whole_text, expression_place}
use Rattle.psdl_standings.specs.Standings.{Standing, standing, sight, constant_type_by}
use Rattle.psdl_standings.specs.Uses.{Use, uses, meets, is_text, bounds}
use Rattle.psdl_directory.specs.Fault.{fault, fault_if}

-- A name does not resolve, also ignoring case; or it resolves only ignoring case; or it resolves to another kind than its
-- place needs.
abbrev pub of_use : List Declaration → List Standing → Path → Use → List CheckFault
of_use all done path u =
    given (meaning as_is all u.limit path u.name)
    (fault (given (meaning lower all u.limit path u.name) Unknown (λ _. WrongCase)) (place_of u.name) ∷ [])
    (λ j. fault_if (not (meets u.need (at all j).what (standing done j))) WrongKind (place_of u.name))

abbrev pub of_names : List Declaration → List Standing → ℕ → Declaration → List CheckFault
of_names all done n d = flat_map (of_use all done d.path) (uses n d.what)

-- each string of an expression
abbrev pub of_texts : Expression → List CheckFault
of_texts e = map (λ t. fault WrongKind t.place) (flat_map text_of (operands e))

-- of a string constant: the expression is no string
abbrev pub of_text_value : Expression → List CheckFault
of_text_value e = if is_some (whole_text e) then [] else fault WrongKind (expression_place e) ∷ of_texts e

-- the type of a constant is a string
abbrev pub is_text_constant : List Declaration → List Standing → ℕ → Path → Constant → Bool
is_text_constant all done n path c = given (constant_type_by (sight all done n path) c.constant_type) false is_text

-- a string in an expression that is not the whole of a string constant, and a string constant whose expression is none
abbrev pub of_strings_in : List Declaration → List Standing → ℕ → Path → What → List CheckFault
of_strings_in all done n path (IsConstant c) = if is_text_constant all done n path c then of_text_value c.value else of_texts c.value
of_strings_in all done n path what = flat_map (λ b. of_texts b.value) (bounds n what)

abbrev pub of_strings : List Declaration → List Standing → ℕ → Declaration → List CheckFault
of_strings all done n d = of_strings_in all done n d.path d.what
