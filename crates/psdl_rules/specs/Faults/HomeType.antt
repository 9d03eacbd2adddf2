-- C12: a home's type does not go with that of its base, or is of another kind than the home.
use Rattle.std.specs.Prelude.{ℕ, List, Bool, false, not, ◌&&◌, ◌||◌, ◌==◌}
use Rattle.std.specs.List.{flat_map, list_any}
use Rattle.std.specs.Option.{option_to_list}
use Rattle.psdl_tree.specs.Trees.{Name}
use Rattle.type_layout.specs.Schemas.{given}
use Rattle.psdl_directory.specs.declared.fault.CheckFault.{CheckFault}
use Rattle.psdl_directory.specs.declared.fault.CheckKind.TheVariants.{HomeType}
use Rattle.psdl_directory.specs.Declarations.{What, IsAbstractHome, IsConcreteHome, Declaration}
use Rattle.psdl_directory.specs.Parts.{is_abstract_type, is_concrete_type, is_concrete_home, bases, managed}
use Rattle.psdl_directory.specs.Lookup.{at, named, place_of}
use Rattle.psdl_lineage.specs.Descent.{conforms}
use Rattle.psdl_directory.specs.Fault.{fault_if}
use Rattle.psdl_rules.specs.Words.{of_types}

-- an abstract home's type does not conform to that of its base; a concrete home's is not derived from it
abbrev pub differs_from_base : List Declaration → What → ℕ → ℕ → Bool
differs_from_base all what t u = not (conforms all t u) || (is_concrete_home what && t == u)

-- the type of a concrete home is abstract, or that of an abstract home concrete
abbrev pub is_other_kind : What → What → Bool
is_other_kind (IsAbstractHome body) type = is_concrete_type type
is_other_kind (IsConcreteHome home) type = is_abstract_type type
is_other_kind _ type = false

abbrev pub has_wrong_type : List Declaration → ℕ → What → Name → Bool
has_wrong_type all n what name =
    given (named all n name) false (λ j. is_other_kind what (at all j).what) || list_any (of_types all n (differs_from_base all what)) (bases what)

abbrev pub home_type : List Declaration → ℕ → Declaration → List CheckFault
home_type all n d = flat_map (λ name. fault_if (has_wrong_type all n d.what name) HomeType (place_of name)) (option_to_list (managed d.what))
