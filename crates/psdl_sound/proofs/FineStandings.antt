-- The types that the declarations of a text without a fault stand for are fine.
use Rattle.std.proofs.Common.{◌≡◌, ℕ, ◌<◌, List, length, map, true, None, sym, ap, subst, ◌∙◌, arith}
use Rattle.std.specs.List.{list_all}
use Rattle.std.proofs.lemmas.Bool.{and_parts}
use Rattle.psdl_tree.specs.Trees.{Definitions, Identifiers}
use Rattle.type_layout.specs.Sound.{is_name}
use Rattle.type_layout.specs.Types.{Enum}
use Rattle.psdl_directory.specs.Declarations.{What, IsEnumeration, Declaration, all_identifiers, all_declarations}
use Rattle.psdl_check.specs.Faults.{first_fault}
use Rattle.psdl_directory.specs.Lookup.{at}
use Rattle.psdl_check.specs.TextNames.{listed_enumerators, has_names, AreNames}
use Rattle.psdl_standings.specs.Turns.{AreInTurn}
use Rattle.psdl_standings.proofs.InTurn.{are_in_turn}
use Rattle.psdl_check.proofs.FaultlessTexts.{no_fault_at}
use Rattle.psdl_check.proofs.StandingTypes.{HasNoValueFault, HoldsAt, holds_at}
use Rattle.psdl_sound.proofs.Enumerators.{enumerators_distinct}
use Rattle.psdl_sound.proofs.FineTypes.{IsFine, AreFine, fine_handed_on, enumeration_fine}
use Rattle.psdl_sound.proofs.ScopedNames.{each_passes}

-- no value of such a text has a fault
pub no_value_fault : (all : List Declaration) → first_fault all ≡ None → HasNoValueFault all
no_value_fault all none n inside = (no_fault_at all none n inside).no_values

module _ (most : ℕ) (tree : Definitions) (all : List Declaration) (whole : all ≡ all_declarations tree) (none : first_fault all ≡ None) (names : AreNames all) where
  listed_fine : (i : ℕ) → i < length all → (is : Identifiers) → (at all i).what ≡ IsEnumeration is → IsFine most (Enum (map (λ x. x.name) (all_identifiers is)))
  listed_fine i inside is e =
      let both = and_parts (is_name (at all i).name) (list_all is_name (listed_enumerators (at all i).what)) (each_passes has_names all names i inside) in
      let named : list_all is_name (map (λ x. x.name) (all_identifiers is)) ≡ true = ap (λ (w : What). list_all is_name (listed_enumerators w)) (sym e) ∙ both.1 in
      enumeration_fine most (map (λ x. x.name) (all_identifiers is)) (omega arith) named (enumerators_distinct tree all whole none i inside is e)

  -- each type that a declaration stands for is fine
  pub all_fine : (m : ℕ) → HoldsAt (IsFine most) all m
  all_fine m =
      holds_at (IsFine most) (AreFine most) (fine_handed_on most) all (subst (λ (l : List Declaration). AreInTurn l) (sym whole) (are_in_turn tree)) (no_value_fault all none) listed_fine m
