-- The bounds in the types of a text's members fit into 32 bits, where the text has no fault.
use Rattle.std.proofs.Common.{◌≡◌, List, [], Bool, true, false, arith}
use Rattle.psdl_tree.specs.declared.types.IntegerSize.{IntegerSize}
use Rattle.psdl_tree.specs.declared.types.IntegerSize.TheVariants as sizes
use Rattle.psdl_directory.specs.Declarations.{Declaration}
use Rattle.psdl_rules.specs.Faults.{faults}
use Rattle.psdl_standings.specs.SmallTypes.{IsSmall, AreSmall}
use Rattle.psdl_standings.specs.Standings.{type_by_sign}
use Rattle.psdl_standings.specs.Turns.{AreInTurn}
use Rattle.psdl_check.specs.inner.SmallTypes.{AreSmallLayouts}
use Rattle.psdl_check.proofs.ComposedTypes.{IsHandedOn}
use Rattle.psdl_check.proofs.FaultlessTexts.{faultless_at}
use Rattle.psdl_check.proofs.MemberTypes.{layout_holds}
use Rattle.psdl_check.proofs.StandingTypes.{HasNoValueFault, holds_at}

integer_small : (unsigned : Bool) (size : IntegerSize) → IsSmall (type_by_sign unsigned size)
integer_small true sizes.Short = tt
integer_small true sizes.Long = tt
integer_small true sizes.LongLong = tt
integer_small false sizes.Short = tt
integer_small false sizes.Long = tt
integer_small false sizes.LongLong = tt

small_handed_on : IsHandedOn IsSmall AreSmall
small_handed_on = record {
  integer = λ i. integer_small i.unsigned i.size;
  char = tt;
  boolean = tt;
  octet = tt;
  string = λ bound le. omega (arith, le);
  sequence = λ item bound le small. (omega (arith, le), small);
  array = λ item count size small. (omega (arith, size.1), small);
  none = tt;
  field = λ name type fields small others. (small, others);
  struct = λ fields some small. small;
}

-- the types of all members are small
pub small_layouts : (all : List Declaration) → AreInTurn all → faults all ≡ [] → AreSmallLayouts all
small_layouts all turn none n =
    let no_fault : HasNoValueFault all = λ m inside. (faultless_at all none m inside).no_values in
    layout_holds IsSmall AreSmall small_handed_on all no_fault (holds_at IsSmall AreSmall small_handed_on all turn no_fault (λ m inside is e. tt)) (λ u. tt) n
