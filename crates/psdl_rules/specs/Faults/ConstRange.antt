-- C14: a value leaves its range, or a string constant is longer than its type's bound.
use Rattle.std.specs.Prelude.{ℕ, List, [], length}
use Rattle.psdl_tree.specs.Trees.{Expression}
use Rattle.type_layout.specs.Schemas.{given}
use Rattle.type_layout.specs.Values.{is_over}
use Rattle.psdl_directory.specs.declared.fault.CheckFault.{CheckFault}
use Rattle.psdl_directory.specs.declared.fault.CheckKind.TheVariants.{ConstRange}
use Rattle.psdl_directory.specs.Fault.{fault_if}
use Rattle.psdl_standings.specs.Expressions.{expression_place, whole_text}
use Rattle.psdl_standings.specs.Ranges.{is_out}
use Rattle.psdl_standings.specs.Standings.{Range}
use Rattle.psdl_standings.specs.Values.{Assessed}

abbrev pub out_of_range : Range → Expression → Assessed → List CheckFault
out_of_range r e a = fault_if (is_out r a) ConstRange (expression_place e)

abbrev pub too_long : ℕ → Expression → List CheckFault
too_long bound e = given (whole_text e) [] (λ t. fault_if (is_over bound (length t.bytes)) ConstRange t.place)
