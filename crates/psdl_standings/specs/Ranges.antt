-- Values that leave their ranges, and divisions by 0.
use Rattle.std.specs.Prelude.{ℕ, pos, List, [], ◌++◌, map, length, Some, Bool, false, not, ◌||◌}
use Rattle.std.specs.List.{flat_map}
use Rattle.psdl_tree.specs.Trees.{Name, Expression, Constant}
use Rattle.type_layout.specs.Schemas.{given}
use Rattle.type_layout.specs.Types.{PlainType, Str}
use Rattle.type_layout.specs.Values.{is_over}
use Rattle.psdl_directory.specs.declared.fault.CheckFault.{CheckFault}
use Rattle.psdl_directory.specs.declared.fault.CheckKind.TheVariants.{ConstRange, ConstZero}
use Rattle.psdl_directory.specs.Declarations.{Path, What, IsConstant, Declaration}
use Rattle.psdl_standings.specs.Values.{is_within, Assessed}
use Rattle.psdl_standings.specs.Expressions.{expression_place, whole_text}
use Rattle.psdl_standings.specs.Standings.{Standing, sight, Range, range, assessed_by, constant_type_by}
use Rattle.psdl_standings.specs.Uses.{Bound, bounds}
use Rattle.psdl_directory.specs.Fault.{fault, fault_if}

-- a part leaves the range of all numbers or shifts too far, or the whole leaves its own range
abbrev pub is_out : Range → Assessed → Bool
is_out r a = a.leaves || given a.value false (λ z. not (is_within r.least r.most z))

abbrev pub of_value : Range → Expression → Assessed → List CheckFault
of_value r e a = fault_if (is_out r a) ConstRange (expression_place e) ++ map (fault ConstZero) a.zeros

-- an expression whose value must lie in a range
abbrev pub of_expression : (Name → Standing) → Range → Expression → List CheckFault
of_expression names r e = of_value r e (assessed_by names r.width e)

-- from 1 up, counted as unsigned long long
abbrev pub from_one : ℕ → Range
from_one most = record { least = pos 1; most = pos most; width = Some 64 }

abbrev pub of_bound : List Declaration → List Standing → Path → Bound → List CheckFault
of_bound all done path b = of_expression (sight all done b.limit path) (from_one b.most) b.value

-- a string constant is longer than its type's bound
abbrev pub of_long_text : ℕ → Expression → List CheckFault
of_long_text bound e = given (whole_text e) [] (λ t. fault_if (is_over bound (length t.bytes)) ConstRange t.place)

-- the value of a constant by its type
abbrev pub of_constant_value : (Name → Standing) → PlainType → Expression → List CheckFault
of_constant_value names (Str bound) e = of_long_text bound e
of_constant_value names type e = given (range type) [] (λ r. of_expression names r e)

abbrev pub of_constant : (Name → Standing) → Constant → List CheckFault
of_constant names c = given (constant_type_by names c.constant_type) [] (λ t. of_constant_value names t c.value)

abbrev pub of_values_in : List Declaration → List Standing → ℕ → Path → What → List CheckFault
of_values_in all done n path (IsConstant c) = of_constant (sight all done n path) c
of_values_in all done n path what = flat_map (of_bound all done path) (bounds n what)

abbrev pub of_values : List Declaration → List Standing → ℕ → Declaration → List CheckFault
of_values all done n d = of_values_in all done n d.path d.what
