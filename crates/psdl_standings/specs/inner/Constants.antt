-- Constants in the walk of bodies.
use Rattle.std.specs.Prelude.{ℕ, List, [], ◌++◌, Option, false, if◌then◌else◌}
use Rattle.std.specs.List.{flat_map}
use Rattle.psdl_tree.specs.Trees.{Expression, Constant}
use Rattle.type_layout.specs.Schemas.{given}
use Rattle.type_layout.specs.Types.{PlainType}
use Rattle.psdl_directory.specs.declared.fault.CheckFault.{CheckFault}
use Rattle.psdl_directory.specs.Noting.{noting}
use Rattle.psdl_standings.specs.declared.body_faults.BodyFaults.{BodyFaults}
use Rattle.psdl_standings.specs.declared.spot.Spot.{Spot}
use Rattle.psdl_standings.specs.declared.walk.Walk.{Walk}
use Rattle.psdl_standings.specs.Naming.{of_use, of_texts, of_text_value}
use Rattle.psdl_standings.specs.Ranges.{of_value, of_long_text, of_constant_value}
use Rattle.psdl_standings.specs.Standings.{Range, assessed_by, constant_type_by}
use Rattle.psdl_standings.specs.Uses.{Use, in_constant_type, in_expression, is_text}
use Rattle.psdl_standings.specs.Values.{Assessed}
use Rattle.psdl_standings.specs.inner.Sights.{of_own}
use Rattle.psdl_standings.specs.inner.Walked.{text_in, done_in, path_in, names_in}

abbrev pub assessed_in : Walk → Spot → Option ℕ → Expression → Assessed
assessed_in w spot width e = assessed_by (names_in w spot) width e

-- with what is wrong with names, strings and values
abbrev pub with_faults : Walk → Spot → List Use → List CheckFault → List CheckFault → BodyFaults
with_faults w spot us strings values = record {
  names = noting w.faults.names (flat_map (of_use (text_in w) (done_in w) (path_in w spot)) us);
  strings = noting w.faults.strings strings;
  values = noting w.faults.values values;
  selves = noting w.faults.selves (flat_map (of_own (text_in w) spot.own (path_in w spot)) us);
}

-- no string may stand in the expression
abbrev pub with_texts : Walk → Spot → Expression → BodyFaults
with_texts w spot e = with_faults w spot (in_expression spot.limit e) (of_texts e) []

-- the value is to lie in a range
abbrev pub number_noted : Walk → Spot → Range → Expression → BodyFaults
number_noted w spot r e = with_faults w spot (in_expression spot.limit e) (of_texts e) (of_value r e (assessed_in w spot r.width e))

-- the whole is to be a string
abbrev pub text_noted : Walk → Spot → ℕ → Expression → BodyFaults
text_noted w spot bound e = with_faults w spot (in_expression spot.limit e) (of_text_value e) (of_long_text bound e)

-- by the type of a constant
abbrev pub value_noted : Walk → Spot → PlainType → Expression → BodyFaults
value_noted w spot type e = with_faults w spot (in_expression spot.limit e) (if is_text type then of_text_value e else of_texts e) (of_constant_value (names_in w spot) type e)

-- the names of the type stand in front
abbrev pub constant_noted : Walk → Spot → Constant → BodyFaults
constant_noted w spot c = with_faults w spot (in_constant_type spot.limit c.constant_type ++ in_expression spot.limit c.value)
    (if given (constant_type_by (names_in w spot) c.constant_type) false is_text then of_text_value c.value else of_texts c.value)
    (given (constant_type_by (names_in w spot) c.constant_type) [] (λ t. of_constant_value (names_in w spot) t c.value))
