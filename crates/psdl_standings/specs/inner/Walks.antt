-- What is noted in a walk.
use Rattle.std.specs.Prelude.{ℕ, List, [], ◌∷◌, map, Option, Some}
use Rattle.std.specs.List.{flat_map}
use Rattle.psdl_tree.specs.declared.expressions.TextLiteral.{TextLiteral}
use Rattle.psdl_tree.specs.Trees.{Name, Primary, Expression}
use Rattle.psdl_directory.specs.declared.fault.CheckFault.{CheckFault}
use Rattle.psdl_directory.specs.declared.fault.CheckKind.TheVariants.{WrongKind}
use Rattle.psdl_directory.specs.Declarations.{Path, Declaration}
use Rattle.psdl_directory.specs.Fault.{fault}
use Rattle.psdl_directory.specs.Noting.{noting}
use Rattle.psdl_standings.specs.declared.body_faults.BodyFaults.{BodyFaults}
use Rattle.psdl_standings.specs.Expressions.{operands, named_by, text_of}
use Rattle.psdl_standings.specs.Naming.{of_use, of_texts}
use Rattle.psdl_standings.specs.Ranges.{of_value, from_one, of_bound}
use Rattle.psdl_standings.specs.Standings.{Standing}
use Rattle.psdl_standings.specs.Uses.{Use, Bound}
use Rattle.psdl_standings.specs.Values.{assessed}
use Rattle.psdl_standings.specs.inner.Sights.{Scene, value_at, value_faults, value_owns, of_own}

abbrev pub text_fault : TextLiteral → CheckFault
text_fault t = fault WrongKind t.place

-- an operand of an expression
abbrev pub noted_by : Scene → BodyFaults → Primary → BodyFaults
noted_by s f p = record {
  names = noting f.names (flat_map (value_faults s) (named_by p));
  strings = noting f.strings (map text_fault (text_of p));
  values = f.values;
  selves = noting f.selves (flat_map (value_owns s) (named_by p));
}

-- a name
abbrev pub with_name : Scene → BodyFaults → Name → BodyFaults
with_name s f name = record { names = noting f.names (value_faults s name); strings = f.strings; values = f.values; selves = noting f.selves (value_owns s name) }

abbrev pub noted : Scene → BodyFaults → List Primary → BodyFaults
noted s f [] = f
noted s f (p ∷ ps) = noted s (noted_by s f p) ps

-- what is noted of a whole expression by its range, behind its operands
abbrev pub with_value : BodyFaults → List CheckFault → BodyFaults
with_value f faults = record { names = f.names; strings = f.strings; values = noting f.values faults; selves = f.selves }

-- a bound or a dimension
abbrev pub bounded : Scene → ℕ → BodyFaults → Expression → BodyFaults
bounded s most f e = with_value (noted s f (operands e)) (of_value (from_one most) e (assessed (value_at s) (Some 64) e))

-- the names, and the bounds and dimensions, of a part of a body
abbrev pub walked : List Declaration → List Standing → Path → Option ℕ → BodyFaults → List Use → List Bound → BodyFaults
walked all done path own f us bs = record {
  names = noting f.names (flat_map (of_use all done path) us);
  strings = noting f.strings (flat_map (λ b. of_texts b.value) bs);
  values = noting f.values (flat_map (of_bound all done path) bs);
  selves = noting f.selves (flat_map (of_own all own path) us);
}
