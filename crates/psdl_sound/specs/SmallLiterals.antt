-- Texts whose integer literals are numbers that expressions may have.
use Rattle.std.specs.Prelude.{◌^◌, List, [], ◌∷◌, map, Bool, true, IsTrue, nat_lt}
use Rattle.std.specs.List.{list_all}
use Rattle.psdl_tree.specs.Trees.{Primary, IntegerOperand, Expression}
use Rattle.psdl_directory.specs.Declarations.{What, IsConstant, Declaration}
use Rattle.psdl_standings.specs.Expressions.{operands}
use Rattle.psdl_standings.specs.Uses.{bounds}

-- a literal is below 2^127
abbrev pub is_small : Primary → Bool
is_small (IntegerOperand literal) = nat_lt literal.value (2 ^ 127)
is_small _ = true

-- the expressions of a declaration: the value of a constant, or the bounds and dimensions
abbrev pub expressions_of : What → List Expression
expressions_of (IsConstant constant) = constant.value ∷ []
expressions_of what = map (λ b. b.value) (bounds 0 what)

-- each literal of each expression of the declaration
abbrev pub has_small : Declaration → Bool
has_small d = list_all (λ e. list_all is_small (operands e)) (expressions_of d.what)

-- so of all declarations
abbrev pub AreSmall : List Declaration → Type 0
AreSmall all = IsTrue (list_all has_small all)
