use Rattle.std.proofs.Common.{sym, ap, ◌∙◌}
use Rattle.psdl_standings.specs.Expressions.{unary_place}
use Rattle.psdl_standings.proofs.Beginning.{operand_begins}
use Rattle.psdl_standings.proofs.places.expression_place.Goals as goal

pub returns : goal.returns
returns c = c.unary_place.ensures ∙ ap unary_place (sym (operand_begins c.args.expression.now))
