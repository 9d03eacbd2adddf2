use Rattle.std.proofs.Common.{sym, ◌∙◌}
use Rattle.psdl_standings.proofs.Operators.{expression_not_alone}
use Rattle.psdl_standings.proofs.alone.lone_xor.Goals as goal

pub returns : goal.returns
returns c = expression_not_alone c.args.expression.now (sym c.is_empty.ensures ∙ c.if-is_empty.false)
