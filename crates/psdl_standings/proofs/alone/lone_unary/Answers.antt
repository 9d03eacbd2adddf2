use Rattle.std.proofs.Common.{sym, ◌∙◌}
use Rattle.psdl_standings.proofs.Operators.{product_not_alone}
use Rattle.psdl_standings.proofs.alone.lone_unary.Goals as goal

pub returns : goal.returns
returns c = product_not_alone c.args.product.now (sym c.is_empty.ensures ∙ c.if-is_empty.false)
