use Rattle.std.proofs.Common.{sym, ◌∙◌}
use Rattle.psdl_standings.proofs.Operators.{sum_not_alone}
use Rattle.psdl_standings.proofs.alone.lone_product.Goals as goal

pub returns : goal.returns
returns c = sum_not_alone c.args.sum.now (sym c.is_empty.ensures ∙ c.if-is_empty.false)
