use Rattle.std.proofs.Common.{sym, ◌∙◌}
use Rattle.psdl_standings.proofs.Operators.{shift_not_alone}
use Rattle.psdl_standings.proofs.alone.lone_sum.Goals as goal

pub returns : goal.returns
returns c = shift_not_alone c.args.shift.now (sym c.is_empty.ensures ∙ c.if-is_empty.false)
