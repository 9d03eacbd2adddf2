use Rattle.std.proofs.Common.{sym, ◌∙◌}
use Rattle.psdl_standings.proofs.Operators.{and_not_alone}
use Rattle.psdl_standings.proofs.alone.lone_shift.Goals as goal

pub returns : goal.returns
returns c = and_not_alone c.args.and.now (sym c.is_empty.ensures ∙ c.if-is_empty.false)
