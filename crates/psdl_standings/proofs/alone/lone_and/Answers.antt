use Rattle.std.proofs.Common.{sym, ◌∙◌}
use Rattle.psdl_standings.proofs.Operators.{xor_not_alone}
use Rattle.psdl_standings.proofs.alone.lone_and.Goals as goal

pub returns : goal.returns
returns c = xor_not_alone c.args.xor.now (sym c.is_empty.ensures ∙ c.if-is_empty.false)
