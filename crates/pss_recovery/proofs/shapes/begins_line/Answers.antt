use Rattle.std.proofs.Common.{◌-◌, true, sym, arith}
use Rattle.pss_recovery.proofs.HomeLines.{line_is}
use Rattle.pss_recovery.proofs.shapes.begins_line.Goals as goal

pub returns-else-at-eq0 : goal.returns-else-at-eq0
returns-else-at-eq0 c = sym (line_is true c.args.octets.now (c.args.at - 1) c.args.at (omega (arith, c.if-at-eq0.false)) (omega (arith, c.requires)))
