use Rattle.std.proofs.Common.{◌∙◌}
use Rattle.psdl_check.proofs.Lining.{homes_length}
use Rattle.psdl_check.proofs.line_lengths.reference_length.Goals as goal

pub returns : goal.returns
returns c = c.with_homes.ensures ∙ rw c.of-2.ensures (homes_length c.args.homes.now c.is_empty.result c.is_empty.ensures c.if-is_empty.false)
