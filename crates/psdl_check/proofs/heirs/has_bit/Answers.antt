use Rattle.psdl_check.proofs.Masks.{tested}
use Rattle.psdl_check.proofs.heirs.has_bit.Goals as goal

pub returns : goal.returns
returns c = tested c.args.mask c.args.bit
