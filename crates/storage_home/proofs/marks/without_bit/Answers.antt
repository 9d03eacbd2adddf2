use Rattle.storage_home.proofs.Marking.{bit_cleared}
use Rattle.storage_home.proofs.marks.without_bit.Goals as goal

pub returns : goal.returns
returns c = bit_cleared c.args.bits c.args.place c.requires
