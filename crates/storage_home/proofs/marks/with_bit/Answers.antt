use Rattle.storage_home.proofs.Marking.{bit_set}
use Rattle.storage_home.proofs.marks.with_bit.Goals as goal

pub returns : goal.returns
returns c = bit_set c.args.bits c.args.place c.requires
