use Rattle.storage_home.proofs.Bits.{bit_is}
use Rattle.storage_home.proofs.chunk.has_row.Goals as goal

pub returns : goal.returns
returns c = bit_is c.args.place c.args.present
