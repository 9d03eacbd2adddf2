use Rattle.std.proofs.lemmas.Nat.{one_shl}
use Rattle.storage_home.proofs.chunk.bit_of.Goals as goal

pub returns : goal.returns
returns c = one_shl c.args.place 64 c.requires
