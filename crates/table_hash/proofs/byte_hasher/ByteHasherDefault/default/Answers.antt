use Rattle.std.proofs.Common.{refl}
use Rattle.std.specs.Hash.DefaultHasher.{initial}
use Rattle.table_hash.proofs.byte_hasher.ByteHasherDefault.default.Goals as goal

pub returns : goal.returns
unfolding initial
returns c = refl
