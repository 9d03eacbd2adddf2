use Rattle.std.specs.Hash.DefaultHasher.{write_word}
use Rattle.table_hash.proofs.byte_hasher.ByteHasher.write_word.Goals as goal

pub returns : goal.returns
unfolding write_word
returns c = simp c.round.ensures
