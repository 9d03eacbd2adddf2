use Rattle.table_hash.proofs.byte_hasher.ByteHasherHasher.write_u8.Goals as goal

pub returns : goal.returns
returns c = c.write_byte.ensures
