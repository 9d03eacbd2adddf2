-- A hasher of bytes is std's hasher under another name.
use Rattle.std.specs.Prelude.{ℕ, List, fold}
use Rattle.std.specs.Hash.{le_bytes}
use Rattle.std.specs.Hash.DefaultHasher as sip
use Rattle.std.specs.declared.hash.DefaultHasher.{DefaultHasher}
use Rattle.table_hash.specs.declared.byte_hasher.ByteHasher.{ByteHasher}

-- the hasher of std in the same state
abbrev pub plain : ByteHasher → DefaultHasher
plain s = record { v0 = s.v0; v1 = s.v1; v2 = s.v2; v3 = s.v3; tail = s.tail; length = s.length }

-- the hasher of bytes in the state of one of std
abbrev pub hashing : DefaultHasher → ByteHasher
hashing s = record { v0 = s.v0; v1 = s.v1; v2 = s.v2; v3 = s.v3; tail = s.tail; length = s.length }

-- the state after one byte
abbrev pub fed : ByteHasher → ℕ → ByteHasher
fed s b = hashing (sip.write_byte (plain s) b)

-- the state after bytes
abbrev pub fed_all : ByteHasher → List ℕ → ByteHasher
fed_all s bytes = fold fed s bytes

-- the state after the number i, of n bytes
abbrev pub fed_number : ℕ → ByteHasher → ℕ → ByteHasher
fed_number n s i = fed_all s (le_bytes n i)
