-- What a hash by multiplication comes to.
use Rattle.std.specs.Prelude.{ℕ, List, fold, ◌*◌, ◌/◌, ◌%◌, ◌^◌, bit_or, bit_xor}
use Rattle.table_hash.specs.declared.number_hasher.NumberHasher.{NumberHasher}

abbrev pub initial : NumberHasher
initial = record { state = 0x243f_6a88_85a3_08d3 }

-- a word of 64 bits into whose high end a byte comes, so that its lowest goes
abbrev pub shifted : ℕ → ℕ → ℕ
shifted word byte = bit_or (word / 2 ^ 8) ((byte * 2 ^ 56) % 2 ^ 64)

-- bytes as one word, the last of them highest
abbrev pub word_of : List ℕ → ℕ
word_of bytes = fold shifted 0 bytes

-- a state with a word, multiplied
abbrev pub mixed : ℕ → ℕ → ℕ
mixed state word = (bit_xor state word * 0x9e37_79b9_7f4a_7c15) % 2 ^ 64

-- the state after a write
abbrev pub fed : NumberHasher → List ℕ → NumberHasher
fed s bytes = record { state = mixed s.state (word_of bytes) }
