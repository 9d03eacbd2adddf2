use Rattle.std.proofs.Common.{◌≡◌, ◌≤◌, take, length}
use Rattle.table_hash.specs.Numbers.{word_of}
use Rattle.table_hash.proofs.number_hasher.word_of.Given as goal

abbrev pub invariant-loop-i : goal.invariant-loop-i
invariant-loop-i l = (l.i ≤ length l.bytes) × (l.word ≡ word_of (take l.i l.bytes))
