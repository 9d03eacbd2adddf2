use Rattle.std.proofs.Common.{ℕ, ◌≡◌, List, None, drop, cond}
use Rattle.storage_home.specs.Indexes.{found_at, lists, KeepsKeysReserved}
use Rattle.storage_home.proofs.indexes.take_all.Given as goal

abbrev pub invariant-loop-key : goal.invariant-loop-key
invariant-loop-key l =
    ((key : ℕ) (bytes : List ℕ) → cond (lists (drop l.key-index l.pairs) key bytes) None (found_at l.indexes key bytes) ≡ cond (lists l.pairs key bytes) None (found_at l.initial.indexes key bytes))
    × KeepsKeysReserved l.initial.indexes l.indexes
