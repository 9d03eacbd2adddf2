use Rattle.std.proofs.Common.{ℕ, ◌≡◌, List, Some, false, drop, cond}
use Rattle.storage_home.specs.Indexes.{found_at, is_key_reserved, lists, MayPut}
use Rattle.storage_home.proofs.indexes.put_all.Given as goal

abbrev pub invariant-loop-key : goal.invariant-loop-key
invariant-loop-key l =
    ((key : ℕ) (bytes : List ℕ) → cond (lists (drop l.key-index l.pairs) key bytes) (Some l.serial) (found_at l.indexes key bytes) ≡ cond (lists l.pairs key bytes) (Some l.serial) (found_at l.initial.indexes key bytes))
    × ((key : ℕ) (bytes : List ℕ) → cond (lists (drop l.key-index l.pairs) key bytes) false (is_key_reserved l.indexes key bytes) ≡ cond (lists l.pairs key bytes) false (is_key_reserved l.initial.indexes key bytes))
    × MayPut l.indexes (drop l.key-index l.pairs)
