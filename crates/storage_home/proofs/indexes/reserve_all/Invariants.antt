use Rattle.std.proofs.Common.{ℕ, ◌≡◌, List, true, drop, cond}
use Rattle.storage_home.specs.Indexes.{is_key_reserved, lists, KeepsFound, StayReserved}
use Rattle.storage_home.proofs.indexes.reserve_all.Given as goal

abbrev pub invariant-loop-key : goal.invariant-loop-key
invariant-loop-key l =
    KeepsFound l.initial.indexes l.indexes
    × ((key : ℕ) (bytes : List ℕ) → cond (lists (drop l.key-index l.pairs) key bytes) true (is_key_reserved l.indexes key bytes) ≡ cond (lists l.pairs key bytes) true (is_key_reserved l.initial.indexes key bytes))
    × StayReserved l.initial.indexes l.indexes
