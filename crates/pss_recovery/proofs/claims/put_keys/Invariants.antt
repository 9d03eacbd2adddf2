use Rattle.std.proofs.Common.{ℕ, ◌≡◌, ◌<◌, ◌^◌, List, drop}
use Rattle.pss_recovery.specs.inner.Claims.{is_in, with_pairs}
use Rattle.pss_recovery.proofs.claims.put_keys.Given as goal

abbrev pub invariant-loop-pair : goal.invariant-loop-pair
invariant-loop-pair l = (key : ℕ) (bytes : List ℕ) → key < 2 ^ 32 → with_pairs (drop l.pair-index l.pairs) (is_in l.table) key bytes ≡ with_pairs l.pairs (is_in l.initial.table) key bytes
