use Rattle.std.proofs.Common.{ℕ, ◌≡◌, ◌<◌, ◌^◌, List, drop}
use Rattle.std.specs.Prelude.{◌||◌}
use Rattle.pss_recovery.specs.inner.Claims.{is_in, releases}
use Rattle.pss_recovery.proofs.claims.put_released.Given as goal

abbrev pub invariant-loop-change : goal.invariant-loop-change
invariant-loop-change l = (key : ℕ) (bytes : List ℕ) → key < 2 ^ 32 → (releases (drop l.change-index l.changes) key bytes || is_in l.table key bytes) ≡ (releases l.changes key bytes || is_in l.initial.table key bytes)
