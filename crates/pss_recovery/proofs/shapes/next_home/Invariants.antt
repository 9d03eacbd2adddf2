use Rattle.std.proofs.Common.{◌≡◌, ℕ, ◌<◌, ◌≤◌, true, false}
use Rattle.pss_recovery.specs.inner.Lines.{starts_at}
use Rattle.pss_recovery.proofs.shapes.next_home.Given as goal

abbrev pub invariant-loop-at : goal.invariant-loop-at
invariant-loop-at l = (i : ℕ) → l.from ≤ i → i < l.at → starts_at true l.octets i ≡ false
