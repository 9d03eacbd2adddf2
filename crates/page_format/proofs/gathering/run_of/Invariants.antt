use Rattle.std.proofs.Common.{ℕ, ◌≡◌, ◌+◌, ◌-◌, ◌<◌, ◌≤◌, get_or, length}
use Rattle.page_format.proofs.gathering.run_of.Given as goal

abbrev pub invariant-loop-count : goal.invariant-loop-count
invariant-loop-count l = record {
  some : 0 < l.count;
  within : l.count ≤ length l.slots;
  most : l.count ≤ l.most;
  run : (i : ℕ) → i < l.count → get_or l.slots i 0 ≡ get_or l.slots 0 0 + i;
}

abbrev pub decreases-loop-count : goal.decreases-loop-count
decreases-loop-count l = length l.slots - l.count
