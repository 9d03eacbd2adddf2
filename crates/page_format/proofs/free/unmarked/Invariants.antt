use Rattle.std.proofs.Common.{◌≤◌, length}
use Rattle.page_format.specs.inner.Freeing.{AreUnmarkedBelow}
use Rattle.page_format.proofs.free.unmarked.Given as goal

abbrev pub invariant-loop-slot : goal.invariant-loop-slot
invariant-loop-slot l = record {
  so_far : AreUnmarkedBelow l.marks l.slot l.free;
  few : length l.free ≤ l.count;
}
