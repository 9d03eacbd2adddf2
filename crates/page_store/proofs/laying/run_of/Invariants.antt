use Rattle.std.proofs.Common.{◌-◌, ◌<◌, ◌≤◌, get_or, length, take}
use Rattle.page_store.specs.Switch.{slots_of}
use Rattle.page_store.specs.inner.Laying.{IsRun}
use Rattle.page_store.proofs.laying.run_of.Given as goal

abbrev pub invariant-loop-count : goal.invariant-loop-count
invariant-loop-count l = record {
  some : 0 < l.count;
  within : l.count ≤ length l.pages;
  most : l.count ≤ 8;
  run : IsRun (get_or (slots_of l.pages) 0 0) (take l.count l.pages);
}

abbrev pub decreases-loop-count : goal.decreases-loop-count
decreases-loop-count l = length l.pages - l.count
