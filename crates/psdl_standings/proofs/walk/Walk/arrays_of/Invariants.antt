use Rattle.std.proofs.Common.{◌≤◌, length, drop}
use Rattle.psdl_standings.specs.inner.TypeNumbers.{arrays_of}
use Rattle.psdl_standings.specs.inner.TypeTables.{entry_type}
use Rattle.psdl_standings.specs.inner.Walked.{AddsType}
use Rattle.psdl_standings.proofs.walk.Walk.arrays_of.Given as goal

abbrev pub invariant-loop-left : goal.invariant-loop-left
invariant-loop-left l =
    record {
      within : l.left ≤ length l.sizes;
      adds : AddsType l.fn.self l.self (arrays_of (drop l.left l.sizes) (entry_type l.fn.self.types l.fn.item)) l.whole;
    }

abbrev pub decreases-loop-left : goal.decreases-loop-left
decreases-loop-left l = l.left
