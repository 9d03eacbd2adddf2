use Rattle.std.proofs.Common.{◌≡◌, ◌-◌, ◌<◌, length}
use Rattle.pss_catalog.specs.inner.Rows.{bases_in, AreCounted}
use Rattle.pss_catalog.proofs.table.count_all.Given as goal

abbrev pub invariant-loop-back : goal.invariant-loop-back
invariant-loop-back l = AreCounted (length l.fn.rows - 1) (bases_in l.fn.rows) (l.count_of_rows - l.back) l.rows × (l.count_of_rows ≡ length l.fn.rows) × (0 < l.back)
