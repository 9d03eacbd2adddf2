use Rattle.std.proofs.Common.{◌-◌, ◌<◌, length}
use Rattle.pss_catalog.specs.inner.Rows.{bases_in, ArePlaced}
use Rattle.pss_catalog.proofs.table.place_all.Given as goal

abbrev pub invariant-loop-number : goal.invariant-loop-number
invariant-loop-number l = ArePlaced (length l.fn.rows - 1) (bases_in l.fn.rows) l.number l.rows × (0 < l.number)
