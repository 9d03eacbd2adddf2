use Rattle.std.proofs.Common.{◌≡◌, ◌<◌, length}
use Rattle.pss_catalog.specs.inner.Table.{IsOrdered}
use Rattle.pss_catalog.specs.inner.Rows.{place_of, home_at_place}
use Rattle.pss_catalog.proofs.table.put_all.Given as goal

abbrev pub invariant-loop-number : goal.invariant-loop-number
invariant-loop-number l = (length l.order ≡ length l.fn.order) × IsOrdered l.number (place_of l.rows) (home_at_place l.order) × (0 < l.number)
