use Rattle.std.proofs.Common.{◌≡◌, ◌++◌, map, drop}
use Rattle.pss_catalog.specs.inner.Rows.{home_row, rows_for}
use Rattle.pss_catalog.proofs.table.rows_of.Given as goal

abbrev pub invariant-loop-home : goal.invariant-loop-home
invariant-loop-home l = l.rows.items ++ map home_row (drop l.home-index l.homes) ≡ rows_for l.homes
