use Rattle.std.proofs.Common.{◌≡◌}
use Rattle.psdl_check.specs.inner.Gathered.{keyed_rows}
use Rattle.psdl_check.proofs.home_keys.keyed.Given as goal

abbrev pub invariant-loop-index : goal.invariant-loop-index
invariant-loop-index l = l.flags.items ≡ keyed_rows l.rows.rows.items l.index
