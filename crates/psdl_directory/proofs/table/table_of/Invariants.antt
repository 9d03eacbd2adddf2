use Rattle.std.proofs.Common.{take}
use Rattle.psdl_directory.specs.inner.Tables.{Tabulates}
use Rattle.psdl_directory.proofs.table.table_of.Given as goal

abbrev pub invariant-loop-i : goal.invariant-loop-i
invariant-loop-i l = Tabulates l.table (take l.i l.keys)
