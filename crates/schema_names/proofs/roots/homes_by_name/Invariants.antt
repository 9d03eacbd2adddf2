use Rattle.std.proofs.Common.{take}
use Rattle.schema_names.specs.Tables.{Finds}
use Rattle.schema_names.specs.Found.{home_called}
use Rattle.schema_names.proofs.roots.homes_by_name.Given as goal

abbrev pub invariant-loop-i : goal.invariant-loop-i
invariant-loop-i l = Finds l.table.entries (home_called (take l.i l.homes))
