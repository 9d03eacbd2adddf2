use Rattle.std.proofs.Common.{take}
use Rattle.schema_names.specs.Tables.{Finds}
use Rattle.schema_names.specs.Found.{key_called}
use Rattle.schema_names.proofs.members.keys_by_name.Given as goal

abbrev pub invariant-loop-i : goal.invariant-loop-i
invariant-loop-i l = Finds l.table.entries (key_called l.keys (take l.i l.numbers))
