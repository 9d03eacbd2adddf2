use Rattle.std.proofs.Common.{take}
use Rattle.schema_names.specs.inner.Homes.{AreNamesOfAll}
use Rattle.schema_names.proofs.named.names_of_all.Given as goal

abbrev pub invariant-loop-i : goal.invariant-loop-i
invariant-loop-i l = AreNamesOfAll l.schema.keys (take l.i l.schema.homes) l.all.items
