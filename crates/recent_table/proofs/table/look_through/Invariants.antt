use Rattle.std.proofs.Common.{◌≡◌}
use Rattle.std.specs.Map.{lookup}
use Rattle.recent_table.proofs.table.look_through.Given as goal

abbrev pub invariant-loop-there : goal.invariant-loop-there
invariant-loop-there g l = lookup (g.K.PartialEq.eq l.key) l.there-iterator ≡ lookup (g.K.PartialEq.eq l.key) l.table.entries
