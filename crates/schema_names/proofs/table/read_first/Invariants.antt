use Rattle.std.proofs.Common.{◌≡◌, None, take}
use Rattle.schema_names.specs.Tables.{value_at}
use Rattle.schema_names.proofs.table.read_first.Given as goal

abbrev pub invariant-loop-place : goal.invariant-loop-place
invariant-loop-place g l = value_at (take l.place l.table.entries) l.name ≡ None
