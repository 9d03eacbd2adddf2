use Rattle.std.proofs.Common.{take, map}
use Rattle.type_layout.specs.Members.{plain_member}
use Rattle.schema_names.specs.Tables.{Finds}
use Rattle.schema_names.specs.Found.{member_called}
use Rattle.schema_names.proofs.members.members_by_name.Given as goal

abbrev pub invariant-loop-i : goal.invariant-loop-i
invariant-loop-i l = Finds l.table.entries (member_called (map plain_member (take l.i l.members)))
