-- Sessions that may start with a transaction.
use Rattle.std.specs.Prelude.{◌==◌, Option, Some, None, if◌then◌else◌}
use Rattle.pss_base.specs.declared.owner.OwnerNo.{OwnerNo}
use Rattle.pss_machine.specs.declared.session.Association.{Association}
use Rattle.pss_machine.specs.declared.session.Association.TheVariants.{NoTransaction, Active, Suspended, Ending}

-- the transaction that keeps a session from starting with this one: any with which it is associated, unless it is suspended with this one itself
abbrev pub held_by : OwnerNo → Association → Option OwnerNo
held_by n NoTransaction = None
held_by n (Active m) = Some m
held_by n (Suspended m) = if m.0 == n.0 then None else Some m
held_by n (Ending m) = Some m
