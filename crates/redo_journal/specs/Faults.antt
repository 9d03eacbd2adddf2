-- When an answer is a fault of the disk.
use Rattle.std.specs.Prelude.{Bool, true, false, Result, Ok, Err}
use Rattle.pss_base.specs.declared.stop.StoreStop.{StoreStop}
use Rattle.pss_base.specs.declared.stop.StoreStop.TheVariants as stop
use Rattle.redo_journal.specs.declared.fault.ReplayFault.{ReplayFault}
use Rattle.redo_journal.specs.declared.fault.ReplayFault.TheVariants as fault

abbrev pub is_disk_stop : {T : Type 0} → Result T StoreStop → Bool
is_disk_stop (Ok t) = false
is_disk_stop (Err stop.DiskFault) = true
is_disk_stop (Err stop.NoMemory) = false

abbrev pub is_disk_fault : {T : Type 0} → Result T ReplayFault → Bool
is_disk_fault (Ok t) = false
is_disk_fault (Err (fault.Damaged at)) = false
is_disk_fault (Err fault.DiskFault) = true
is_disk_fault (Err fault.NoMemory) = false
