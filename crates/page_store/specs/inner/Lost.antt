-- When a checkpoint is not laid out.
use Rattle.std.specs.Prelude.{Bool, true, false, Result, Ok, Err}
use Rattle.page_store.specs.declared.stop.PlanStop.{PlanStop}
use Rattle.page_store.specs.declared.stop.PlanStop.TheVariants as stop

abbrev pub is_plan_disk_fault : {T : Type 0} → Result T PlanStop → Bool
is_plan_disk_fault (Ok t) = false
is_plan_disk_fault (Err stop.DiskFault) = true
is_plan_disk_fault (Err stop.NoMemory) = false
is_plan_disk_fault (Err stop.Lost) = false
