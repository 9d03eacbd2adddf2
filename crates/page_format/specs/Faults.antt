-- When an answer is a fault of the disk.
use Rattle.std.specs.Prelude.{Bool, true, false, Result, Ok, Err}
use Rattle.pss_base.specs.declared.stop.StoreStop.{StoreStop}
use Rattle.pss_base.specs.declared.stop.StoreStop.TheVariants as stop
use Rattle.page_format.specs.declared.fault.PageFault.{PageFault}
use Rattle.page_format.specs.declared.fault.PageFault.TheVariants as page
use Rattle.page_format.specs.declared.fault.RootFault.{RootFault}
use Rattle.page_format.specs.declared.fault.RootFault.TheVariants as root

abbrev pub is_disk_stop : {T : Type 0} → Result T StoreStop → Bool
is_disk_stop (Ok t) = false
is_disk_stop (Err stop.DiskFault) = true
is_disk_stop (Err stop.NoMemory) = false

abbrev pub is_root_disk_fault : {T : Type 0} → Result T RootFault → Bool
is_root_disk_fault (Ok t) = false
is_root_disk_fault (Err root.NotAStore) = false
is_root_disk_fault (Err (root.Damaged at kind)) = false
is_root_disk_fault (Err root.DiskFault) = true
is_root_disk_fault (Err root.NoMemory) = false

abbrev pub is_page_disk_fault : {T : Type 0} → Result T PageFault → Bool
is_page_disk_fault (Ok t) = false
is_page_disk_fault (Err (page.Damaged at kind)) = false
is_page_disk_fault (Err page.DiskFault) = true
is_page_disk_fault (Err page.NoMemory) = false
