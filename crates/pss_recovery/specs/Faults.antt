-- When an answer is a fault of the disk.
use Rattle.std.specs.Prelude.{Bool, true, false, Result, Ok, Err}
use Rattle.pss_recovery.specs.declared.fault.InitFault.{InitFault}
use Rattle.pss_recovery.specs.declared.fault.InitFault.TheVariants as init
use Rattle.pss_recovery.specs.declared.fault.MountFault.{MountFault}
use Rattle.pss_recovery.specs.declared.fault.MountFault.TheVariants as mount

abbrev pub is_init_disk_fault : {T : Type 0} → Result T InitFault → Bool
is_init_disk_fault (Ok t) = false
is_init_disk_fault (Err init.NotEmpty) = false
is_init_disk_fault (Err init.DiskFault) = true
is_init_disk_fault (Err init.NoMemory) = false

abbrev pub is_mount_disk_fault : {T : Type 0} → Result T MountFault → Bool
is_mount_disk_fault (Ok t) = false
is_mount_disk_fault (Err mount.NotAStore) = false
is_mount_disk_fault (Err (mount.ShapeDiffers home)) = false
is_mount_disk_fault (Err (mount.Damaged at k)) = false
is_mount_disk_fault (Err mount.DiskFault) = true
is_mount_disk_fault (Err mount.NoMemory) = false
