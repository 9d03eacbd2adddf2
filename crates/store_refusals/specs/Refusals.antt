-- What mounting answers where a store is refused, and where it comes to no answer.
use Rattle.pss_base.specs.declared.stop.StoreStop.{StoreStop}
use Rattle.pss_base.specs.declared.stop.StoreStop.TheVariants as stop
use Rattle.pss_recovery.specs.declared.fault.MountFault.{MountFault}
use Rattle.pss_recovery.specs.declared.fault.MountFault.TheVariants as mount
use Rattle.store_refusals.specs.declared.refusals.StoreRefusal.{StoreRefusal}
use Rattle.store_refusals.specs.declared.refusals.StoreRefusal.TheVariants.{NotAStore, ShapeDiffers, Damaged}

-- the fault with which a store is refused
abbrev pub fault_of : StoreRefusal → MountFault
fault_of NotAStore = mount.NotAStore
fault_of (ShapeDiffers home) = mount.ShapeDiffers home
fault_of (Damaged at k) = mount.Damaged at k

-- the fault where it is not the store that is at fault
abbrev pub fault_of_stop : StoreStop → MountFault
fault_of_stop stop.DiskFault = mount.DiskFault
fault_of_stop stop.NoMemory = mount.NoMemory
