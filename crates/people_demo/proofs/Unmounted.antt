-- What a demonstration comes to whose store is not mounted.
use Rattle.std.proofs.Common.{◌≡◌, refl}
use Rattle.pss_base.specs.declared.stop.StoreStop.{StoreStop}
use Rattle.pss_base.specs.declared.stop.StoreStop.TheVariants as store
use Rattle.store_refusals.specs.Refusals.{fault_of, fault_of_stop}
use Rattle.store_refusals.specs.declared.refusals.StoreRefusal.{StoreRefusal}
use Rattle.store_refusals.specs.declared.refusals.StoreRefusal.TheVariants as refusal
use Rattle.people_demo.specs.inner.Begun.{of_mount, of_store}
use Rattle.people_demo.specs.declared.demo.DemoStop.TheVariants as stop

pub refused : (why : StoreRefusal) → of_mount (fault_of why) ≡ stop.Refused why
refused refusal.NotAStore = refl
refused (refusal.ShapeDiffers home) = refl
refused (refusal.Damaged at k) = refl

pub stopped : (why : StoreStop) → of_mount (fault_of_stop why) ≡ of_store why
stopped store.DiskFault = refl
stopped store.NoMemory = refl
