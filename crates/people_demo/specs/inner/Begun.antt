-- How a demonstration begins.
use Rattle.std.specs.Prelude.{ℕ, ◌≡◌, List, length, None, IfSome, is_some}
use Rattle.std.specs.declared.option.Option.{Option}
use Rattle.std.specs.FinMap.{empty}
use Rattle.pss_base.specs.declared.stop.StoreStop.{StoreStop}
use Rattle.pss_base.specs.declared.stop.StoreStop.TheVariants as store
use Rattle.pss_catalog.specs.Catalog.{Catalog}
use Rattle.pss_recovery.specs.Mounted.{IsMounted}
use Rattle.pss_recovery.specs.Stands.{Stands}
use Rattle.pss_recovery.specs.declared.fault.InitFault.{InitFault}
use Rattle.pss_recovery.specs.declared.fault.InitFault.TheVariants as init
use Rattle.pss_recovery.specs.declared.fault.MountFault.{MountFault}
use Rattle.pss_recovery.specs.declared.fault.MountFault.TheVariants as mount
use Rattle.pss_recovery.specs.declared.mounting.Mounted.{Mounted}
use Rattle.commit_saving.specs.Saving.{IfTold}
use Rattle.connector.specs.Keeping.{HasObjects}
use Rattle.store_refusals.specs.Lines.{IsFilled, IsFilledKept, WasEmpty}
use Rattle.store_refusals.specs.declared.refusals.StoreRefusal.TheVariants as refusal
use Rattle.people_demo.specs.People.{people}
use Rattle.people_demo.specs.inner.Showing.{IsShowing, begun}
use Rattle.people_demo.specs.declared.demo.DemoStop.{DemoStop}
use Rattle.people_demo.specs.declared.demo.DemoStop.TheVariants as stop
use Rattle.people_demo.specs.declared.showing.Show.{Show}

-- ---- stops of what lies below

abbrev pub of_store : StoreStop → DemoStop
of_store store.DiskFault = stop.DiskFault
of_store store.NoMemory = stop.NoMemory

abbrev pub of_init : InitFault → DemoStop
of_init init.NotEmpty = stop.NotEmpty
of_init init.DiskFault = stop.DiskFault
of_init init.NoMemory = stop.NoMemory

abbrev pub of_mount : MountFault → DemoStop
of_mount mount.NotAStore = stop.Refused refusal.NotAStore
of_mount (mount.ShapeDiffers home) = stop.Refused (refusal.ShapeDiffers home)
of_mount (mount.Damaged at k) = stop.Refused (refusal.Damaged at k)
of_mount mount.DiskFault = stop.DiskFault
of_mount mount.NoMemory = stop.NoMemory

-- why nothing was shown: of files that have octets, and of stores that are refused though they were made
abbrev pub ShowsNothing : DemoStop → (held holds : Option (List ℕ)) → Type 0
ShowsNothing stop.NotEmpty held holds = IsFilled held × (holds ≡ held)
ShowsNothing (stop.Refused why) held holds = held ≡ None
ShowsNothing stop.DiskFault held holds = IsFilledKept held holds
ShowsNothing stop.SpeakFault held holds = ⊥
ShowsNothing stop.NoMemory held holds = IsFilledKept held holds

-- ---- what was made

-- where the content was told, it had no octets, and it is told and stands for no people
abbrev pub IsNew : (held holds : Option (List ℕ)) → Type 0
IsNew held holds = IfSome held (λ octets. (length octets ≡ 0) × IfTold holds (Stands people empty 1))

-- what is mounted of it: no people, where the content was told
pub record IsMade (held holds : Option (List ℕ)) (mounted : Mounted) : Type 0 where
  pub catalog : Catalog
  pub objects : HasObjects people catalog mounted
  pub was_empty : WasEmpty held
  pub none : IfSome held (λ octets. (catalog ≡ empty) × (mounted.next ≡ 1))
  pub stands : IfSome held (λ octets. IfTold holds (IsMounted people catalog mounted.next mounted.store))

-- a show that has begun
pub record Begins (held holds : Option (List ℕ)) (show : Show) : Type 0 where
  pub catalog : Catalog
  pub next : ℕ
  pub was_empty : WasEmpty held
  pub none : IfSome held (λ octets. (catalog ≡ empty) × (next ≡ 1))
  pub is : IsShowing show (begun catalog next (is_some held)) holds
