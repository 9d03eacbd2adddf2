-- A demonstration that its store has stopped.
use Rattle.std.proofs.Common.{ℕ, ◌≡◌, subst, sym, false, true, List, Option, Err}
use Rattle.pss_base.specs.Causes.{HasCauseIf}
use Rattle.pss_base.specs.declared.stop.StoreStop.{StoreStop}
use Rattle.pss_base.specs.declared.stop.StoreStop.TheVariants as store
use Rattle.page_format.specs.Faults.{is_disk_stop}
use Rattle.store_refusals.specs.Lines.{WasEmpty}
use Rattle.people_demo.specs.Shows.{is_disk_fault}
use Rattle.people_demo.specs.inner.Begun.{ShowsNothing, of_store}
use Rattle.people_demo.specs.declared.demo.DemoStop.{DemoStop}
use Rattle.people_demo.proofs.Beginning.{empty_kept}
use Rattle.people_demo.proofs.Onward.{cause_then}

pub nothing_shown : (stop : StoreStop) (why : DemoStop) (held holds : Option (List ℕ)) → why ≡ of_store stop → WasEmpty held → ShowsNothing why held holds
nothing_shown store.DiskFault why held holds is blank = subst (λ (e : DemoStop). ShowsNothing e held holds) (sym is) (empty_kept held holds blank)
nothing_shown store.NoMemory why held holds is blank = subst (λ (e : DemoStop). ShowsNothing e held holds) (sym is) (empty_kept held holds blank)

pub stopped_by : (T : Type 0) (a b c : ℕ) (stop : StoreStop) (why : DemoStop) → why ≡ of_store stop
    → HasCauseIf a b false → HasCauseIf b c (is_disk_stop {T = Unit {0}} (Err stop)) → HasCauseIf a c (is_disk_fault {T = T} (Err why))
stopped_by T a b c store.DiskFault why is p q = subst (λ (e : DemoStop). HasCauseIf a c (is_disk_fault {T = T} (Err e))) (sym is) (cause_then a b c true p q)
stopped_by T a b c store.NoMemory why is p q = subst (λ (e : DemoStop). HasCauseIf a c (is_disk_fault {T = T} (Err e))) (sym is) (cause_then a b c false p q)
