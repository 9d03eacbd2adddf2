-- The service before the first line of a script, and behind the last one.
use Rattle.std.proofs.Common.{ℕ, ◌≡◌, true, List, Option, sym, subst}
use Rattle.std.specs.Prelude.{is_some}
use Rattle.pss_disk.specs.Moments.{Disk, IsSettled, Moment}
use Rattle.type_layout.specs.declared.schema.Schema.{Schema}
use Rattle.pss_catalog.specs.Catalog.{Catalog}
use Rattle.pss_machine.specs.declared.limits.Limits.{Limits}
use Rattle.pss_machine.specs.Kept.{first_kept}
use Rattle.pss_recovery.specs.Laws.{MountedStands}
use Rattle.pss_recovery.specs.declared.mounting.Mounted.{Mounted}
use Rattle.pss_recovery.specs.declared.parts.Parts.{Parts as Store}
use Rattle.connector.specs.declared.connector.Connector.{Connector}
use Rattle.connector.specs.Keeping.{HasObjects, Keeps, schema_of, limits_of, store_of, performed_by, is_live}
use Rattle.script_service.specs.declared.daemon.Daemon.{Daemon}
use Rattle.line_service.specs.Runs.{Comes}
use Rattle.script_service.specs.Turns.{Running, script_limits, start, turn_from}
use Rattle.script_service.specs.Keeping.{IsFirst, IsHeld, OnlyStandsFor, Passes}
use Rattle.script_service.specs.Going.{IsIn, Serves, connector_of, served_by}
use Rattle.script_service.proofs.Ended.{comes_weaker}
use Rattle.script_service.proofs.Held.{first_held, only_for}
use Rattle.script_service.proofs.Told.{first_serves}

-- a new connector over what was mounted
pub record IsNew (S : Schema) (limits : Limits) (mounted : Mounted) (c : Connector) : Type 0 where
  pub kept : (M : Catalog) → HasObjects S M mounted → Keeps c (first_kept M mounted.next)
  pub store : store_of c ≡ mounted.store
  pub schema : schema_of c ≡ S
  pub limits_ : limits_of c ≡ limits
  pub performed : performed_by c ≡ 0
  pub live : is_live c ≡ true

-- a daemon over it, that has served no line, is in the first state
pub first_in : (S : Schema) (limits : Limits) (M : Catalog) (mounted : Mounted) (c : Connector) (daemon : Daemon) (content : Option (List ℕ)) (now : Moment) → IsNew S limits mounted c → connector_of daemon ≡ c → served_by daemon ≡ 0
    → IsFirst S M mounted content → IsSettled content now → IsIn daemon (start S limits M mounted.next (is_some content)) content now.disk
first_in S limits M mounted c daemon content now is same none first settled = record {
  serves = subst (λ (d : Connector). Serves d (served_by daemon) (start S limits M mounted.next (is_some content))) (sym same)
      (subst (λ (n : ℕ). Serves c n (start S limits M mounted.next (is_some content))) (sym none)
      (first_serves c S limits M mounted.next (is_some content) (is.kept M first.objects) is.schema is.limits_ is.performed is.live));
  held = subst (λ (d : Connector). IsHeld (start S limits M mounted.next (is_some content)) (store_of d) content now.disk) (sym same)
      (subst (λ (store : Store). IsHeld (start S limits M mounted.next (is_some content)) store content now.disk) (sym is.store) (first_held S limits M mounted content now first settled));
}

-- some daemon is in this state, over a disk that may leave this after a crash
abbrev pub IsInSome : Running → Option Disk → Type 0
IsInSome state disk = (daemon : Daemon) × (content : Option (List ℕ)) × IsIn daemon state content disk

-- so the only image stands for what is kept and stored
in_some_only : MountedStands → (state : Running) (disk : Option Disk) → IsInSome state disk → OnlyStandsFor state disk
in_some_only law state disk there = only_for law state (store_of (connector_of there.0)) there.1 disk there.2.held

pub comes_only : MountedStands → (first : Running) (script before : Option (List ℕ)) (m : Moment) (Said : Type 0) → Comes turn_from Passes IsInSome first script_limits script before m × Said → Comes turn_from Passes OnlyStandsFor first script_limits script before m × Said
comes_only law first script before m Said came = (comes_weaker turn_from first script_limits Passes IsInSome OnlyStandsFor (in_some_only law) script before m came.0, came.1)
