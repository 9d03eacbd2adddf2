-- Commits that are made ready.
use Rattle.std.specs.Prelude.{◌≡◌, List, [], ◌∷◌, Some}
use Rattle.std.specs.FinMap.{get}
use Rattle.pss_base.specs.declared.pid.Pid.{Pid}
use Rattle.pss_base.specs.declared.owner.OwnerNo.{OwnerNo}
use Rattle.storage_home.specs.declared.change.Change.{Change}
use Rattle.pss_machine.specs.Owners.{Owner, net}
use Rattle.pss_machine.specs.Kept.{Kept}
use Rattle.owner_accounts.specs.Commits.{IsPrepared}
use Rattle.pss_copies.specs.Settling.{AreOf, HasAmong}
use Rattle.connector_parts.specs.declared.parts.Parts.{Parts}
use Rattle.connector_parts.specs.Stands.{IsAt}
use Rattle.commit_calls.specs.declared.objects.Pids.{Pids}
use Rattle.commit_calls.specs.declared.objects.Pids.TheVariants.{One, Many, Fewer}
use Rattle.commit_calls.specs.declared.ready.Ready.{Ready}

-- the object of a change
abbrev pub pid_of : Change → Pid
pid_of change = record { home = change.put.home; serial = change.put.serial }

-- the objects that the commit changes
abbrev pub pids_in : Pids → List Pid
pids_in (One pid) = pid ∷ []
pids_in (Many pids) = pids.items
pids_in (Fewer pids) = pids.value.net.items

-- those among which are all of which the owner has a value
abbrev pub own_in : Pids → List Pid
own_in (One pid) = pid ∷ []
own_in (Many pids) = pids.items
own_in (Fewer pids) = pids.value.own.items

-- an owner that is there, of what the parts stand for
pub record MayMakeReady (c : Parts) (n : OwnerNo) : Type 0 where
  pub kept : Kept
  pub at : IsAt c kept
  pub owner : Owner
  pub there : get kept.owners n.0 ≡ Some owner

-- what the owner changed is made ready, these are the objects that it changes, and each to which the owner gave a value is among
-- the others
pub record IsReady (c : Parts) (k : Kept) (n : OwnerNo) (ready : Ready) : Type 0 where
  pub owner : Owner
  pub there : get k.owners n.0 ≡ Some owner
  pub commit : IsPrepared c.schema c.accounts k n ready.commit
  pub pids : AreOf k.catalog (net k.catalog owner) (pids_in ready.pids)
  pub own : HasAmong owner (own_in ready.pids)
