-- What an owner's step makes of what is kept.
use Rattle.std.specs.Prelude.{◌≡◌, ◌<◌, Option, Some, None, Result, Ok, Err}
use Rattle.std.specs.FinMap.{len}
use Rattle.std.specs.FinSet as set
use Rattle.pss_base.specs.declared.owner.OwnerNo.{OwnerNo}
use Rattle.type_layout.specs.declared.schema.Schema.{Schema}
use Rattle.type_layout.specs.Sound.{IsSoundSchema}
use Rattle.pss_catalog.specs.Catalog.{Catalog, IsUnique}
use Rattle.pss_machine.specs.Changes.{with_changes}
use Rattle.pss_machine.specs.Owners.{Owner}
use Rattle.owner_view.specs.declared.owned.Owned.{Owned}
use Rattle.tx_session.specs.declared.parts.Parts.{Parts}
use Rattle.owner_view.specs.declared.step.Step.{Step}
use Rattle.owner_view.specs.declared.step.NewState.{NewState}
use Rattle.owner_view.specs.Owned.{changed_by, IsCounted, IsUnder, IsSame, MayPutIn, HasPut}
use Rattle.tx_session.specs.Kept.{owned_at}
use Rattle.tx_session.specs.Owners.{Under, AreOwners}
use Rattle.owner_view.specs.Steps.{MayBePut, changes_put}
use Rattle.owner_view.specs.Views.{seen_with}

-- an owner after a step: it has locked what it needed, and changed what it changed
abbrev pub with_step : Step → Owner → Owner
with_step step owner = record { level = owner.level; locks = set.union owner.locks (set.from_list step.needs); changes = with_changes owner.changes (changes_put step.put) }

-- a step on the view of an owner that is there, which may change one object more
pub record MayTake (S : Schema) (parts : Parts) (n : OwnerNo) (step : Step) : Type 0 where
  pub catalog : Catalog
  pub owned : Owned
  pub sound : IsSoundSchema S
  pub there : owned_at n.0 parts.table ≡ Some owned
  pub unique : IsUnique S (seen_with catalog (changed_by owned))
  pub may : MayBePut S (seen_with catalog (changed_by owned)) step.put
  pub few : len (changed_by owned) < 4294967295
  pub owners : AreOwners parts
  pub under : Under S parts

-- an owner may put what a step on its view puts, and may change one object more
pub record MayChange (owned : Owned) (put : Option NewState) : Type 0 where
  pub schema : Schema
  pub catalog : Catalog
  pub sound : IsSoundSchema schema
  pub unique : IsUnique schema (seen_with catalog (changed_by owned))
  pub under : IsUnder schema owned
  pub may : MayBePut schema (seen_with catalog (changed_by owned)) put
  pub counted : IsCounted owned
  pub few : len (changed_by owned) < 4294967295

-- it has put it
pub record HasStepped (put : Option NewState) (old new : Owned) : Type 0 where
  pub level : new.level ≡ old.level
  pub changes : changed_by new ≡ with_changes (changed_by old) (changes_put put)
  pub counted : IsCounted new
  pub under : (may : MayChange old put) → IsUnder may.schema new

-- or memory lacked, and all that can be told of it is as before
abbrev pub HasTaken : {A E : Type 0} → Result A E → Option NewState → Owned → Owned → Type 0
HasTaken (Ok a) put old new = HasStepped put old new
HasTaken (Err e) put old new = IsSame old new

-- what a step puts, where it puts something, may be put
abbrev pub MaySettle : Owned → Option NewState → Type 0
MaySettle owned None = Unit {0}
MaySettle owned (Some put) = MayPutIn owned put

-- it has been put
abbrev pub HasSettled : Owned → Owned → Option NewState → Type 0
HasSettled old new None = new ≡ old
HasSettled old new (Some put) = HasPut old new put
