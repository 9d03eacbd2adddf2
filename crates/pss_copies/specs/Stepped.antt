-- A step of an owner, as the sessions and their entries are left by it.
use Rattle.std.specs.Prelude.{ℕ, ◌≡◌, List, [], ◌∷◌, Option, Some, None, false}
use Rattle.std.specs.FinMap.{get}
use Rattle.pss_base.specs.declared.pid.Pid.{Pid}
use Rattle.pss_base.specs.declared.owner.OwnerNo.{OwnerNo}
use Rattle.pss_base.specs.declared.session.SessionNo.{SessionNo}
use Rattle.type_layout.specs.Types.{PlainValue}
use Rattle.pss_catalog.specs.Catalog.{Object}
use Rattle.pss_machine.specs.Operations.{Set, Destroy, Done}
use Rattle.pss_machine.specs.Alone.{object_of}
use Rattle.pss_machine.specs.Owners.{Owner, Step, view}
use Rattle.pss_machine.specs.Sessions.{Session, owner_of}
use Rattle.pss_machine.specs.Copies.{Body, detached}
use Rattle.pss_machine.specs.Kept.{Kept}
use Rattle.pss_machine.specs.Moving.{owners_after, is_outdated}

-- the owner has taken the step, and the entries that it outdates stand on no body; nothing is attached yet
abbrev pub left_by : Kept → OwnerNo → Step → Kept
left_by k n step = record k { owners = owners_after k n step; copies = detached k.owners k.sessions (is_outdated n step) k.copies }

-- the step changes the object of a pid, which the owner sees, and nothing else
pub record ChangesAt (k : Kept) (n : OwnerNo) (step : Step) (p : Pid) (state : Option Object) : Type 0 where
  pub owner : Owner
  pub there : get k.owners n.0 ≡ Some owner
  pub before : Object
  pub seen : object_of (view k.catalog owner) p ≡ Some before
  pub own : step.own ≡ record { serial = p.serial; state = state } ∷ []
  pub answer : step.answer ≡ Done

-- it gives the object these values
pub record SetsAt (k : Kept) (n : OwnerNo) (step : Step) (p : Pid) (values : List PlainValue) : Type 0 where
  pub object : Object
  pub changes : ChangesAt k n step p (Some object)
  pub home : object.home ≡ changes.before.home
  pub values_are : object.values ≡ values
  pub member : ℕ
  pub value : PlainValue
  pub op : step.op ≡ Set p member value

-- it takes the object away
pub record DestroysAt (k : Kept) (n : OwnerNo) (step : Step) (p : Pid) : Type 0 where
  pub changes : ChangesAt k n step p None
  pub op : step.op ≡ Destroy p

-- no body of any session is outdated by it
abbrev pub OutdatesNone : OwnerNo → Step → Type 0
OutdatesNone n step = (s : SessionNo) (session : Session) (body : Body) → is_outdated n step s session body ≡ false

-- no session belongs to the owner
abbrev pub OwnsNone : Kept → OwnerNo → Type 0
OwnsNone k n = (s : ℕ) (session : Session) → get k.sessions s ≡ Some session → owner_of session ≡ Some n → ⊥
