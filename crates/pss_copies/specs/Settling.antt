-- Commits of owners, as the sessions and their entries are left by them.
use Rattle.std.specs.Prelude.{◌≡◌, List, [], ◌∷◌, Some, None, Bool, true, false}
use Rattle.std.specs.List.{list_any}
use Rattle.std.specs.FinMap.{get}
use Rattle.pss_base.specs.declared.pid.Pid.{Pid}
use Rattle.pss_base.specs.declared.owner.OwnerNo.{OwnerNo}
use Rattle.pss_catalog.specs.Catalog.{Object, Catalog}
use Rattle.pss_catalog.specs.Changes.{Change}
use Rattle.pss_machine.specs.declared.session.View.{View}
use Rattle.pss_machine.specs.declared.session.View.TheVariants.{Committed}
use Rattle.pss_machine.specs.Same.{same_pid}
use Rattle.pss_machine.specs.Owners.{Owner, net, is_basic}
use Rattle.pss_machine.specs.Sessions.{first_open}
use Rattle.pss_machine.specs.Kept.{Kept}
use Rattle.incarnations.specs.declared.names.Slot.{Slot}
use Rattle.incarnations.specs.declared.names.Entry.{Entry}
use Rattle.incarnations.specs.Meaning.{body, on_body}
use Rattle.pss_copies.specs.Ruled.{AreOwned}

-- these are the objects of the changes, in the same order, each in the home in which it was committed where it was, and in
-- which it is where it does not go
abbrev pub AreOf : Catalog → List Change → List Pid → Type 0
AreOf M [] [] = Unit {0}
AreOf M (c ∷ cs) (p ∷ ps) = (p.serial ≡ c.serial) × ((x : Object) → get M c.serial ≡ Some x → x.home.0 ≡ p.home) × ((x : Object) → c.state ≡ Some x → x.home.0 ≡ p.home) × AreOf M cs ps
AreOf M _ _ = ⊥

-- an owner that is there, and the objects that its commit changes
pub record Settles (k : Kept) (n : OwnerNo) (pids : List Pid) : Type 0 where
  pub owner : Owner
  pub there : get k.owners n.0 ≡ Some owner
  pub pids_are : AreOf k.catalog (net k.catalog owner) pids
  pub own : AreOwned k.owners k.sessions k.next_owner

-- each object to which the owner gave a value is among these
abbrev pub HasAmong : Owner → List Pid → Type 0
HasAmong owner pids = (pid : Pid) (x : Object) → get owner.changes pid.serial ≡ Some (Some x) → x.home.0 ≡ pid.home → list_any (λ p. same_pid p pid) pids ≡ true

-- it is a transaction with which no session is active or suspended
pub record MayCommit (k : Kept) (n : OwnerNo) (pids : List Pid) : Type 0 where
  pub settles : Settles k n pids
  pub transaction : is_basic settles.owner.level ≡ false
  pub closed : first_open k.sessions n ≡ None

-- it commits what it changed of the first objects, and each to which it gave a value is among the others
pub record MayFlush (k : Kept) (n : OwnerNo) (pids own : List Pid) : Type 0 where
  pub settles : Settles k n pids
  pub covered : HasAmong settles.owner own

-- an entry on the body of one of the objects in a view
abbrev pub on_bodies : View → List Pid → Slot → Entry → Bool
on_bodies view pids x e = list_any (λ pid. on_body (body pid view) x e) pids

-- an entry on the committed body of one of the objects
abbrev pub on_committed : List Pid → Slot → Entry → Bool
on_committed pids x e = on_bodies Committed pids x e
