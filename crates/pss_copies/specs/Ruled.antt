-- What holds in every run of sessions, their owners and the homes of objects, and on which copies rest.
use Rattle.std.specs.Prelude.{ℕ, ◌≡◌, ◌<◌, ◌≤◌, List, Some, None}
use Rattle.std.specs.FinMap.{get}
use Rattle.pss_base.specs.declared.owner.OwnerNo.{OwnerNo}
use Rattle.type_layout.specs.declared.schema.Schema.{Schema}
use Rattle.type_layout.specs.Types.{PlainValue}
use Rattle.pss_catalog.specs.Catalog.{Object, Catalog, IsUnique}
use Rattle.pss_machine.specs.declared.limits.Limits.{Limits}
use Rattle.pss_machine.specs.declared.session.Kind.TheVariants.{Basic}
use Rattle.pss_machine.specs.declared.session.Association.TheVariants.{NoTransaction}
use Rattle.pss_machine.specs.Owners.{Owner, Owners, view, is_basic}
use Rattle.pss_machine.specs.Sessions.{Session, Sessions, owner_of, is_basic as is_basic_session}
use Rattle.pss_machine.specs.Copies.{Copies, Entry, Copied, entry_numbered}
use Rattle.pss_machine.specs.Kept.{Kept}
use Rattle.pss_machine.specs.Entries.{AreOrderly}
use Rattle.pss_machine.specs.Run.{Said, first, run}
use Rattle.pss_laws.specs.Sound.{NoneFrom}

-- the owner of a session is there: a basic one where the session is basic, else a transaction
pub record IsOwned (owners : Owners) (session : Session) (n : OwnerNo) : Type 0 where
  pub owner : Owner
  pub there : get owners n.0 ≡ Some owner
  pub kind : is_basic owner.level ≡ is_basic_session session

-- owners and sessions, with the number of the next owner
pub record AreOwned (owners : Owners) (sessions : Sessions) (next : ℕ) : Type 0 where
  pub each : (s : ℕ) (session : Session) (n : OwnerNo) → get sessions s ≡ Some session → owner_of session ≡ Some n → IsOwned owners session n
  -- no two basic sessions are one owner
  pub apart : (s t : ℕ) (x y : Session) (n : OwnerNo) → get sessions s ≡ Some x → get sessions t ≡ Some y → x.kind ≡ Basic n → y.kind ≡ Basic n → s ≡ t
  -- a basic session is in no transaction
  pub alone : (s : ℕ) (session : Session) (n : OwnerNo) → get sessions s ≡ Some session → session.kind ≡ Basic n → session.association ≡ NoTransaction
  -- no owner has the next number or a higher one
  pub fresh : (n : ℕ) → next ≤ n → get owners n ≡ None

-- The objects that anyone sees under one serial are of one home, in the catalog, in an owner's view and in a session's own
-- copy. The serials of copies were given.
pub record HomesAgree (k : Kept) : Type 0 where
  pub home : ℕ → ℕ
  pub catalog : (s : ℕ) (x : Object) → get k.catalog s ≡ Some x → x.home.0 ≡ home s
  pub views : (n : ℕ) (owner : Owner) (s : ℕ) (x : Object) → get k.owners n ≡ Some owner → get (view k.catalog owner) s ≡ Some x → x.home.0 ≡ home s
  pub own : (t n : ℕ) (copies : Copies) (e : Entry) (values : List PlainValue) → get k.copies t ≡ Some copies → entry_numbered copies n ≡ Some e → e.stand ≡ Copied values
      → (e.pid.home ≡ home e.pid.serial) × (e.pid.serial < k.next)

-- the entries of each session are in order
abbrev pub AreInOrder : Kept → Type 0
AreInOrder k = (s : ℕ) (copies : Copies) → get k.copies s ≡ Some copies → AreOrderly copies

-- in every run
abbrev pub SessionsAreOwned : Type 0
SessionsAreOwned = (S : Schema) (limits : Limits) (M : Catalog) (next : ℕ) (lines : List Said)
    → AreOwned (run S limits (first M next) lines).kept.owners (run S limits (first M next) lines).kept.sessions (run S limits (first M next) lines).kept.next_owner

-- in every run from a catalog with unique keys that has only serials which were given
abbrev pub HomesAlwaysAgree : Type 0
HomesAlwaysAgree = (S : Schema) (limits : Limits) (M : Catalog) (next : ℕ) (lines : List Said) → IsUnique S M → NoneFrom next M → HomesAgree (run S limits (first M next) lines).kept
