-- Where entries stand, and what is kept there.
use Rattle.std.specs.Prelude.{ℕ, ◌≡◌, List, Some, IsTrue}
use Rattle.std.specs.FinMap.{get}
use Rattle.pss_base.specs.declared.pid.Pid.{Pid}
use Rattle.pss_base.specs.declared.owner.OwnerNo.{OwnerNo}
use Rattle.pss_base.specs.declared.session.SessionNo.{SessionNo}
use Rattle.type_layout.specs.Types.{PlainValue}
use Rattle.pss_catalog.specs.Catalog.{Catalog}
use Rattle.pss_machine.specs.declared.session.View.{View}
use Rattle.pss_machine.specs.declared.session.View.TheVariants.{Committed, Own, Kept as InCopy}
use Rattle.pss_machine.specs.Owners.{Owner, Owners, view}
use Rattle.pss_machine.specs.Sessions.{Session, Sessions}
use Rattle.pss_machine.specs.Copies.{AllCopies, view_in, values_at, number_for, obtained, at_entry, attached}
use Rattle.pss_machine.specs.Kept.{Kept, copies_of}
use Rattle.pss_machine.specs.Maps.{with_at}
use Rattle.pss_machine.specs.Moving.{seen_in}
use Rattle.pss_machine.specs.Attaching.{is_open}
use Rattle.incarnations.specs.declared.names.Slot.{Slot}
use Rattle.incarnations.specs.declared.names.Entry.{Entry}
use Rattle.incarnations.specs.Meaning.{Meaning, body}
use Rattle.pss_copies.specs.declared.parts.Parts.{Parts}
use Rattle.pss_copies.specs.Told.{AreTold}

-- an entry of the session for the object may stand on the view: the session is open, and sees the object so
pub record IsSeat (owners : Owners) (sessions : Sessions) (s : SessionNo) (pid : Pid) (v : View) : Type 0 where
  pub session : Session
  pub there : get sessions s.0 ≡ Some session
  pub goes_on : IsTrue (is_open session)
  pub seen : v ≡ view_in owners s session pid

-- each entry that stands on a body stands on that of the view in which its session sees the object
abbrev pub AreSeated : Owners → Sessions → Meaning → Type 0
AreSeated owners sessions m = (x : Slot) (e : Entry) (v : View) → get m.entries x ≡ Some e → e.view ≡ Some v → IsSeat owners sessions x.session e.pid v

-- the owner is there, and sees the object with these values
pub record OwnerSees (M : Catalog) (owners : Owners) (n : OwnerNo) (pid : Pid) (values : List PlainValue) : Type 0 where
  pub owner : Owner
  pub there : get owners n.0 ≡ Some owner
  pub seen : values_at (view M owner) pid ≡ Some values

-- each body that is shared has the values that the object has in its view
pub record AreValued (M : Catalog) (owners : Owners) (m : Meaning) : Type 0 where
  pub committed : (pid : Pid) (values : List PlainValue) → get m.bodies (body pid Committed) ≡ Some values → values_at M pid ≡ Some values
  pub own : (pid : Pid) (n : OwnerNo) (values : List PlainValue) → get m.bodies (body pid (Own n)) ≡ Some values → OwnerSees M owners n pid values

-- the entries are these, and what they stand on is as these owners and sessions see this catalog
pub record Seats (M : Catalog) (owners : Owners) (sessions : Sessions) (all : AllCopies) (m : Meaning) : Type 0 where
  pub told : AreTold m all
  pub seated : AreSeated owners sessions m
  pub valued : AreValued M owners m

-- the sessions and their entries are those of what the machine keeps
pub record Attends (k : Kept) (a : Parts) : Type 0 where
  pub sessions : a.sessions.sessions ≡ k.sessions
  pub next : a.sessions.next ≡ k.next_session
  pub seats : Seats k.catalog k.owners k.sessions k.copies a.copies

-- ---- entries that come to stand on bodies

-- the body of the view may be shared by entries of several sessions
abbrev pub IsShared : View → Type 0
IsShared Committed = Unit {0}
IsShared (Own n) = Unit {0}
IsShared (InCopy s) = ⊥

-- the object has these values in the view; a session's own copy begins with what is committed
abbrev pub IsRecordIn : Kept → Pid → View → List PlainValue → Type 0
IsRecordIn k pid Committed values = values_at k.catalog pid ≡ Some values
IsRecordIn k pid (Own n) values = OwnerSees k.catalog k.owners n pid values
IsRecordIn k pid (InCopy s) values = values_at k.catalog pid ≡ Some values

-- the entry of this number is attached, where it is not attached already
abbrev pub seated_at : Kept → SessionNo → ℕ → Kept
seated_at k s n = record k { copies = with_at k.copies s.0 (at_entry n (attached k.catalog (seen_in k.owners k.sessions s))) }

-- ---- objects that are obtained

-- the session has obtained the object once more, by the entry of this number
abbrev pub IsObtainedIn : Kept → SessionNo → Pid → ℕ → Parts → Type 0
IsObtainedIn k s pid n a = (n ≡ number_for (copies_of k s) pid) × Attends (record k { copies = with_at k.copies s.0 (obtained pid) }) a
