-- Entries of sessions, and the bodies that they stand on.
use Rattle.std.specs.Prelude.{ℕ, ◌+◌, ◌==◌, ◌&&◌, not, List, [], ◌∷◌, ◌++◌, map, filter, find, length, Option, Some, None, Bool, true, false, if◌then◌else◌}
use Rattle.std.specs.List.{flat_map}
use Rattle.std.specs.Ordering.{nat_cmp}
use Rattle.std.specs.FinMap.{FinMap, get, entries}
use Rattle.pss_base.specs.declared.pid.Pid.{Pid}
use Rattle.pss_base.specs.declared.owner.OwnerNo.{OwnerNo}
use Rattle.pss_base.specs.declared.session.SessionNo.{SessionNo}
use Rattle.type_layout.specs.Types.{PlainValue}
use Rattle.type_layout.specs.Schemas.{given}
use Rattle.pss_catalog.specs.Catalog.{Catalog}
use Rattle.pss_machine.specs.declared.session.View.{View}
use Rattle.pss_machine.specs.declared.session.View.TheVariants.{Committed, Own, Kept}
use Rattle.pss_machine.specs.Maps.{each, distinct}
use Rattle.pss_machine.specs.Same.{same_pid}
use Rattle.pss_machine.specs.Owners.{Owners, has_changed}
use Rattle.pss_machine.specs.Sessions.{Session, Sessions, is_basic, owner_of}
use Rattle.pss_machine.specs.Alone.{object_of}

-- what an entry stands on: nothing, the body that all have who see the object alike, or a copy of its session's own
pub data Stand : Type 0 where
  Loose : Stand
  Shared : Stand
  Copied : (values : List PlainValue) → Stand

-- what a session calls an object, and how often it has obtained it
pub record Entry : Type 0 where
  pub number : ℕ
  pub pid : Pid
  pub count : ℕ
  pub stand : Stand

-- the last number that was given to an entry, and the entries in the order of their numbers
pub record Copies : Type 0 where
  pub last : ℕ
  pub entries : List Entry

-- of each session, by its number
abbrev pub AllCopies : Type 0
AllCopies = FinMap nat_cmp Copies

abbrev pub no_copies : Copies
no_copies = record { last = 0; entries = [] }

-- ---- entries

abbrev pub entry_numbered : Copies → ℕ → Option Entry
entry_numbered copies n = find (λ e. e.number == n) copies.entries

abbrev pub entry_for : Copies → Pid → Option Entry
entry_for copies pid = find (λ e. same_pid e.pid pid) copies.entries

-- the number of the entry for an object, or of the one that comes next
abbrev pub number_for : Copies → Pid → ℕ
number_for copies pid = given (entry_for copies pid) (copies.last + 1) (λ e. e.number)

abbrev pub with_count : ℕ → Entry → Entry
with_count n e = record { number = e.number; pid = e.pid; count = n; stand = e.stand }

abbrev pub with_stand : Stand → Entry → Entry
with_stand stand e = record { number = e.number; pid = e.pid; count = e.count; stand = stand }

-- the entry of a number is another
abbrev pub at_entry : ℕ → (Entry → Entry) → Copies → Copies
at_entry n f copies = record { last = copies.last; entries = map (λ e. if e.number == n then f e else e) copies.entries }

abbrev pub without_entry : ℕ → Copies → Copies
without_entry n copies = record { last = copies.last; entries = filter (λ e. not (e.number == n)) copies.entries }

-- the object is obtained once more, by its entry or else by a new one
abbrev pub obtained : Pid → Copies → Copies
obtained pid copies =
    given (entry_for copies pid)
    (record { last = copies.last + 1; entries = copies.entries ++ record { number = copies.last + 1; pid = pid; count = 1; stand = Loose } ∷ [] })
    (λ e. at_entry e.number (with_count (e.count + 1)) copies)

abbrev pub is_attached : Entry → Bool
is_attached e = stands e.stand
  where
    stands : Stand → Bool
    stands Loose = false
    stands Shared = true
    stands (Copied values) = true

-- ---- bodies

-- a body by its name: an object in a view
pub record Body : Type 0 where
  pub pid : Pid
  pub view : View

abbrev pub same_view : View → View → Bool
same_view Committed Committed = true
same_view (Own m) (Own n) = m.0 == n.0
same_view (Kept s) (Kept t) = s.0 == t.0
same_view _ _ = false

abbrev pub same_body : Body → Body → Bool
same_body x y = same_pid x.pid y.pid && same_view x.view y.view

-- the owner is there and has changed the object
abbrev pub is_changed_by : Owners → OwnerNo → Pid → Bool
is_changed_by owners n pid = given (get owners n.0) false (λ owner. has_changed owner pid.serial)

-- where its owner has not changed an object: as kept where the session is basic, else as committed
abbrev pub unchanged_in : SessionNo → Session → View
unchanged_in s session = if is_basic session then Kept s else Committed

-- in which view a session sees an object: its owner's own where that has changed it
abbrev pub view_in : Owners → SessionNo → Session → Pid → View
view_in owners s session pid = given (owner_of session) (unchanged_in s session) (λ n. if is_changed_by owners n pid then Own n else unchanged_in s session)

abbrev pub body_in : Owners → SessionNo → Session → Pid → Body
body_in owners s session pid = record { pid = pid; view = view_in owners s session pid }

-- the names of the bodies that these entries stand on
abbrev pub names_in : (Pid → Body) → List Entry → List Body
names_in body es = map (λ e. body e.pid) (filter is_attached es)

-- of all entries that stand on a body, its name
abbrev pub names : Owners → Sessions → AllCopies → List Body
names owners sessions all = flat_map of_session (entries all)
  where
    of_session : ℕ × Copies → List Body
    of_session e = given (get sessions e.0) [] (λ session. names_in (body_in owners (record { 0 = e.0 }) session) e.1.entries)

-- each body once
abbrev pub bodies : List Body → List Body
bodies = distinct same_body

-- how many entries stand on a body
abbrev pub body_count : List Body → Body → ℕ
body_count all body = length (filter (same_body body) all)

abbrev pub values_at : Catalog → Pid → Option (List PlainValue)
values_at M pid = given (object_of M pid) None (λ object. Some object.values)

-- ---- attaching and detaching

-- what an entry stands on that comes to stand on the body of a view
abbrev pub stand_in : Catalog → Pid → View → Stand
stand_in M pid Committed = Shared
stand_in M pid (Own n) = Shared
stand_in M pid (Kept s) = given (values_at M pid) Loose Copied

-- the entry stands on a body, on the one where it stands already or else on the one of the view
abbrev pub attached : Catalog → (Pid → View) → Entry → Entry
attached M seen e = if is_attached e then e else with_stand (stand_in M e.pid (seen e.pid)) e

-- the entries that stand on a body which passes a test stand on none
abbrev pub detached_from : (Pid → Body) → (Body → Bool) → Copies → Copies
detached_from body test copies = record { last = copies.last; entries = map (λ e. if is_attached e && test (body e.pid) then with_stand Loose e else e) copies.entries }

-- the same in all sessions, by a test of the session and the body
abbrev pub detached : Owners → Sessions → (SessionNo → Session → Body → Bool) → AllCopies → AllCopies
detached owners sessions test all = each in_session all
  where
    in_session : ℕ → Copies → Copies
    in_session s copies = given (get sessions s) copies (λ session. detached_from (body_in owners (record { 0 = s }) session) (test (record { 0 = s }) session) copies)
