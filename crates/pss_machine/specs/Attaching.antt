-- Where entries are attached, and by what.
use Rattle.std.specs.Prelude.{ℕ, ◌≡◌, ◌==◌, ◌&&◌, ◌||◌, not, nat_le, List, Some, Bool, true, false, is_some, IsTrue}
use Rattle.std.specs.FinMap.{get}
use Rattle.pss_base.specs.declared.pid.Pid.{Pid}
use Rattle.pss_base.specs.declared.owner.OwnerNo.{OwnerNo}
use Rattle.pss_base.specs.declared.session.SessionNo.{SessionNo}
use Rattle.type_layout.specs.declared.schema.Schema.{Schema}
use Rattle.type_layout.specs.Schemas.{given}
use Rattle.pss_catalog.specs.Catalog.{Catalog}
use Rattle.pss_machine.specs.declared.limits.Limits.{Limits}
use Rattle.pss_machine.specs.declared.command.Command.{Command}
use Rattle.pss_machine.specs.declared.command.Command.TheVariants as command
use Rattle.pss_machine.specs.declared.reply.Reply.{Reply}
use Rattle.pss_machine.specs.declared.reply.Reply.TheVariants as reply
use Rattle.pss_machine.specs.declared.session.Kind.TheVariants.{Basic}
use Rattle.pss_machine.specs.declared.session.View.TheVariants.{Kept as InCopy}
use Rattle.pss_machine.specs.Commands.{data_session, named_entry, is_obtaining}
use Rattle.pss_machine.specs.Sessions.{Session, is_basic, open_in, session_named}
use Rattle.pss_machine.specs.Owners.{net}
use Rattle.pss_machine.specs.Copies.{Entry, Copies, entry_numbered, is_attached, Body, same_view, view_in, body_in, stand_in}
use Rattle.pss_machine.specs.Kept.{Kept, copies_of}
use Rattle.pss_machine.specs.Effects.{Effect, ClosesBasic, ClosesTransactional, Ends, Holds, Steps, Commits, Flushes, RollsBack}
use Rattle.pss_machine.specs.Deciding.{decision}
use Rattle.pss_machine.specs.Moving.{is_outdated, is_settled, is_in, moved}
use Rattle.pss_machine.specs.Run.{Said, first, run}
use Rattle.pss_machine.specs.Owning.{InEveryRun}

-- the entry of this number is there and attached
abbrev pub attached_in : Copies → ℕ → Bool
attached_in copies n = given (entry_numbered copies n) false is_attached

abbrev pub is_attached_at : Kept → SessionNo → ℕ → Bool
is_attached_at k s n = attached_in (copies_of k s) n

-- ---- where

-- a session whose entries may be attached: it is basic, active or suspended
abbrev pub is_open : Session → Bool
is_open session = is_basic session || is_some (open_in session.association)

pub record IsInOpen (k : Kept) (s : SessionNo) : Type 0 where
  pub session : Session
  pub there : get k.sessions s.0 ≡ Some session
  pub goes_on : IsTrue (is_open session)

-- in every run no entry of another session is attached
abbrev pub OnlyOpenHaveAttached : Type 0
OnlyOpenHaveAttached = InEveryRun (λ q. (s : SessionNo) (n : ℕ) → IsTrue (is_attached_at q.kept s n) → IsInOpen q.kept s)

-- ---- by what

-- it is the entry that the reply gives
abbrev pub is_given : Reply → ℕ → Bool
is_given (reply.Entry entry pid) n = entry == n
is_given _ n = false

-- a data command did what it was asked for
abbrev pub is_success : Reply → Bool
is_success reply.Done = true
is_success (reply.Entry entry pid) = true
is_success (reply.Reference pid) = true
is_success (reply.Val text) = true
is_success _ = false

-- it is the entry that the command gave, or that it named and did with what it was asked for
abbrev pub is_used : Command → Reply → ℕ → Bool
is_used command told n = (is_obtaining command && is_given told n) || (given (named_entry command) false (λ m. m == n) && is_success told)

-- a data command is done in the session
pub record IsDoneIn (k : Kept) (command : Command) (s : SessionNo) : Type 0 where
  pub name : List ℕ
  pub session : Session
  pub in_session : data_session command ≡ Some name
  pub named : session_named k.sessions name ≡ Some (s.0, session)

-- ---- what stays attached

-- a commit or flush of the owner leaves the body: it is the owner's own, or the committed one of an object that is changed
abbrev pub is_left_by_commit : Kept → OwnerNo → SessionNo → Session → Body → Bool
is_left_by_commit k n s session body = given (get k.owners n.0) false (λ owner. is_settled n (net k.catalog owner) s session body)

-- the entries of the session that stand on the body are detached
abbrev pub is_left : Kept → Effect → SessionNo → Session → Body → Bool
is_left k (Steps n t step asked) s session body = is_outdated n step s session body
is_left k (Ends t n failed) s session body = t.0 == s.0
is_left k (Commits n) s session body = is_left_by_commit k n s session body || is_in n session
is_left k (Flushes n) s session body = is_left_by_commit k n s session body
is_left k (RollsBack n) s session body = is_in n session
is_left k _ s session body = false

-- the entry of this number is attached, and its body is not left
abbrev pub stays_at : Kept → Effect → SessionNo → ℕ → Bool
stays_at k effect s n = given (entry_numbered (copies_of k s) n) false (λ e. is_attached e && not (given (get k.sessions s.0) false (λ session. is_left k effect s session (body_in k.owners s session e.pid))))

-- the entries of the session are as they were but for where they stand, and for one that may have come
abbrev pub is_keeping : Effect → SessionNo → Bool
is_keeping (ClosesBasic t n) s = not (t.0 == s.0)
is_keeping (ClosesTransactional t) s = not (t.0 == s.0)
is_keeping (Holds t copies) s = not (t.0 == s.0)
is_keeping _ s = true

-- in every run an entry stays attached unless its body is left
abbrev pub OthersStayAttached : Type 0
OthersStayAttached = InEveryRun (λ q. (effect : Effect) (s : SessionNo) (n : ℕ) → is_keeping effect s ≡ true → IsTrue (stays_at q.kept effect s n) → IsTrue (is_attached_at (moved q.kept effect) s n))

-- the entry counts one at most, so that a `release` takes it away
abbrev pub is_last_count : Kept → SessionNo → ℕ → Bool
is_last_count k s n = given (entry_numbered (copies_of k s) n) false (λ e. nat_le e.count 1)

-- `dup` detaches no entry
abbrev pub DupDetachesNone : Type 0
DupDetachesNone =
    (S : Schema) (limits : Limits) (k : Kept) (name : List ℕ) (m : ℕ) (s : SessionNo) (n : ℕ) → is_attached_at (moved k (decision S limits k (command.Dup name m)).effect) s n ≡ is_attached_at k s n

-- `release` detaches no entry but the one that it takes away
abbrev pub ReleaseDetachesLast : Type 0
ReleaseDetachesLast =
    (S : Schema) (limits : Limits) (k : Kept) (name : List ℕ) (m : ℕ) (t : SessionNo) (session : Session) (s : SessionNo) (n : ℕ) → session_named k.sessions name ≡ Some (t.0, session)
    → is_attached_at (moved k (decision S limits k (command.Release name m)).effect) s n ≡ (is_attached_at k s n && not (is_last_count k t m && (s.0 == t.0 && n == m)))

-- a data command in the session used the entry, which stands in the view in which the session then sees the object
pub record IsAttachedBy (k new : Kept) (command : Command) (told : Reply) (s : SessionNo) (n : ℕ) : Type 0 where
  pub by : IsDoneIn k command s
  pub used : IsTrue (is_used command told n)
  pub entry : Entry
  pub there : entry_numbered (copies_of new s) n ≡ Some entry
  pub stand : entry.stand ≡ stand_in k.catalog entry.pid (view_in new.owners s by.session entry.pid)

-- what is attached after a command, and did not stay so, is an entry that a data command used
abbrev pub OnlyUsedAreAttached : Type 0
OnlyUsedAreAttached =
    (S : Schema) (limits : Limits) (k : Kept) (command : Command) (s : SessionNo) (n : ℕ) → stays_at k (decision S limits k command).effect s n ≡ false → IsTrue (is_attached_at (moved k (decision S limits k command).effect) s n)
    → IsAttachedBy k (moved k (decision S limits k command).effect) command (decision S limits k command).reply s n

-- `refresh` detaches the entries of a basic session that stand on copies of its own, and no others
abbrev pub RefreshDetachesCopies : Type 0
RefreshDetachesCopies =
    (S : Schema) (limits : Limits) (k : Kept) (name : List ℕ) (s : SessionNo) (session : Session) (m : OwnerNo) (n : ℕ) → session_named k.sessions name ≡ Some (s.0, session) → session.kind ≡ Basic m
    → is_attached_at (moved k (decision S limits k (command.Refresh name)).effect) s n
    ≡ given (entry_numbered (copies_of k s) n) false (λ e. is_attached e && not (same_view (view_in k.owners s session e.pid) (InCopy s)))

-- in every run the entry that a data command used is attached after it
abbrev pub UsedAreAttached : Type 0
UsedAreAttached =
    (S : Schema) (limits : Limits) (M : Catalog) (next : ℕ) (lines : List Said) (command : Command) (s : SessionNo) (n : ℕ)
    → IsDoneIn (run S limits (first M next) lines).kept command s
    → IsTrue (is_used command (decision S limits (run S limits (first M next) lines).kept command).reply n)
    → IsTrue (is_attached_at (moved (run S limits (first M next) lines).kept (decision S limits (run S limits (first M next) lines).kept command).effect) s n)

-- in every run the entry that the reply to a data command gives is of the object that it tells of
abbrev pub GivenAreOfObject : Type 0
GivenAreOfObject =
    (S : Schema) (limits : Limits) (M : Catalog) (next : ℕ) (lines : List Said) (command : Command) (s : SessionNo) (n : ℕ) (pid : Pid)
    → IsDoneIn (run S limits (first M next) lines).kept command s
    → (decision S limits (run S limits (first M next) lines).kept command).reply ≡ reply.Entry n pid
    → (e : Entry) × (entry_numbered (copies_of (moved (run S limits (first M next) lines).kept (decision S limits (run S limits (first M next) lines).kept command).effect) s) n ≡ Some e) × (e.pid ≡ pid)
