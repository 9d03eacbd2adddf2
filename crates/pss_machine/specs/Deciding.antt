-- What each command comes to, by what is kept and its words alone. The first refusal that holds is the reply.
use Rattle.std.specs.Prelude.{ℕ, ◌+◌, ◌-◌, ◌==◌, nat_le, nat_lt, List, [], length, map, sum, Ok, Bool, true, false, if◌then◌else◌, not}
use Rattle.std.specs.FinMap.{get, len, entries}
use Rattle.std.specs.FinSet as set
use Rattle.pss_base.specs.declared.owner.OwnerNo.{OwnerNo}
use Rattle.pss_base.specs.declared.session.SessionNo.{SessionNo}
use Rattle.type_layout.specs.declared.schema.Schema.{Schema}
use Rattle.type_layout.specs.Schemas.{given, home_at}
use Rattle.pss_catalog.specs.Catalog.{Catalog, total}
use Rattle.pss_machine.specs.declared.level.Level.{Level}
use Rattle.pss_machine.specs.declared.level.Level.TheVariants as level
use Rattle.pss_machine.specs.declared.limits.Limits.{Limits}
use Rattle.pss_machine.specs.declared.session.Access.{Access}
use Rattle.pss_machine.specs.declared.session.Access.TheVariants.{ReadOnly, ReadWrite}
use Rattle.pss_machine.specs.declared.session.Association.{Association}
use Rattle.pss_machine.specs.declared.session.Association.TheVariants.{NoTransaction, Active, Suspended, Ending}
use Rattle.pss_machine.specs.declared.session.Kind.{Kind}
use Rattle.pss_machine.specs.declared.session.Kind.TheVariants.{Basic, Transactional}
use Rattle.pss_machine.specs.declared.session.View.TheVariants as in_view
use Rattle.pss_machine.specs.declared.command.Command.{Command}
use Rattle.pss_machine.specs.declared.command.Command.TheVariants as command
use Rattle.pss_machine.specs.declared.reply.Reply.{Reply}
use Rattle.pss_machine.specs.declared.reply.Reply.TheVariants as reply
use Rattle.pss_machine.specs.Operations.{FindPid, Count, ListOf, Ask}
use Rattle.pss_catalog.specs.Changes.{over}
use Rattle.pss_machine.specs.Names.{home_named}
use Rattle.pss_machine.specs.Owners.{Owner, net}
use Rattle.pss_machine.specs.Sessions.{Session, session_named, first_open, state_of}
use Rattle.pss_machine.specs.Copies.{Copies, Entry, Body, entry_numbered, at_entry, with_count, without_entry, names, bodies, body_in, detached_from, same_view}
use Rattle.pss_machine.specs.Kept.{Kept, name_of, transaction_named, transaction_count, is_in_use, copies_of}
use Rattle.pss_machine.specs.Asking.{obtaining, only, creating, making, finding, shortening, asking_whether, getting, setting, destroying, following, asking_of_home, ◌>>=◌}
use Rattle.pss_machine.specs.Effects.{Effect, OpensBasic, OpensTransactional, ClosesBasic, ClosesTransactional, Begins, Associates, Ends, Holds, Commits, Flushes, RollsBack, Decision, does, says}
use Rattle.pss_machine.specs.Stepping.{data_command}

-- in the session of a name
abbrev pub in_session : Kept → List ℕ → (SessionNo → Session → Decision) → Decision
in_session k name f = given (session_named k.sessions name) (says reply.NoSession) (λ e. f (record { 0 = e.0 }) e.1)

-- for the transaction of a name
abbrev pub for_transaction : Kept → List ℕ → (OwnerNo → Decision) → Decision
for_transaction k name f = given (transaction_named k name) (says reply.NoTransaction) f

-- the session is associated with this transaction
abbrev pub associated : Kept → OwnerNo → Decision
associated k n = says (reply.Assoc (name_of k n))

-- ---- sessions and transactions

abbrev pub access_of : Bool → Access
access_of true = ReadWrite
access_of false = ReadOnly

abbrev pub opening : Limits → Kept → List ℕ → Bool → Bool → Decision
opening limits k name tx write =
    if is_in_use k name then says reply.Exists
    else if nat_le limits.sessions (len k.sessions) then says reply.Sessions
    else does (if tx then OpensTransactional name (access_of write) else OpensBasic name (access_of write)) reply.Done

abbrev pub level_of : Bool → Level
level_of true = level.Serializable
level_of false = level.ReadCommitted

abbrev pub beginning : Limits → Kept → List ℕ → Bool → Decision
beginning limits k name serializable =
    if is_in_use k name then says reply.Exists
    else if nat_le limits.transactions (transaction_count k) then says reply.Transactions
    else does (Begins name (level_of serializable)) reply.Done

abbrev pub closing : Kept → SessionNo → Session → Decision
closing k s session = by_association session.association
  where
    by_kind : Kind → Decision
    by_kind (Basic n) = does (ClosesBasic s n) reply.Done
    by_kind Transactional = does (ClosesTransactional s) reply.Done

    by_association : Association → Decision
    by_association NoTransaction = by_kind session.kind
    by_association (Active n) = associated k n
    by_association (Suspended n) = associated k n
    by_association (Ending n) = associated k n

-- a session that is in no transaction begins to act for one, and a suspended one goes on with its own
abbrev pub starting : Kept → SessionNo → Session → OwnerNo → Decision
starting k s session n = by_kind session.kind
  where
    by_association : Association → Decision
    by_association NoTransaction = does (Associates s (Active n)) reply.Done
    by_association (Active m) = associated k m
    by_association (Suspended m) = if m.0 == n.0 then does (Associates s (Active n)) reply.Done else associated k m
    by_association (Ending m) = associated k m

    by_kind : Kind → Decision
    by_kind (Basic m) = says reply.Kind
    by_kind Transactional = by_association session.association

abbrev pub suspending : SessionNo → Session → Decision
suspending s session = by_kind session.kind
  where
    by_association : Association → Decision
    by_association NoTransaction = says reply.NoTx
    by_association (Active n) = does (Associates s (Suspended n)) reply.Done
    by_association (Suspended n) = says reply.NoTx
    by_association (Ending n) = says reply.NoTx

    by_kind : Kind → Decision
    by_kind (Basic n) = says reply.Kind
    by_kind Transactional = by_association session.association

abbrev pub ending : SessionNo → Session → Bool → Decision
ending s session ok = by_kind session.kind
  where
    by_association : Association → Decision
    by_association NoTransaction = says reply.NoTx
    by_association (Active n) = does (Ends s n (not ok)) reply.Done
    by_association (Suspended n) = does (Ends s n (not ok)) reply.Done
    by_association (Ending n) = says reply.NoTx

    by_kind : Kind → Decision
    by_kind (Basic n) = says reply.Kind
    by_kind Transactional = by_association session.association

abbrev pub telling_state : Session → Decision
telling_state session = by_kind session.kind
  where
    by_kind : Kind → Decision
    by_kind (Basic n) = says reply.Kind
    by_kind Transactional = says (reply.State (state_of session.association))

-- ---- commits

-- the objects after an owner's commit would take more octets than they may
abbrev pub is_over_full : Schema → Limits → Catalog → Owner → Bool
is_over_full S limits M owner = nat_lt limits.total (total S (over M (net M owner)))

-- an owner's changes are committed, unless they are too much
abbrev pub unless_full : Schema → Limits → Kept → OwnerNo → Effect → Decision
unless_full S limits k n effect = given (get k.owners n.0) (says reply.Done) (λ owner. if is_over_full S limits k.catalog owner then says reply.Full else does effect reply.Done)

abbrev pub is_marked : Kept → OwnerNo → Bool
is_marked k n = given (get k.titles n.0) false (λ title. title.failed)

abbrev pub committing : Schema → Limits → Kept → OwnerNo → Decision
committing S limits k n =
    given (first_open k.sessions n)
    (if is_marked k n then does (RollsBack n) reply.RolledBack else unless_full S limits k n (Commits n))
    (λ session. says (reply.StillOpen session.name))

abbrev pub flushing : Schema → Limits → Kept → Session → Decision
flushing S limits k session = by_kind session.kind
  where
    by_kind : Kind → Decision
    by_kind (Basic n) = unless_full S limits k n (Flushes n)
    by_kind Transactional = says reply.Kind

-- ---- entries

-- what is done with a session's entry
abbrev pub with_entry : Kept → SessionNo → ℕ → (Entry → Decision) → Decision
with_entry k s n f = given (entry_numbered (copies_of k s) n) (says reply.NoEntry) f

-- the entry counts so many, and goes where it counts none
abbrev pub counting : ℕ → ℕ → Copies → Copies
counting n count copies = if count == 0 then without_entry n copies else at_entry n (with_count count) copies

abbrev pub recounting : Kept → SessionNo → ℕ → (ℕ → ℕ) → Decision
recounting k s n change = with_entry k s n (λ e. does (Holds s (counting n (change e.count) (copies_of k s))) (reply.Count (change e.count)))

abbrev pub telling_pid : Kept → SessionNo → ℕ → Decision
telling_pid k s n = with_entry k s n (λ e. says (reply.PidAndShort e.pid))

-- the session has no entries
abbrev pub freeing : Kept → SessionNo → Decision
freeing k s = does (Holds s (record { last = (copies_of k s).last; entries = [] })) reply.Done

-- no entry of the session stands on a copy of its own
abbrev pub refreshed : Kept → SessionNo → Session → Copies
refreshed k s session = detached_from (body_in k.owners s session) (λ body. same_view body.view (in_view.Kept s)) (copies_of k s)

abbrev pub refreshing : Kept → SessionNo → Session → Decision
refreshing k s session = by_kind session.kind
  where
    by_kind : Kind → Decision
    by_kind (Basic n) = does (Holds s (refreshed k s session)) reply.Done
    by_kind Transactional = says reply.Kind

-- ---- what is told of all

abbrev pub telling_home : Schema → List ℕ → Decision
telling_home S word = given (home_named S word) (says reply.NoHome) (λ h. says (reply.HomeFound h (given (home_at S h) [] (λ home. home.name))))

abbrev pub entry_count : Kept → ℕ
entry_count k = sum (map (λ e. length e.1.entries) (entries k.copies))

abbrev pub lock_count : Kept → ℕ
lock_count k = sum (map (λ e. set.len e.1.locks) (entries k.owners))

-- the names of the bodies that entries stand on, once for each of these entries
abbrev pub all_names : Kept → List Body
all_names k = names k.owners k.sessions k.copies

abbrev pub counts : Kept → Reply
counts k = reply.Stat (len k.sessions) (transaction_count k) (entry_count k) (length (all_names k)) (length (bodies (all_names k))) (lock_count k) k.commits (len k.catalog)

-- ---- the commands

abbrev pub decision : Schema → Limits → Kept → Command → Decision
decision S limits k (command.OpenSession name tx write) = opening limits k name tx write
decision S limits k (command.Close name) = in_session k name (closing k)
decision S limits k (command.Begin name serializable) = beginning limits k name serializable
decision S limits k (command.Start name t) = in_session k name (λ s session. for_transaction k t (starting k s session))
decision S limits k (command.Suspend name) = in_session k name suspending
decision S limits k (command.End name ok) = in_session k name (λ s session. ending s session ok)
decision S limits k (command.Status name) = in_session k name (λ s session. telling_state session)
decision S limits k (command.Commit t) = for_transaction k t (committing S limits k)
decision S limits k (command.Rollback t) = for_transaction k t (λ n. does (RollsBack n) reply.Done)
decision S limits k (command.Home name home) = in_session k name (λ s session. telling_home S home)
decision S limits k (command.Create name home values) = in_session k name (λ s session. data_command S limits k s session (creating S k.next session home values))
decision S limits k (command.Make name home factory values) =
    in_session k name (λ s session. data_command S limits k s session (making S k.next session home factory values))
decision S limits k (command.Find name home key values) =
    in_session k name (λ s session. data_command S limits k s session (finding S home key values >>= λ op. Ok (obtaining op)))
decision S limits k (command.FindRef name home key values) =
    in_session k name (λ s session. data_command S limits k s session (finding S home key values >>= λ op. Ok (only op)))
decision S limits k (command.Pid name pid) = in_session k name (λ s session. data_command S limits k s session (Ok (obtaining (Ask (FindPid pid)))))
decision S limits k (command.Short name home serial) = in_session k name (λ s session. data_command S limits k s session (shortening S home serial))
decision S limits k (command.Exists name n) = in_session k name (λ s session. data_command S limits k s session (asking_whether (copies_of k s) n))
decision S limits k (command.Get name n member) = in_session k name (λ s session. data_command S limits k s session (getting S (copies_of k s) n member))
decision S limits k (command.Set name n member value) =
    in_session k name (λ s session. data_command S limits k s session (setting S session (copies_of k s) n member value))
decision S limits k (command.Destroy name n) = in_session k name (λ s session. data_command S limits k s session (destroying session (copies_of k s) n))
decision S limits k (command.Follow name n member) = in_session k name (λ s session. data_command S limits k s session (following S (copies_of k s) n member))
decision S limits k (command.Count name home) = in_session k name (λ s session. data_command S limits k s session (asking_of_home S home (λ h. Ask (Count h))))
decision S limits k (command.List name home) = in_session k name (λ s session. data_command S limits k s session (asking_of_home S home (λ h. Ask (ListOf h))))
decision S limits k (command.PidOf name n) = in_session k name (λ s session. telling_pid k s n)
decision S limits k (command.Dup name n) = in_session k name (λ s session. recounting k s n (λ count. count + 1))
decision S limits k (command.Release name n) = in_session k name (λ s session. recounting k s n (λ count. count - 1))
decision S limits k (command.FreeAll name) = in_session k name (λ s session. freeing k s)
decision S limits k (command.Flush name) = in_session k name (λ s session. flushing S limits k session)
decision S limits k (command.Refresh name) = in_session k name (refreshing k)
decision S limits k command.Checkpoint = says reply.Done
decision S limits k command.Stat = says (counts k)
decision S limits k command.History = says (reply.History k.commits k.recent)
