-- That each command leaves the owner of each session there, and so does every run.
use Rattle.std.proofs.Common.{◌≡◌, ℕ, ◌==◌, ◌&&◌, Bool, true, false, cond, List, [], ◌∷◌, Option, Some, None, refl, sym, ap, ◌∙◌, ◌+◌, ◌-◌, inl, inr}
use Rattle.std.specs.Prelude.{find, nat_le, not, ◌⊎◌, if◌then◌else◌}
use Rattle.std.specs.Option.{option_map}
use Rattle.std.specs.Ordering.{nat_cmp}
use Rattle.std.specs.FinMap.{get, remove, len, entries, get-empty}
use Rattle.std.specs.Str.{bytes_eq}
use Rattle.pss_base.specs.declared.owner.OwnerNo.{OwnerNo}
use Rattle.pss_base.specs.declared.session.SessionNo.{SessionNo}
use Rattle.type_layout.specs.declared.schema.Schema.{Schema}
use Rattle.type_layout.specs.Schemas.{given}
use Rattle.pss_machine.specs.declared.limits.Limits.{Limits}
use Rattle.pss_machine.specs.declared.session.Kind.{Kind}
use Rattle.pss_machine.specs.declared.session.Kind.TheVariants.{Basic, Transactional}
use Rattle.pss_machine.specs.declared.session.Association.{Association}
use Rattle.pss_machine.specs.declared.session.Association.TheVariants.{NoTransaction, Active, Suspended, Ending}
use Rattle.pss_machine.specs.declared.command.Command.{Command}
use Rattle.pss_machine.specs.declared.command.Command.TheVariants as command
use Rattle.pss_machine.specs.declared.reply.Reply.{Reply}
use Rattle.pss_machine.specs.declared.reply.Reply.TheVariants as reply
use Rattle.pss_machine.specs.Owners.{Owner, new_owner, is_basic, stepped, blocker, Step}
use Rattle.pss_machine.specs.Sessions.{Session, Sessions, owner_of, transaction_of, session_named, first_open}
use Rattle.pss_machine.specs.Sessions as sessions
use Rattle.pss_catalog.specs.Catalog.{Catalog}
use Rattle.pss_machine.specs.Copies.{Entry, entry_numbered}
use Rattle.pss_machine.specs.Names.{home_named}
use Rattle.pss_machine.specs.Operations.{FindPid, Count, ListOf, Ask, Busy}
use Rattle.pss_machine.specs.Kept.{Kept, Title, Actor, is_transaction, transaction_named, transaction_count, is_in_use, actor_in, copies_of}
use Rattle.pss_machine.specs.Asking.{Asked, ◌>>=◌, obtaining, only, creating, making, finding, shortening, asking_whether, getting, setting, destroying, following, asking_of_home}
use Rattle.std.specs.Prelude.{Result, Ok, Err}
use Rattle.pss_machine.specs.Effects.{Effect, Stays, OpensBasic, OpensTransactional, ClosesBasic, ClosesTransactional, Begins, Associates, Ends, Holds, Steps, Commits, Flushes, RollsBack, Decision, does, says}
use Rattle.pss_machine.specs.Stepping.{data_command, decided, within, step_of, reply_to}
use Rattle.pss_machine.specs.Deciding.{access_of, decision, in_session, for_transaction, opening, beginning, closing, starting, suspending, ending, telling_state, committing, flushing, unless_full, is_over_full, is_marked, with_entry, recounting, telling_pid, freeing, refreshing, telling_home}
use Rattle.pss_machine.specs.Moving.{moved, settled}
use Rattle.pss_machine.specs.Run.{Said, Silent, Says, Wrong, Machine, first, turn, run}
use Rattle.pss_machine.proofs.Cases.{of_given, of_if}
use Rattle.pss_machine.proofs.Found.{found_there}
use Rattle.pss_machine.proofs.Maps.{same_or_apart, remove_here, remove_apart}
use Rattle.pss_machine.proofs.Logic.{none_some, same_some}
use Rattle.pss_copies.specs.Ruled.{IsOwned, AreOwned, SessionsAreOwned}
use Rattle.pss_copies.proofs.Owning.{owned_basic, owned_more, owned_with, owned_session, owned_less, owned_without, owned_associated, owned_finished}

abbrev pub Owned : Kept → Type 0
Owned k = AreOwned k.owners k.sessions k.next_owner

-- a transactional session comes to be associated with a transaction
pub record Ties (k : Kept) (s : SessionNo) (a : Association) : Type 0 where
  pub session : Session
  pub there : get k.sessions s.0 ≡ Some session
  pub kind : session.kind ≡ Transactional
  pub number : OwnerNo
  pub with_it : transaction_of a ≡ Some number
  pub transaction : is_transaction k.owners number.0 ≡ true

-- a basic session goes with its owner
pub record Leaves (k : Kept) (s : SessionNo) (n : OwnerNo) : Type 0 where
  pub session : Session
  pub there : get k.sessions s.0 ≡ Some session
  pub kind : session.kind ≡ Basic n

-- what an effect finds
abbrev pub Finds : Kept → Effect → Type 0
Finds k (ClosesBasic s n) = Leaves k s n
Finds k (Associates s a) = Ties k s a
Finds k (Ends s n failed) = Ties k s (Ending n)
Finds k (Commits n) = is_transaction k.owners n.0 ≡ true
Finds k (RollsBack n) = is_transaction k.owners n.0 ≡ true
Finds k _ = Unit {0}

-- ---- what each command finds

passes : {A : Type 0} (test : A → Bool) (xs : List A) (x : A) → find test xs ≡ Some x → test x ≡ true
passes test [] x e = absurd (none_some e)
passes test (y ∷ ys) x e = by (test y) refl e (passes test ys x)
  where
    by : (b : Bool) → test y ≡ b → cond b (Some y) (find test ys) ≡ Some x → (find test ys ≡ Some x → test x ≡ true) → test x ≡ true
    by true is e rest = ap test (sym (same_some e)) ∙ is
    by false is e rest = rest e

and_right : (a b : Bool) → (a && b) ≡ true → b ≡ true
and_right true b e = e
and_right false b e = absurd cc

abbrev as_owner : ℕ × Title → OwnerNo
as_owner e = record { 0 = e.0 }

pub named_transaction : (k : Kept) (name : List ℕ) (n : OwnerNo) → transaction_named k name ≡ Some n → is_transaction k.owners n.0 ≡ true
named_transaction k name n e = by (find (λ e. bytes_eq e.1.name name && is_transaction k.owners e.0) (entries k.titles)) refl e
  where
    by : (o : Option (ℕ × Title)) → find (λ e. bytes_eq e.1.name name && is_transaction k.owners e.0) (entries k.titles) ≡ o → option_map as_owner o ≡ Some n → is_transaction k.owners n.0 ≡ true
    by None is e = absurd (none_some e)
    by (Some x) is e =
        let same : record { 0 = x.0 } ≡ n = same_some e in
        ap (λ (m : OwnerNo). is_transaction k.owners m.0) (sym same) ∙ and_right (bytes_eq x.1.name name) (is_transaction k.owners x.0) (passes (λ e. bytes_eq e.1.name name && is_transaction k.owners e.0) (entries k.titles) x is)

module _ (S : Schema) (limits : Limits) (k : Kept) (own : Owned k) where
  abbrev Right : Decision → Type 0
  Right d = Finds k d.effect

  in_right : (name : List ℕ) (f : SessionNo → Session → Decision) → ((s : SessionNo) (session : Session) → get k.sessions s.0 ≡ Some session → Right (f s session)) → Right (in_session k name f)
  in_right name f h = of_given Right (session_named k.sessions name) (says reply.NoSession) (λ e. f (record { 0 = e.0 }) e.1) tt (λ e there. h (record { 0 = e.0 }) e.1 (found_there _ k.sessions e there))

  for_right : (name : List ℕ) (f : OwnerNo → Decision) → ((n : OwnerNo) → is_transaction k.owners n.0 ≡ true → Right (f n)) → Right (for_transaction k name f)
  for_right name f h = of_given Right (transaction_named k name) (says reply.NoTransaction) f tt (λ n there. h n (named_transaction k name n there))

  data_right : (s : SessionNo) (session : Session) (asked : Result Asked Reply) → Right (data_command S limits k s session asked)
  data_right s session asked = of_given Right (actor_in k.owners session) (says reply.NoTx) (λ actor. decided S k s actor (asked >>= within limits k.next actor.owner (copies_of k s))) tt (λ actor there. by actor (asked >>= within limits k.next actor.owner (copies_of k s)))
    where
      by : (actor : Actor) (r : Result Asked Reply) → Right (decided S k s actor r)
      by actor (Err refusal) = tt
      by actor (Ok asked) = let step : Step = step_of S k.catalog actor.owner (copies_of k s) asked in
          of_given Right (blocker k.owners actor.number step.needs) (does (Steps actor.number s step asked) (reply_to S k (copies_of k s) asked step.answer)) (λ b. says (reply_to S k (copies_of k s) asked (Busy b))) tt (λ b held. tt)

  -- the transaction of an association is there
  associated : (s : SessionNo) (session : Session) (n : OwnerNo) → get k.sessions s.0 ≡ Some session → session.kind ≡ Transactional → transaction_of session.association ≡ Some n → is_transaction k.owners n.0 ≡ true
  associated s session n there kind in_it =
      let o = own.each s.0 session n there (ap (λ k. owner_of (record { name = session.name; kind = k; access = session.access; association = session.association })) kind ∙ in_it) in
      ap (λ q. given q false (λ owner. not (is_basic owner.level))) o.there ∙ ap not (o.kind ∙ ap (λ k. sessions.is_basic (record { name = session.name; kind = k; access = session.access; association = session.association })) kind)

  closing_right : (s : SessionNo) (session : Session) → get k.sessions s.0 ≡ Some session → Right (closing k s session)
  closing_right s session there = by session.kind session.association there
    where
      by : (kind : Kind) (a : Association) → get k.sessions s.0 ≡ Some (record { name = session.name; kind = kind; access = session.access; association = a }) → Right (closing k s (record { name = session.name; kind = kind; access = session.access; association = a }))
      by (Basic n) NoTransaction at = record { session = record { name = session.name; kind = Basic n; access = session.access; association = NoTransaction }; there = at; kind = refl }
      by Transactional NoTransaction at = tt
      by kind (Active n) at = tt
      by kind (Suspended n) at = tt
      by kind (Ending n) at = tt

  starting_right : (s : SessionNo) (session : Session) (n : OwnerNo) → get k.sessions s.0 ≡ Some session → is_transaction k.owners n.0 ≡ true → Right (starting k s session n)
  starting_right s session n there tx = by session.kind session.association there
    where
      by : (kind : Kind) (a : Association) → get k.sessions s.0 ≡ Some (record { name = session.name; kind = kind; access = session.access; association = a }) → Right (starting k s (record { name = session.name; kind = kind; access = session.access; association = a }) n)
      by (Basic m) a at = tt
      by Transactional NoTransaction at = record { session = record { name = session.name; kind = Transactional; access = session.access; association = NoTransaction }; there = at; kind = refl; number = n; with_it = refl; transaction = tx }
      by Transactional (Active m) at = tt
      by Transactional (Suspended m) at =
          of_if Right (m.0 == n.0) _ _ (record { session = record { name = session.name; kind = Transactional; access = session.access; association = Suspended m }; there = at; kind = refl; number = n; with_it = refl; transaction = tx }) tt
      by Transactional (Ending m) at = tt

  suspending_right : (s : SessionNo) (session : Session) → get k.sessions s.0 ≡ Some session → Right (suspending s session)
  suspending_right s session there = by session.kind session.association there
    where
      by : (kind : Kind) (a : Association) → get k.sessions s.0 ≡ Some (record { name = session.name; kind = kind; access = session.access; association = a }) → Right (suspending s (record { name = session.name; kind = kind; access = session.access; association = a }))
      by (Basic m) a at = tt
      by Transactional NoTransaction at = tt
      by Transactional (Active n) at = (let x : Session = record { name = session.name; kind = Transactional; access = session.access; association = Active n } in record { session = x; there = at; kind = refl; number = n; with_it = refl; transaction = associated s x n at refl refl })
      by Transactional (Suspended m) at = tt
      by Transactional (Ending m) at = tt

  ending_right : (s : SessionNo) (session : Session) (ok : Bool) → get k.sessions s.0 ≡ Some session → Right (ending s session ok)
  ending_right s session ok there = by session.kind session.association there
    where
      by : (kind : Kind) (a : Association) → get k.sessions s.0 ≡ Some (record { name = session.name; kind = kind; access = session.access; association = a }) → Right (ending s (record { name = session.name; kind = kind; access = session.access; association = a }) ok)
      by (Basic m) a at = tt
      by Transactional NoTransaction at = tt
      by Transactional (Active n) at = (let x : Session = record { name = session.name; kind = Transactional; access = session.access; association = Active n } in record { session = x; there = at; kind = refl; number = n; with_it = refl; transaction = associated s x n at refl refl })
      by Transactional (Suspended n) at = (let x : Session = record { name = session.name; kind = Transactional; access = session.access; association = Suspended n } in record { session = x; there = at; kind = refl; number = n; with_it = refl; transaction = associated s x n at refl refl })
      by Transactional (Ending m) at = tt

  full_right : (n : OwnerNo) (effect : Effect) → Finds k effect → Right (unless_full S limits k n effect)
  full_right n effect h =
      of_given Right (get k.owners n.0) (says reply.Done) (λ owner. if is_over_full S limits k.catalog owner then says reply.Full else does effect reply.Done) tt
      (λ owner there. of_if Right (is_over_full S limits k.catalog owner) (says reply.Full) (does effect reply.Done) tt h)

  committing_right : (n : OwnerNo) → is_transaction k.owners n.0 ≡ true → Right (committing S limits k n)
  committing_right n tx =
      of_given Right (first_open k.sessions n) (if is_marked k n then does (RollsBack n) reply.RolledBack else unless_full S limits k n (Commits n)) (λ session. says (reply.StillOpen session.name))
      (of_if Right (is_marked k n) (does (RollsBack n) reply.RolledBack) (unless_full S limits k n (Commits n)) tx (full_right n (Commits n) tx)) (λ session there. tt)

  flushing_right : (session : Session) → Right (flushing S limits k session)
  flushing_right session = by session.kind
    where
      by : (kind : Kind) → Right (flushing S limits k (record { name = session.name; kind = kind; access = session.access; association = session.association }))
      by (Basic n) = full_right n (Flushes n) tt
      by Transactional = tt

  refreshing_right : (s : SessionNo) (session : Session) → Right (refreshing k s session)
  refreshing_right s session = by session.kind
    where
      by : (kind : Kind) → Right (refreshing k s (record { name = session.name; kind = kind; access = session.access; association = session.association }))
      by (Basic n) = tt
      by Transactional = tt

  state_right : (session : Session) → Right (telling_state session)
  state_right session = by session.kind
    where
      by : (kind : Kind) → Right (telling_state (record { name = session.name; kind = kind; access = session.access; association = session.association }))
      by (Basic n) = tt
      by Transactional = tt

  opening_right : (name : List ℕ) (tx write : Bool) → Right (opening limits k name tx write)
  opening_right name tx write =
      of_if Right (is_in_use k name) (says reply.Exists) _ tt
      (of_if Right (nat_le limits.sessions (len k.sessions)) (says reply.Sessions) _ tt (by tx))
    where
      by : (tx : Bool) → Finds k (if tx then OpensTransactional name (access_of write) else OpensBasic name (access_of write))
      by true = tt
      by false = tt

  beginning_right : (name : List ℕ) (serializable : Bool) → Right (beginning limits k name serializable)
  beginning_right name serializable =
      of_if Right (is_in_use k name) (says reply.Exists) _ tt (of_if Right (nat_le limits.transactions (transaction_count k)) (says reply.Transactions) _ tt tt)

  entry_right : (s : SessionNo) (n : ℕ) (f : Entry → Decision) → ((e : Entry) → Right (f e)) → Right (with_entry k s n f)
  entry_right s n f h = of_given Right (entry_numbered (copies_of k s) n) (says reply.NoEntry) f tt (λ e there. h e)

  home_right : (word : List ℕ) → Right (telling_home S word)
  home_right word = of_given Right (home_named S word) (says reply.NoHome) _ tt (λ h there. tt)

  by_data : (name : List ℕ) (asked : SessionNo → Session → Result Asked Reply) → Right (in_session k name (λ s session. data_command S limits k s session (asked s session)))
  by_data name asked = in_right name (λ s session. data_command S limits k s session (asked s session)) (λ s session there. data_right s session (asked s session))

  pub decision_finds : (command : Command) → Finds k (decision S limits k command).effect
  decision_finds (command.OpenSession name tx write) = opening_right name tx write
  decision_finds (command.Close name) = in_right name (closing k) closing_right
  decision_finds (command.Begin name serializable) = beginning_right name serializable
  decision_finds (command.Start name t) = in_right name (λ s session. for_transaction k t (starting k s session)) (λ s session there. for_right t (starting k s session) (λ n tx. starting_right s session n there tx))
  decision_finds (command.Suspend name) = in_right name suspending suspending_right
  decision_finds (command.End name ok) = in_right name (λ s session. ending s session ok) (λ s session there. ending_right s session ok there)
  decision_finds (command.Status name) = in_right name (λ s session. telling_state session) (λ s session there. state_right session)
  decision_finds (command.Commit t) = for_right t (committing S limits k) committing_right
  decision_finds (command.Rollback t) = for_right t (λ n. does (RollsBack n) reply.Done) (λ n tx. tx)
  decision_finds (command.Home name home) = in_right name (λ s session. telling_home S home) (λ s session there. home_right home)
  decision_finds (command.Create name home values) = by_data name (λ s session. creating S k.next session home values)
  decision_finds (command.Make name home factory values) = by_data name (λ s session. making S k.next session home factory values)
  decision_finds (command.Find name home key values) = by_data name (λ s session. finding S home key values >>= λ op. Ok (obtaining op))
  decision_finds (command.FindRef name home key values) = by_data name (λ s session. finding S home key values >>= λ op. Ok (only op))
  decision_finds (command.Pid name pid) = by_data name (λ s session. Ok (obtaining (Ask (FindPid pid))))
  decision_finds (command.Short name home serial) = by_data name (λ s session. shortening S home serial)
  decision_finds (command.Exists name n) = by_data name (λ s session. asking_whether (copies_of k s) n)
  decision_finds (command.Get name n member) = by_data name (λ s session. getting S (copies_of k s) n member)
  decision_finds (command.Set name n member value) = by_data name (λ s session. setting S session (copies_of k s) n member value)
  decision_finds (command.Destroy name n) = by_data name (λ s session. destroying session (copies_of k s) n)
  decision_finds (command.Follow name n member) = by_data name (λ s session. following S (copies_of k s) n member)
  decision_finds (command.Count name home) = by_data name (λ s session. asking_of_home S home (λ h. Ask (Count h)))
  decision_finds (command.List name home) = by_data name (λ s session. asking_of_home S home (λ h. Ask (ListOf h)))
  decision_finds (command.PidOf name n) = in_right name (λ s session. telling_pid k s n) (λ s session there. entry_right s n (λ e. says (reply.PidAndShort e.pid)) (λ e. tt))
  decision_finds (command.Dup name n) = in_right name (λ s session. recounting k s n (λ count. count + 1)) (λ s session there. entry_right s n _ (λ e. tt))
  decision_finds (command.Release name n) = in_right name (λ s session. recounting k s n (λ count. count - 1)) (λ s session there. entry_right s n _ (λ e. tt))
  decision_finds (command.FreeAll name) = in_right name (λ s session. freeing k s) (λ s session there. tt)
  decision_finds (command.Flush name) = in_right name (λ s session. flushing S limits k session) (λ s session there. flushing_right session)
  decision_finds (command.Refresh name) = in_right name (refreshing k) (λ s session there. refreshing_right s session)
  decision_finds command.Checkpoint = tt
  decision_finds command.Stat = tt
  decision_finds command.History = tt

-- ---- what each effect leaves

settled_same : (k : Kept) (n : OwnerNo) → Owned k → Owned (settled k n)
settled_same k n own = of_given Owned (get k.owners n.0) k _ own (λ owner there. own)

settled_is : (k : Kept) (n m : OwnerNo) → is_transaction (settled k n).owners m.0 ≡ is_transaction k.owners m.0
settled_is k n m = of_given (λ j. is_transaction j.owners m.0 ≡ is_transaction k.owners m.0) (get k.owners n.0) k _ refl (λ owner there. refl)

finds_kind : (x : Session) (n : OwnerNo) → x.kind ≡ Basic n → owner_of x ≡ Some n
finds_kind x n kind = ap (λ k. owner_of (record { name = x.name; kind = k; access = x.access; association = x.association })) kind

is_one : (x : Session) (n : OwnerNo) → x.kind ≡ Basic n → sessions.is_basic x ≡ true
is_one x n kind = ap (λ k. sessions.is_basic (record { name = x.name; kind = k; access = x.access; association = x.association })) kind

-- where a basic session has gone, no other belongs to its owner
none_left : (k : Kept) (s : SessionNo) (n : OwnerNo) → Owned k → Leaves k s n → (t : ℕ) (x : Session) → get (remove k.sessions s.0) t ≡ Some x → owner_of x ≡ Some n → ⊥
none_left k s n own leaves t x there of = by (same_or_apart t s.0)
  where
    o : IsOwned k.owners leaves.session n
    o = own.each s.0 leaves.session n leaves.there (finds_kind leaves.session n leaves.kind)

    at : (t ≡ s.0 → ⊥) → get k.sessions t ≡ Some x
    at ne = sym (remove_apart k.sessions s.0 t ne) ∙ there

    kind_of : (x : Session) → owner_of x ≡ Some n → sessions.is_basic x ≡ true → x.kind ≡ Basic n
    kind_of x of b = two x.kind of b
      where
        two : (kind : Kind) → owner_of (record { name = x.name; kind = kind; access = x.access; association = x.association }) ≡ Some n → sessions.is_basic (record { name = x.name; kind = kind; access = x.access; association = x.association }) ≡ true → kind ≡ Basic n
        two (Basic m) of b = ap Basic (same_some of)
        two Transactional of b = absurd cc

    by : ((t ≡ s.0) ⊎ (t ≡ s.0 → ⊥)) → ⊥
    by (inl is) = none_some (sym (ap (get (remove k.sessions s.0)) is ∙ remove_here k.sessions s.0) ∙ there)
    by (inr ne) =
        let other = own.each t x n (at ne) of in
        let same : other.owner ≡ o.owner = same_some (sym other.there ∙ o.there) in
        let basic : sessions.is_basic x ≡ true = sym other.kind ∙ ap (λ (z : Owner). is_basic z.level) same ∙ o.kind ∙ is_one leaves.session n leaves.kind in
        ne (own.apart t s.0 x leaves.session n (at ne) leaves.there (kind_of x of basic) leaves.kind)

tied_number : (k : Kept) (s : SessionNo) (a : Association) (ties : Ties k s a) (m : OwnerNo) → transaction_of a ≡ Some m → m ≡ ties.number
tied_number k s a ties m is = same_some (sym is ∙ ties.with_it)

tied_kind : (k : Kept) (s : SessionNo) (a : Association) (ties : Ties k s a) (x : Session) → get k.sessions s.0 ≡ Some x → x.kind ≡ Transactional
tied_kind k s a ties x there = ap (λ (z : Session). z.kind) (same_some (sym there ∙ ties.there)) ∙ ties.kind

pub moved_owned : (k : Kept) (effect : Effect) → Finds k effect → Owned k → Owned (moved k effect)
moved_owned k Stays finds own = own
moved_owned k (OpensBasic name access) finds own = owned_basic k.owners k.sessions k.next_owner own k.next_session name access
moved_owned k (OpensTransactional name access) finds own = owned_session k.owners k.sessions k.next_owner own k.next_session _ refl
moved_owned k (ClosesBasic s n) finds own = owned_without k.owners (remove k.sessions s.0) k.next_owner (owned_less k.owners k.sessions k.next_owner own s.0) n (none_left k s n own finds)
moved_owned k (ClosesTransactional s) finds own = owned_less k.owners k.sessions k.next_owner own s.0
moved_owned k (Begins name level) finds own = owned_more k.owners k.sessions k.next_owner own level
moved_owned k (Associates s a) finds own = owned_associated k.owners k.sessions k.next_owner own s.0 a finds.number (tied_kind k s a finds) (tied_number k s a finds) finds.transaction
moved_owned k (Ends s n failed) finds own = owned_associated k.owners k.sessions k.next_owner own s.0 (Ending n) finds.number (tied_kind k s (Ending n) finds) (tied_number k s (Ending n) finds) finds.transaction
moved_owned k (Holds s copies) finds own = own
moved_owned k (Steps n s step asked) finds own = owned_with k.owners k.sessions k.next_owner own n.0 (stepped step) (λ o. refl)
moved_owned k (Commits n) finds own = owned_finished (settled k n).owners (settled k n).sessions (settled k n).next_owner (settled_same k n own) n (settled_is k n n ∙ finds)
moved_owned k (Flushes n) finds own = owned_with (settled k n).owners (settled k n).sessions (settled k n).next_owner (settled_same k n own) n.0 (λ o. new_owner o.level) (λ o. refl)
moved_owned k (RollsBack n) finds own = owned_finished k.owners k.sessions k.next_owner own n finds

-- ---- runs

module _ (S : Schema) (limits : Limits) where
  turn_owned : (q : Machine) (x : Said) → Owned q.kept → Owned (turn S limits q x).kept
  turn_owned q Silent own = own
  turn_owned q (Wrong column) own = own
  turn_owned q (Says command) own = moved_owned q.kept (decision S limits q.kept command).effect (decision_finds S limits q.kept own command) own

  run_owned : (lines : List Said) (q : Machine) → Owned q.kept → Owned (run S limits q lines).kept
  run_owned [] q own = own
  run_owned (x ∷ lines) q own = run_owned lines (turn S limits q x) (turn_owned q x own)

pub first_owned : (M : Catalog) (next : ℕ) → Owned (first M next).kept
first_owned M next = record {
  each = λ s session n there of. absurd (none_some (sym (get-empty {X = Session} nat_cmp s) ∙ there));
  apart = λ s t x y n p q ka kb. absurd (none_some (sym (get-empty {X = Session} nat_cmp s) ∙ p));
  alone = λ s session n there kind. absurd (none_some (sym (get-empty {X = Session} nat_cmp s) ∙ there));
  fresh = λ n le. get-empty {X = Owner} nat_cmp n;
}

pub always_owned : SessionsAreOwned
always_owned S limits M next lines = run_owned S limits lines (first M next) (first_owned M next)
