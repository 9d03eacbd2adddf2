-- What every command comes to: a step of what it asks, or entries that it holds.
use Rattle.std.proofs.Common.{arith, ◌≡◌, ℕ, Bool, true, false, List, [], Option, Some, None, refl, sym, subst}
use Rattle.std.specs.Prelude.{◌+◌, ◌-◌, Result, Ok, Err}
use Rattle.pss_base.specs.declared.owner.OwnerNo.{OwnerNo}
use Rattle.pss_base.specs.declared.session.SessionNo.{SessionNo}
use Rattle.type_layout.specs.declared.schema.Schema.{Schema}
use Rattle.type_layout.specs.Schemas.{given}
use Rattle.pss_machine.specs.declared.limits.Limits.{Limits}
use Rattle.pss_machine.specs.declared.command.Command.{Command}
use Rattle.pss_machine.specs.declared.command.Command.TheVariants as command
use Rattle.pss_machine.specs.declared.reply.Reply.{Reply}
use Rattle.pss_machine.specs.declared.reply.Reply.TheVariants as reply
use Rattle.pss_machine.specs.Operations.{FindPid, Count, ListOf, Ask, Busy}
use Rattle.pss_machine.specs.Owners.{Owner, Step, blocker}
use Rattle.pss_machine.specs.Sessions.{Session, session_named}
use Rattle.pss_machine.specs.declared.session.Kind.{Kind}
use Rattle.pss_machine.specs.declared.session.Kind.TheVariants.{Basic, Transactional}
use Rattle.pss_machine.specs.Copies.{Copies, Entry, entry_numbered}
use Rattle.pss_machine.specs.Kept.{Kept, Actor, actor_in, copies_of, transaction_named}
use Rattle.pss_machine.specs.Asking.{Asked, ◌>>=◌, refused_where, obtaining, only, creating, making, finding, shortening, asking_whether, getting, setting, destroying, following, asking_of_home}
use Rattle.pss_machine.specs.Effects.{Effect, Steps, Holds, RollsBack, Decision, does, says}
use Rattle.pss_machine.specs.Stepping.{within, step_of, reply_to, decided, data_command}
use Rattle.pss_machine.specs.Deciding.{in_session, for_transaction, opening, beginning, closing, starting, suspending, ending, telling_state, committing, flushing, with_entry, recounting, telling_pid, refreshed, refreshing, telling_home, freeing, counting, decision}
use Rattle.pss_machine.proofs.Cases.{of_given}

-- ---- what is asked

-- what was not refused has the property
abbrev pub Okay : {A : Type 0} → (A → Type 0) → Result A Reply → Type 0
Okay P (Ok x) = P x
Okay P (Err refusal) = Unit {0}

pub okay_then : {A B : Type 0} (P : B → Type 0) (r : Result A Reply) (f : A → Result B Reply) → ((x : A) → Okay P (f x)) → Okay P (r >>= f)
okay_then P (Ok x) f h = h x
okay_then P (Err refusal) f h = tt

pub okay_where : {A : Type 0} (P : A → Type 0) (b : Bool) (refusal : Reply) (r : Result A Reply) → Okay P r → Okay P (refused_where b refusal r)
okay_where P true refusal r h = tt
okay_where P false refusal r h = h

-- what a data command asks in a session
abbrev pub asked_by : Schema → Kept → Command → SessionNo → Session → Result Asked Reply
asked_by S k (command.Create name home values) s session = creating S k.next session home values
asked_by S k (command.Make name home factory values) s session = making S k.next session home factory values
asked_by S k (command.Find name home key values) s session = finding S home key values >>= λ op. Ok (obtaining op)
asked_by S k (command.FindRef name home key values) s session = finding S home key values >>= λ op. Ok (only op)
asked_by S k (command.Pid name pid) s session = Ok (obtaining (Ask (FindPid pid)))
asked_by S k (command.Short name home serial) s session = shortening S home serial
asked_by S k (command.Exists name n) s session = asking_whether (copies_of k s) n
asked_by S k (command.Get name n member) s session = getting S (copies_of k s) n member
asked_by S k (command.Set name n member value) s session = setting S session (copies_of k s) n member value
asked_by S k (command.Destroy name n) s session = destroying session (copies_of k s) n
asked_by S k (command.Follow name n member) s session = following S (copies_of k s) n member
asked_by S k (command.Count name home) s session = asking_of_home S home (λ h. Ask (Count h))
asked_by S k (command.List name home) s session = asking_of_home S home (λ h. Ask (ListOf h))
asked_by S k _ s session = Err reply.Done

-- what holds of the step of what is asked, and of the entries that are held
abbrev pub Comes : (SessionNo → Asked → Type 0) → (SessionNo → Copies → Type 0) → Effect → Type 0
Comes Q P (Steps n s step asked) = Q s asked
Comes Q P (Holds s copies) = P s copies
Comes Q P _ = Unit {0}

-- ---- the effects

module _ (S : Schema) (limits : Limits) (k : Kept) (Q : SessionNo → Asked → Type 0) (P : SessionNo → Copies → Type 0) where
  abbrev Right : Decision → Type 0
  Right d = Comes Q P d.effect

  decided_right : (s : SessionNo) (actor : Actor) (asked : Result Asked Reply) → Okay (Q s) asked → Right (decided S k s actor (asked >>= within limits k.next actor.owner (copies_of k s)))
  decided_right s actor (Err refusal) fits = tt
  decided_right s actor (Ok asked) fits = by_limits (within limits k.next actor.owner (copies_of k s) asked) refl
    where
      within_same : (next : ℕ) (owner : Owner) (copies : Copies) (asked other : Asked) → within limits next owner copies asked ≡ Ok other → other ≡ asked
      within_same next owner copies asked other e = grind arith

      by_blocker : (asked : Asked) → Q s asked → (step : Step) (o : Option OwnerNo) → Right (given o (does (Steps actor.number s step asked) (reply_to S k (copies_of k s) asked step.answer)) (λ b. says (reply_to S k (copies_of k s) asked (Busy b))))
      by_blocker asked fits step None = fits
      by_blocker asked fits step (Some b) = tt

      by_limits : (r : Result Asked Reply) → within limits k.next actor.owner (copies_of k s) asked ≡ r → Right (decided S k s actor r)
      by_limits (Err refusal) e = tt
      by_limits (Ok other) e =
          by_blocker other (subst (Q s) (sym (within_same k.next actor.owner (copies_of k s) asked other e)) fits) (step_of S k.catalog actor.owner (copies_of k s) other)
          (blocker k.owners actor.number (step_of S k.catalog actor.owner (copies_of k s) other).needs)

  data_right : (s : SessionNo) (session : Session) (asked : Result Asked Reply) → Okay (Q s) asked → Right (data_command S limits k s session asked)
  data_right s session asked fits =
      of_given Right (actor_in k.owners session) (says reply.NoTx) (λ actor. decided S k s actor (asked >>= within limits k.next actor.owner (copies_of k s))) tt (λ actor e. decided_right s actor asked fits)

  in_right : (name : List ℕ) (f : SessionNo → Session → Decision) → ((s : SessionNo) (session : Session) → Right (f s session)) → Right (in_session k name f)
  in_right name f h = of_given Right (session_named k.sessions name) (says reply.NoSession) (λ e. f (record { 0 = e.0 }) e.1) tt (λ e _. h (record { 0 = e.0 }) e.1)

  for_right : (name : List ℕ) (f : OwnerNo → Decision) → ((n : OwnerNo) → Right (f n)) → Right (for_transaction k name f)
  for_right name f h = of_given Right (transaction_named k name) (says reply.NoTransaction) f tt (λ n _. h n)

  by_data : (name : List ℕ) (asked : SessionNo → Session → Result Asked Reply) → ((s : SessionNo) (session : Session) → Okay (Q s) (asked s session))
      → Right (in_session k name (λ s session. data_command S limits k s session (asked s session)))
  by_data name asked h = in_right name (λ s session. data_command S limits k s session (asked s session)) (λ s session. data_right s session (asked s session) (h s session))

  opening_right : (name : List ℕ) (tx write : Bool) → Right (opening limits k name tx write)
  opening_right name tx write = grind arith

  beginning_right : (name : List ℕ) (serializable : Bool) → Right (beginning limits k name serializable)
  beginning_right name serializable = grind arith

  closing_right : (s : SessionNo) (session : Session) → Right (closing k s session)
  closing_right s session = grind arith

  starting_right : (s : SessionNo) (session : Session) (n : OwnerNo) → Right (starting k s session n)
  starting_right s session n = grind arith

  suspending_right : (s : SessionNo) (session : Session) → Right (suspending s session)
  suspending_right s session = grind arith

  ending_right : (s : SessionNo) (session : Session) (ok : Bool) → Right (ending s session ok)
  ending_right s session ok = grind arith

  state_right : (session : Session) → Right (telling_state session)
  state_right session = grind arith

  committing_right : (n : OwnerNo) → Right (committing S limits k n)
  committing_right n = grind arith

  flushing_right : (session : Session) → Right (flushing S limits k session)
  flushing_right session = grind arith

  entry_right : (s : SessionNo) (n : ℕ) (f : Entry → Decision) → ((e : Entry) → Right (f e)) → Right (with_entry k s n f)
  entry_right s n f h = of_given Right (entry_numbered (copies_of k s) n) (says reply.NoEntry) f tt (λ e _. h e)

  recount_right : (name : List ℕ) (n : ℕ) (change : ℕ → ℕ) → ((s : SessionNo) (count : ℕ) → P s (counting n count (copies_of k s))) → Right (in_session k name (λ s session. recounting k s n change))
  recount_right name n change held =
      in_right name (λ s session. recounting k s n change)
      (λ s session. entry_right s n (λ e. does (Holds s (counting n (change e.count) (copies_of k s))) (reply.Count (change e.count))) (λ e. held s (change e.count)))

  refreshing_right : (s : SessionNo) (session : Session) → ((session : Session) → P s (refreshed k s session)) → Right (refreshing k s session)
  refreshing_right s session held = by_kind session.kind
    where
      by_kind : (kind : Kind) → Right (refreshing k s (record { name = session.name; kind = kind; access = session.access; association = session.association }))
      by_kind (Basic n) = held (record { name = session.name; kind = Basic n; access = session.access; association = session.association })
      by_kind Transactional = tt

  home_right : (word : List ℕ) → Right (telling_home S word)
  home_right word = grind arith

  -- what is asked has the property, and so have the entries that are counted anew, freed and refreshed
  pub record Each : Type 0 where
    pub asked : (command : Command) (s : SessionNo) (session : Session) → Okay (Q s) (asked_by S k command s session)
    pub counted : (s : SessionNo) (n count : ℕ) → P s (counting n count (copies_of k s))
    pub freed : (s : SessionNo) → P s (record { last = (copies_of k s).last; entries = [] })
    pub refreshed : (s : SessionNo) (session : Session) → P s (refreshed k s session)

  pub comes : Each → (command : Command) → Right (decision S limits k command)
  comes each (command.OpenSession name tx write) = opening_right name tx write
  comes each (command.Close name) = in_right name (closing k) closing_right
  comes each (command.Begin name serializable) = beginning_right name serializable
  comes each (command.Start name t) = in_right name (λ s session. for_transaction k t (starting k s session)) (λ s session. for_right t (starting k s session) (starting_right s session))
  comes each (command.Suspend name) = in_right name suspending suspending_right
  comes each (command.End name ok) = in_right name (λ s session. ending s session ok) (λ s session. ending_right s session ok)
  comes each (command.Status name) = in_right name (λ s session. telling_state session) (λ s session. state_right session)
  comes each (command.Commit t) = for_right t (committing S limits k) committing_right
  comes each (command.Rollback t) = for_right t (λ n. does (RollsBack n) reply.Done) (λ n. tt)
  comes each (command.Home name home) = in_right name (λ s session. telling_home S home) (λ s session. home_right home)
  comes each (command.Create name home values) = by_data name (λ s session. creating S k.next session home values) (each.asked (command.Create name home values))
  comes each (command.Make name home factory values) = by_data name (λ s session. making S k.next session home factory values) (each.asked (command.Make name home factory values))
  comes each (command.Find name home key values) = by_data name (λ s session. finding S home key values >>= λ op. Ok (obtaining op)) (each.asked (command.Find name home key values))
  comes each (command.FindRef name home key values) = by_data name (λ s session. finding S home key values >>= λ op. Ok (only op)) (each.asked (command.FindRef name home key values))
  comes each (command.Pid name pid) = by_data name (λ s session. Ok (obtaining (Ask (FindPid pid)))) (each.asked (command.Pid name pid))
  comes each (command.Short name home serial) = by_data name (λ s session. shortening S home serial) (each.asked (command.Short name home serial))
  comes each (command.Exists name n) = by_data name (λ s session. asking_whether (copies_of k s) n) (each.asked (command.Exists name n))
  comes each (command.Get name n member) = by_data name (λ s session. getting S (copies_of k s) n member) (each.asked (command.Get name n member))
  comes each (command.Set name n member value) = by_data name (λ s session. setting S session (copies_of k s) n member value) (each.asked (command.Set name n member value))
  comes each (command.Destroy name n) = by_data name (λ s session. destroying session (copies_of k s) n) (each.asked (command.Destroy name n))
  comes each (command.Follow name n member) = by_data name (λ s session. following S (copies_of k s) n member) (each.asked (command.Follow name n member))
  comes each (command.Count name home) = by_data name (λ s session. asking_of_home S home (λ h. Ask (Count h))) (each.asked (command.Count name home))
  comes each (command.List name home) = by_data name (λ s session. asking_of_home S home (λ h. Ask (ListOf h))) (each.asked (command.List name home))
  comes each (command.PidOf name n) = in_right name (λ s session. telling_pid k s n) (λ s session. entry_right s n (λ e. says (reply.PidAndShort e.pid)) (λ e. tt))
  comes each (command.Dup name n) = recount_right name n (λ count. count + 1) (λ s. each.counted s n)
  comes each (command.Release name n) = recount_right name n (λ count. count - 1) (λ s. each.counted s n)
  comes each (command.FreeAll name) = in_right name (λ s session. freeing k s) (λ s session. each.freed s)
  comes each (command.Flush name) = in_right name (λ s session. flushing S limits k session) (λ s session. flushing_right session)
  comes each (command.Refresh name) = in_right name (refreshing k) (λ s session. refreshing_right s session (each.refreshed s))
  comes each command.Checkpoint = tt
  comes each command.Stat = tt
  comes each command.History = tt
