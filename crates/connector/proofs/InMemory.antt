-- Commands that have nothing to do with the store change no object and store nothing.
use Rattle.std.proofs.Common.{ℕ, ◌+◌, ◌-◌, Bool, List, refl, arith}
use Rattle.std.specs.Prelude.{Result, Ok, Err}
use Rattle.pss_base.specs.declared.owner.OwnerNo.{OwnerNo}
use Rattle.pss_base.specs.declared.session.SessionNo.{SessionNo}
use Rattle.type_layout.specs.declared.schema.Schema.{Schema}
use Rattle.pss_machine.specs.declared.limits.Limits.{Limits}
use Rattle.pss_machine.specs.declared.command.Command.{Command}
use Rattle.pss_machine.specs.declared.command.Command.TheVariants as command
use Rattle.pss_machine.specs.declared.reply.Reply.{Reply}
use Rattle.pss_machine.specs.declared.reply.Reply.TheVariants as reply
use Rattle.pss_machine.specs.Operations.{FindPid, Count, ListOf, Ask, Busy}
use Rattle.pss_machine.specs.Owners.{blocker, Step}
use Rattle.pss_machine.specs.Sessions.{Session, session_named}
use Rattle.pss_machine.specs.Copies.{Entry, entry_numbered}
use Rattle.pss_machine.specs.Kept.{Kept, Actor, actor_in, copies_of, transaction_named}
use Rattle.pss_machine.specs.Asking.{Asked, ◌>>=◌, obtaining, only, creating, making, finding, shortening, asking_whether, getting, setting, destroying, following, asking_of_home}
use Rattle.pss_machine.specs.Effects.{Effect, Stays, OpensBasic, OpensTransactional, ClosesBasic, ClosesTransactional, Begins, Associates, Ends, Holds, Steps, Commits, Flushes, RollsBack, Decision, does, says}
use Rattle.pss_machine.specs.Stepping.{within, step_of, reply_to, unless_busy, decided, data_command}
use Rattle.pss_machine.specs.Deciding.{in_session, for_transaction, opening, beginning, closing, starting, suspending, ending, telling_state, with_entry, counting, recounting, telling_pid, refreshing, freeing, telling_home, decision}
use Rattle.pss_machine.proofs.Cases.{of_given}
use Rattle.commit_calls.proofs.Commitments.{KeepsStored}
use Rattle.connector.specs.Storing.{IsInMemory}

-- an effect that is no commit
abbrev IsPlain : Effect → Type 0
IsPlain (Commits n) = ⊥
IsPlain (Flushes n) = ⊥
IsPlain _ = Unit {0}

plain_nothing : (k : Kept) (e : Effect) → IsPlain e → KeepsStored k e
plain_nothing k Stays plain = record { catalog = refl; saved = λ saved. refl }
plain_nothing k (OpensBasic name access) plain = record { catalog = refl; saved = λ saved. refl }
plain_nothing k (OpensTransactional name access) plain = record { catalog = refl; saved = λ saved. refl }
plain_nothing k (ClosesBasic s n) plain = record { catalog = refl; saved = λ saved. refl }
plain_nothing k (ClosesTransactional s) plain = record { catalog = refl; saved = λ saved. refl }
plain_nothing k (Begins name level) plain = record { catalog = refl; saved = λ saved. refl }
plain_nothing k (Associates s association) plain = record { catalog = refl; saved = λ saved. refl }
plain_nothing k (Ends s n failed) plain = record { catalog = refl; saved = λ saved. refl }
plain_nothing k (Holds s copies) plain = record { catalog = refl; saved = λ saved. refl }
plain_nothing k (Steps n s step asked) plain = record { catalog = refl; saved = λ saved. refl }
plain_nothing k (Commits n) plain = absurd plain
plain_nothing k (Flushes n) plain = absurd plain
plain_nothing k (RollsBack n) plain = record { catalog = refl; saved = λ saved. refl }

module _ (S : Schema) (limits : Limits) (k : Kept) where
  abbrev Right : Decision → Type 0
  Right d = IsPlain d.effect

  busy_right : (s : SessionNo) (n : OwnerNo) (asked : Asked) (step : Step) → Right (unless_busy S k s n asked step)
  busy_right s n asked step = of_given Right (blocker k.owners n step.needs) (does (Steps n s step asked) (reply_to S k (copies_of k s) asked step.answer)) (λ b. says (reply_to S k (copies_of k s) asked (Busy b))) tt (λ b there. tt)

  decided_right : (s : SessionNo) (actor : Actor) (asked : Result Asked Reply) → Right (decided S k s actor asked)
  decided_right s actor (Err refusal) = tt
  decided_right s actor (Ok asked) = busy_right s actor.number asked (step_of S k.catalog actor.owner (copies_of k s) asked)

  data_right : (s : SessionNo) (session : Session) (asked : Result Asked Reply) → Right (data_command S limits k s session asked)
  data_right s session asked =
      of_given Right (actor_in k.owners session) (says reply.NoTx) (λ actor. decided S k s actor (asked >>= within limits k.next actor.owner (copies_of k s)))
      tt
      (λ actor e. decided_right s actor (asked >>= within limits k.next actor.owner (copies_of k s)))

  in_right : (name : List ℕ) (f : SessionNo → Session → Decision) → ((s : SessionNo) (session : Session) → Right (f s session)) → Right (in_session k name f)
  in_right name f h = of_given Right (session_named k.sessions name) (says reply.NoSession) (λ e. f (record { 0 = e.0 }) e.1) tt (λ e there. h (record { 0 = e.0 }) e.1)

  for_right : (name : List ℕ) (f : OwnerNo → Decision) → ((n : OwnerNo) → Right (f n)) → Right (for_transaction k name f)
  for_right name f h = of_given Right (transaction_named k name) (says reply.NoTransaction) f tt (λ n there. h n)

  by_data : (name : List ℕ) (asked : SessionNo → Session → Result Asked Reply) → Right (in_session k name (λ s session. data_command S limits k s session (asked s session)))
  by_data name asked = in_right name (λ s session. data_command S limits k s session (asked s session)) (λ s session. data_right s session (asked s session))

  opening_right : (name : List ℕ) (tx write : Bool) → Right (opening limits k name tx write)
  opening_right name tx write = grind arith

  beginning_right : (name : List ℕ) (serializable : Bool) → Right (beginning limits k name serializable)
  beginning_right name serializable = grind arith

  closing_right : (s : SessionNo) (session : Session) → Right (closing k s session)
  closing_right s session = grind arith

  starting_right : (s : SessionNo) (session : Session) (n : OwnerNo) → Right (starting k s session n)
  starting_right s session n = grind arith

  suspending_right : (s : SessionNo) (session : Session) → Right (suspending s session)
  suspending_right s session = grind arith

  ending_right : (s : SessionNo) (session : Session) (ok : Bool) → Right (ending s session ok)
  ending_right s session ok = grind arith

  state_right : (session : Session) → Right (telling_state session)
  state_right session = grind arith

  entry_right : (s : SessionNo) (n : ℕ) (f : Entry → Decision) → ((e : Entry) → Right (f e)) → Right (with_entry k s n f)
  entry_right s n f h =
      of_given Right (entry_numbered (copies_of k s) n) (says reply.NoEntry) f tt (λ e there. h e)

  recount_right : (name : List ℕ) (n : ℕ) (change : ℕ → ℕ) → Right (in_session k name (λ s session. recounting k s n change))
  recount_right name n change =
      in_right name (λ s session. recounting k s n change) (λ s session. entry_right s n (λ e. does (Holds s (counting n (change e.count) (copies_of k s))) (reply.Count (change e.count))) (λ e. tt))

  refreshing_right : (s : SessionNo) (session : Session) → Right (refreshing k s session)
  refreshing_right s session = grind arith

  home_right : (word : List ℕ) → Right (telling_home S word)
  home_right word = grind arith

  decision_right : (command : Command) → IsInMemory command → Right (decision S limits k command)
  decision_right (command.OpenSession name tx write) memory = opening_right name tx write
  decision_right (command.Close name) memory = in_right name (closing k) closing_right
  decision_right (command.Begin name serializable) memory = beginning_right name serializable
  decision_right (command.Start name t) memory = in_right name (λ s session. for_transaction k t (starting k s session)) (λ s session. for_right t (starting k s session) (starting_right s session))
  decision_right (command.Suspend name) memory = in_right name suspending suspending_right
  decision_right (command.End name ok) memory = in_right name (λ s session. ending s session ok) (λ s session. ending_right s session ok)
  decision_right (command.Status name) memory = in_right name (λ s session. telling_state session) (λ s session. state_right session)
  decision_right (command.Commit t) memory = absurd memory
  decision_right (command.Rollback t) memory = for_right t (λ n. does (RollsBack n) reply.Done) (λ n. tt)
  decision_right (command.Home name home) memory = in_right name (λ s session. telling_home S home) (λ s session. home_right home)
  decision_right (command.Create name home values) memory = by_data name (λ s session. creating S k.next session home values)
  decision_right (command.Make name home factory values) memory = by_data name (λ s session. making S k.next session home factory values)
  decision_right (command.Find name home key values) memory = by_data name (λ s session. finding S home key values >>= λ op. Ok (obtaining op))
  decision_right (command.FindRef name home key values) memory = by_data name (λ s session. finding S home key values >>= λ op. Ok (only op))
  decision_right (command.Pid name pid) memory = by_data name (λ s session. Ok (obtaining (Ask (FindPid pid))))
  decision_right (command.Short name home serial) memory = by_data name (λ s session. shortening S home serial)
  decision_right (command.Exists name n) memory = by_data name (λ s session. asking_whether (copies_of k s) n)
  decision_right (command.Get name n member) memory = by_data name (λ s session. getting S (copies_of k s) n member)
  decision_right (command.Set name n member value) memory = by_data name (λ s session. setting S session (copies_of k s) n member value)
  decision_right (command.Destroy name n) memory = by_data name (λ s session. destroying session (copies_of k s) n)
  decision_right (command.Follow name n member) memory = by_data name (λ s session. following S (copies_of k s) n member)
  decision_right (command.Count name home) memory = by_data name (λ s session. asking_of_home S home (λ h. Ask (Count h)))
  decision_right (command.List name home) memory = by_data name (λ s session. asking_of_home S home (λ h. Ask (ListOf h)))
  decision_right (command.PidOf name n) memory = in_right name (λ s session. telling_pid k s n) (λ s session. entry_right s n (λ e. says (reply.PidAndShort e.pid)) (λ e. tt))
  decision_right (command.Dup name n) memory = recount_right name n (λ count. count + 1)
  decision_right (command.Release name n) memory = recount_right name n (λ count. count - 1)
  decision_right (command.FreeAll name) memory = in_right name (λ s session. freeing k s) (λ s session. tt)
  decision_right (command.Flush name) memory = absurd memory
  decision_right (command.Refresh name) memory = in_right name (refreshing k) refreshing_right
  decision_right command.Checkpoint memory = absurd memory
  decision_right command.Stat memory = tt
  decision_right command.History memory = tt

  -- so of each of them
  pub in_memory_nothing : (command : Command) → IsInMemory command → KeepsStored k (decision S limits k command).effect
  in_memory_nothing command memory = plain_nothing k (decision S limits k command).effect (decision_right command memory)
