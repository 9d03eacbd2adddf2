-- A refused command has no effect.
use Rattle.std.proofs.Common.{arith, ◌≡◌, ℕ, Bool, true, false, List, [], Option, Some, None, refl}
use Rattle.std.specs.Prelude.{IsTrue, ◌+◌, ◌-◌, Result, Ok, Err, if◌then◌else◌}
use Rattle.std.specs.List.{slice_get, flat_map}
use Rattle.pss_base.specs.declared.pid.Pid.{Pid}
use Rattle.pss_base.specs.declared.owner.OwnerNo.{OwnerNo}
use Rattle.pss_base.specs.declared.session.SessionNo.{SessionNo}
use Rattle.type_layout.specs.declared.schema.Schema.{Schema}
use Rattle.type_layout.specs.Types.{PlainValue}
use Rattle.type_layout.specs.Schemas.{given}
use Rattle.pss_catalog.specs.Catalog.{Object, Catalog, has, references}
use Rattle.pss_machine.specs.declared.limits.Limits.{Limits}
use Rattle.pss_machine.specs.declared.command.Command.{Command}
use Rattle.pss_machine.specs.declared.command.Command.TheVariants as command
use Rattle.pss_machine.specs.declared.reply.Reply.{Reply}
use Rattle.pss_machine.specs.declared.reply.Reply.TheVariants as reply
use Rattle.pss_machine.specs.Operations.{Question, FindKey, FindPid, FindShort, Exists, Get, Follow, Count, ListOf, PlainOp, Create, Set, Destroy, Ask, PlainAnswer, Done, Found, IsThere, Val, Number, Listing, NotFound, Gone, Nil, Duplicate, TooLarge, Busy}
use Rattle.pss_machine.specs.Alone.{Outcome, answers, alone, told, followed, stored, unless_gone, member_told, object_of, found_by_key, first_gone, pid_at}
use Rattle.pss_machine.specs.Owners.{Owner, is_basic, Step, step_on_view, view, blocker}
use Rattle.pss_machine.specs.Sessions.{Session, session_named}
use Rattle.pss_machine.specs.Copies.{Copies, Entry, entry_numbered}
use Rattle.pss_machine.specs.Kept.{Kept, Actor, actor_in, copies_of, transaction_named}
use Rattle.pss_machine.specs.Asking.{Asked, ◌>>=◌, obtaining, only, creating, making, finding, shortening, asking_whether, getting, setting, destroying, following, asking_of_home}
use Rattle.pss_machine.specs.Effects.{Effect, Steps, Holds, RollsBack, Decision, does, says}
use Rattle.pss_machine.specs.Stepping.{within, copied_values, copied_answer, step_on_copy, told_by_copy, step_of, reply_to, unless_busy, decided, data_command}
use Rattle.pss_machine.specs.Deciding.{in_session, for_transaction, opening, beginning, closing, starting, suspending, ending, telling_state, unless_full, committing, flushing, with_entry, recounting, telling_pid, refreshing, telling_home, freeing, counting, decision}
use Rattle.pss_machine.specs.Moving.{moved}
use Rattle.pss_machine.specs.Laws.{is_refusal}
use Rattle.pss_machine.proofs.Cases.{of_given, of_if}

-- ---- no operation alone is held up

abbrev pub is_busy : PlainAnswer → Bool
is_busy (Busy n) = true
is_busy _ = false

abbrev pub IsFree : PlainAnswer → Type 0
IsFree a = is_busy a ≡ false

abbrev FreeOutcome : Outcome → Type 0
FreeOutcome x = IsFree x.answer

module _ (S : Schema) (M : Catalog) where
  followed_free : (p : Pid) (v : PlainValue) → IsFree (followed M p v)
  followed_free p v = grind arith

  member_free : (p : Pid) (i : ℕ) (tell : PlainValue → PlainAnswer) → ((v : PlainValue) → IsFree (tell v)) → IsFree (member_told M p i tell)
  member_free p i tell h = of_given IsFree (object_of M p) (Gone p) (λ object. given (slice_get object.values i) (Gone p) tell) refl (λ object _. of_given IsFree (slice_get object.values i) (Gone p) tell refl (λ v _. h v))

  told_free : (q : Question) → IsFree (told S M q)
  told_free (FindKey h k bytes) = of_given IsFree (found_by_key S M h k bytes) NotFound Found refl (λ p _. refl)
  told_free (FindPid p) = of_if IsFree (has M p) (Found p) NotFound refl refl
  told_free (FindShort h serial) = grind arith
  told_free (Exists p) = refl
  told_free (Get p i) = member_free p i Val (λ v. refl)
  told_free (Follow p i) = member_free p i (followed M p) (followed_free p)
  told_free (Count h) = refl
  told_free (ListOf h) = refl

  stored_free : (serial : ℕ) (object : Object) (end : PlainAnswer) → IsFree end → IsFree (stored S M serial object end).answer
  stored_free serial object end h = grind arith

  gone_free : (pids : List Pid) (x : Outcome) → IsFree x.answer → IsFree (unless_gone M pids x).answer
  gone_free pids x h = of_given FreeOutcome (first_gone M pids) x (λ q. answers (Gone q)) h (λ q _. refl)

  pub alone_free : (op : PlainOp) → IsFree (alone S M op).answer
  alone_free (Create serial object) = gone_free (flat_map references object.values) (stored S M serial object (Found (pid_at serial object))) (stored_free serial object (Found (pid_at serial object)) refl)
  alone_free (Set p i v) = grind (arith, gone_free, stored_free)
  alone_free (Destroy p) = grind arith
  alone_free (Ask q) = told_free q

-- ---- no other reply is a refusal

pub not_both : {b : Bool} → b ≡ false → IsTrue b → ⊥
not_both f t = cc

-- where the reply is a refusal, all stays
abbrev pub Calm : Kept → Decision → Type 0
Calm k d = IsTrue (is_refusal d.reply) → moved k d.effect ≡ k

reply_calm : (S : Schema) (k : Kept) (copies : Copies) (asked : Asked) (a : PlainAnswer) → IsFree a → is_refusal (reply_to S k copies asked a) ≡ false
reply_calm S k copies asked (Found p) free = grind arith
reply_calm S k copies asked Done free = refl
reply_calm S k copies asked (IsThere b) free = refl
reply_calm S k copies asked (Val v) free = refl
reply_calm S k copies asked (Number n) free = refl
reply_calm S k copies asked (Listing n first) free = refl
reply_calm S k copies asked NotFound free = refl
reply_calm S k copies asked (Gone p) free = refl
reply_calm S k copies asked Nil free = refl
reply_calm S k copies asked (Duplicate key) free = refl
reply_calm S k copies asked TooLarge free = refl
reply_calm S k copies asked (Busy n) free = absurd cc

copy_free : (M : Catalog) (values : List PlainValue) (op : PlainOp) (a : PlainAnswer) → told_by_copy M values op ≡ Some a → IsFree a
copy_free M values (Ask (Get p i)) a e = grind arith
copy_free M values (Ask (Follow p i)) a e = grind (arith, followed_free)
copy_free M values (Create serial object) a e = absurd cc
copy_free M values (Set p i v) a e = absurd cc
copy_free M values (Destroy p) a e = absurd cc
copy_free M values (Ask (FindKey h k bytes)) a e = absurd cc
copy_free M values (Ask (FindPid p)) a e = absurd cc
copy_free M values (Ask (FindShort h serial)) a e = absurd cc
copy_free M values (Ask (Exists p)) a e = absurd cc
copy_free M values (Ask (Count h)) a e = absurd cc
copy_free M values (Ask (ListOf h)) a e = absurd cc

abbrev FreeStep : Step → Type 0
FreeStep step = IsFree step.answer

pub step_free : (S : Schema) (M : Catalog) (owner : Owner) (copies : Copies) (asked : Asked) → IsFree (step_of S M owner copies asked).answer
step_free S M owner copies asked =
    of_given FreeStep (copied_answer M owner copies asked) (step_on_view S M owner asked.op) (step_on_copy asked.op)
    (alone_free S (view M owner) asked.op)
    (λ a e. by_level (is_basic owner.level) (copied_values copies asked.entry) a e)
  where
    by_level : (b : Bool) (o : Option (List PlainValue)) (a : PlainAnswer) → (if b then given o None (λ values. told_by_copy (view M owner) values asked.op) else None) ≡ Some a → IsFree a
    by_level true None a e = absurd cc
    by_level true (Some values) a e = copy_free (view M owner) values asked.op a e
    by_level false o a e = absurd cc

module _ (S : Schema) (limits : Limits) (k : Kept) where
  busy_calm : (s : SessionNo) (n : OwnerNo) (asked : Asked) (step : Step) → FreeStep step → Calm k (unless_busy S k s n asked step)
  busy_calm s n asked step free =
      of_given (Calm k) (blocker k.owners n step.needs)
      (does (Steps n s step asked) (reply_to S k (copies_of k s) asked step.answer))
      (λ b. says (reply_to S k (copies_of k s) asked (Busy b)))
      (λ refused. absurd (not_both (reply_calm S k (copies_of k s) asked step.answer free) refused))
      (λ b _ _. refl)

  decided_calm : (s : SessionNo) (actor : Actor) (asked : Result Asked Reply) → Calm k (decided S k s actor asked)
  decided_calm s actor (Ok asked) = busy_calm s actor.number asked (step_of S k.catalog actor.owner (copies_of k s) asked) (step_free S k.catalog actor.owner (copies_of k s) asked)
  decided_calm s actor (Err refusal) = λ _. refl

  data_calm : (s : SessionNo) (session : Session) (asked : Result Asked Reply) → Calm k (data_command S limits k s session asked)
  data_calm s session asked =
      of_given (Calm k) (actor_in k.owners session) (says reply.NoTx) (λ actor. decided S k s actor (asked >>= within limits k.next actor.owner (copies_of k s)))
      (λ _. refl)
      (λ actor _. decided_calm s actor (asked >>= within limits k.next actor.owner (copies_of k s)))

  in_calm : (name : List ℕ) (f : SessionNo → Session → Decision) → ((s : SessionNo) (session : Session) → Calm k (f s session)) → Calm k (in_session k name f)
  in_calm name f h = of_given (Calm k) (session_named k.sessions name) (says reply.NoSession) (λ e. f (record { 0 = e.0 }) e.1) (λ _. refl) (λ e _. h (record { 0 = e.0 }) e.1)

  for_calm : (name : List ℕ) (f : OwnerNo → Decision) → ((n : OwnerNo) → Calm k (f n)) → Calm k (for_transaction k name f)
  for_calm name f h = of_given (Calm k) (transaction_named k name) (says reply.NoTransaction) f (λ _. refl) (λ n _. h n)

  opening_calm : (name : List ℕ) (tx write : Bool) → Calm k (opening limits k name tx write)
  opening_calm name tx write = grind arith

  beginning_calm : (name : List ℕ) (serializable : Bool) → Calm k (beginning limits k name serializable)
  beginning_calm name serializable = grind arith

  closing_calm : (s : SessionNo) (session : Session) → Calm k (closing k s session)
  closing_calm s session = grind arith

  starting_calm : (s : SessionNo) (session : Session) (n : OwnerNo) → Calm k (starting k s session n)
  starting_calm s session n = grind arith

  suspending_calm : (s : SessionNo) (session : Session) → Calm k (suspending s session)
  suspending_calm s session = grind arith

  ending_calm : (s : SessionNo) (session : Session) (ok : Bool) → Calm k (ending s session ok)
  ending_calm s session ok = grind arith

  state_calm : (session : Session) → Calm k (telling_state session)
  state_calm session = grind arith

  full_calm : (n : OwnerNo) (effect : Effect) → Calm k (unless_full S limits k n effect)
  full_calm n effect = grind arith

  committing_calm : (n : OwnerNo) → Calm k (committing S limits k n)
  committing_calm n = grind (arith, full_calm)

  flushing_calm : (session : Session) → Calm k (flushing S limits k session)
  flushing_calm session = grind (arith, full_calm)

  entry_calm : (s : SessionNo) (n : ℕ) (f : Entry → Decision) → ((e : Entry) → Calm k (f e)) → Calm k (with_entry k s n f)
  entry_calm s n f h = of_given (Calm k) (entry_numbered (copies_of k s) n) (says reply.NoEntry) f (λ _. refl) (λ e _. h e)

  refreshing_calm : (s : SessionNo) (session : Session) → Calm k (refreshing k s session)
  refreshing_calm s session = grind arith

  home_calm : (word : List ℕ) → Calm k (telling_home S word)
  home_calm word = grind arith

  -- what is done is no refusal
  absurd_calm : (e : Effect) → Calm k (does e reply.Done)
  absurd_calm e refused = absurd (not_both refl refused)

  by_data : (name : List ℕ) (asked : SessionNo → Session → Result Asked Reply) → Calm k (in_session k name (λ s session. data_command S limits k s session (asked s session)))
  by_data name asked = in_calm name (λ s session. data_command S limits k s session (asked s session)) (λ s session. data_calm s session (asked s session))

  recount_calm : (name : List ℕ) (n : ℕ) (change : ℕ → ℕ) → Calm k (in_session k name (λ s session. recounting k s n change))
  recount_calm name n change =
      in_calm name (λ s session. recounting k s n change)
      (λ s session. entry_calm s n (λ e. does (Holds s (counting n (change e.count) (copies_of k s))) (reply.Count (change e.count))) (λ e refused. absurd (not_both refl refused)))

  pub decision_calm : (command : Command) → Calm k (decision S limits k command)
  decision_calm (command.OpenSession name tx write) = opening_calm name tx write
  decision_calm (command.Close name) = in_calm name (closing k) closing_calm
  decision_calm (command.Begin name serializable) = beginning_calm name serializable
  decision_calm (command.Start name t) = in_calm name (λ s session. for_transaction k t (starting k s session)) (λ s session. for_calm t (starting k s session) (starting_calm s session))
  decision_calm (command.Suspend name) = in_calm name suspending suspending_calm
  decision_calm (command.End name ok) = in_calm name (λ s session. ending s session ok) (λ s session. ending_calm s session ok)
  decision_calm (command.Status name) = in_calm name (λ s session. telling_state session) (λ s session. state_calm session)
  decision_calm (command.Commit t) = for_calm t (committing S limits k) committing_calm
  decision_calm (command.Rollback t) = for_calm t (λ n. does (RollsBack n) reply.Done) (λ n. absurd_calm (RollsBack n))
  decision_calm (command.Home name home) = in_calm name (λ s session. telling_home S home) (λ s session. home_calm home)
  decision_calm (command.Create name home values) = by_data name (λ s session. creating S k.next session home values)
  decision_calm (command.Make name home factory values) = by_data name (λ s session. making S k.next session home factory values)
  decision_calm (command.Find name home key values) = by_data name (λ s session. finding S home key values >>= λ op. Ok (obtaining op))
  decision_calm (command.FindRef name home key values) = by_data name (λ s session. finding S home key values >>= λ op. Ok (only op))
  decision_calm (command.Pid name pid) = by_data name (λ s session. Ok (obtaining (Ask (FindPid pid))))
  decision_calm (command.Short name home serial) = by_data name (λ s session. shortening S home serial)
  decision_calm (command.Exists name n) = by_data name (λ s session. asking_whether (copies_of k s) n)
  decision_calm (command.Get name n member) = by_data name (λ s session. getting S (copies_of k s) n member)
  decision_calm (command.Set name n member value) = by_data name (λ s session. setting S session (copies_of k s) n member value)
  decision_calm (command.Destroy name n) = by_data name (λ s session. destroying session (copies_of k s) n)
  decision_calm (command.Follow name n member) = by_data name (λ s session. following S (copies_of k s) n member)
  decision_calm (command.Count name home) = by_data name (λ s session. asking_of_home S home (λ h. Ask (Count h)))
  decision_calm (command.List name home) = by_data name (λ s session. asking_of_home S home (λ h. Ask (ListOf h)))
  decision_calm (command.PidOf name n) = in_calm name (λ s session. telling_pid k s n) (λ s session. entry_calm s n (λ e. says (reply.PidAndShort e.pid)) (λ e _. refl))
  decision_calm (command.Dup name n) = recount_calm name n (λ count. count + 1)
  decision_calm (command.Release name n) = recount_calm name n (λ count. count - 1)
  decision_calm (command.FreeAll name) = in_calm name (λ s session. freeing k s) (λ s session. absurd_calm (Holds s (record { last = (copies_of k s).last; entries = [] })))
  decision_calm (command.Flush name) = in_calm name (λ s session. flushing S limits k session) (λ s session. flushing_calm session)
  decision_calm (command.Refresh name) = in_calm name (refreshing k) refreshing_calm
  decision_calm command.Checkpoint = λ _. refl
  decision_calm command.Stat = λ _. refl
  decision_calm command.History = λ _. refl
