-- What is not granted changes no object.
use Rattle.std.proofs.Common.{arith, ◌≡◌, ℕ, Bool, true, false, ◌&&◌, List, [], ◌∷◌, map, Option, Some, None, refl, sym, ap, ◌∙◌, inl, inr}
use Rattle.std.specs.List.{flat_map}
use Rattle.type_layout.specs.declared.key.KeyNo.{KeyNo}
use Rattle.std.specs.Prelude.{length, nat_lt, IsTrue, ◌⊎◌, ◌+◌, ◌-◌, Result, Ok, Err, if◌then◌else◌}
use Rattle.std.specs.List.{flat_map}
use Rattle.pss_base.specs.declared.pid.Pid.{Pid}
use Rattle.pss_base.specs.declared.owner.OwnerNo.{OwnerNo}
use Rattle.pss_base.specs.declared.session.SessionNo.{SessionNo}
use Rattle.type_layout.specs.declared.schema.Schema.{Schema}
use Rattle.type_layout.specs.Schemas.{given}
use Rattle.pss_catalog.specs.Catalog.{Object, Catalog, references, object_spelling}
use Rattle.pss_machine.specs.declared.limits.Limits.{Limits}
use Rattle.pss_machine.specs.declared.command.Command.{Command}
use Rattle.pss_machine.specs.declared.command.Command.TheVariants as command
use Rattle.pss_machine.specs.declared.reply.Reply.{Reply}
use Rattle.pss_machine.specs.declared.reply.Reply.TheVariants as reply
use Rattle.pss_machine.specs.Operations.{FindPid, Count, ListOf, PlainOp, Create, Set, Destroy, Ask, PlainAnswer, Done, Found, IsThere, Val, Number, Listing, NotFound, Gone, Nil, Duplicate, TooLarge, Busy}
use Rattle.pss_machine.specs.Alone.{Outcome, answers, alone, stored, first_taken, unless_gone, first_gone, object_of, pid_at, with_member}
use Rattle.pss_machine.specs.Owners.{Owner, Owners, Step, stepped, step_on_view, view, blocker}
use Rattle.pss_machine.specs.Sessions.{Session, Sessions, session_named, owner_of, is_owner}
use Rattle.pss_machine.specs.Copies.{Loose, Copies, AllCopies, Entry, entry_numbered, is_attached, with_stand, Body, body_in, detached_from, detached}
use Rattle.pss_machine.specs.Kept.{Kept, Actor, actor_in, copies_of, transaction_named}
use Rattle.pss_machine.specs.Asking.{Asked, ◌>>=◌, obtaining, only, creating, making, finding, shortening, asking_whether, getting, setting, destroying, following, asking_of_home}
use Rattle.pss_machine.specs.Effects.{Effect, Stays, OpensBasic, OpensTransactional, ClosesBasic, ClosesTransactional, Begins, Associates, Ends, Holds, Steps, Commits, Flushes, RollsBack, Decision, does, says}
use Rattle.pss_machine.specs.Stepping.{within, copied_answer, step_on_copy, step_of, reply_to, unless_busy, decided, data_command}
use Rattle.pss_machine.specs.Deciding.{in_session, for_transaction, opening, beginning, closing, starting, suspending, ending, telling_state, unless_full, committing, flushing, with_entry, recounting, telling_pid, refreshing, telling_home, freeing, counting, decision}
use Rattle.pss_machine.specs.Moving.{moved, is_outdated, is_done, with_named, with_found, seated, seen_in, owners_after}
use Rattle.pss_machine.specs.Laws.{is_fruitless, HasOnlyLocked, ChangesNoObject, FruitlessChangesNoObject}
use Rattle.pss_machine.proofs.Cases.{of_given}
use Rattle.pss_machine.proofs.Maps.{same_or_apart, with_here, with_apart, each_same, with_at_same}
use Rattle.pss_machine.proofs.Refusing.{not_both}
use Rattle.pss_machine.proofs.Allowing.{decision_right}
use Rattle.pss_machine.specs.Allowed.{May}
use Rattle.pss_machine.specs.Changes.{with_changes}
use Rattle.pss_machine.specs.Maps.{with_at}
use Rattle.std.specs.Option.{option_map}
use Rattle.std.specs.FinMap.{get}

-- the operation was not granted
abbrev pub is_no : PlainAnswer → Bool
is_no NotFound = true
is_no (Gone p) = true
is_no Nil = true
is_no (Duplicate key) = true
is_no TooLarge = true
is_no _ = false

-- nothing happens, or a step that was not granted
abbrev is_still : Effect → Bool
is_still Stays = true
is_still (Steps n s step asked) = is_no step.answer
is_still _ = false

abbrev Fruitless : Kept → Decision → Type 0
Fruitless k d = IsTrue (is_fruitless d.reply) → is_still d.effect ≡ true

pub answer_no : (S : Schema) (k : Kept) (copies : Copies) (asked : Asked) (a : PlainAnswer) → IsTrue (is_fruitless (reply_to S k copies asked a)) → is_no a ≡ true
answer_no S k copies asked (Found p) e = grind arith
answer_no S k copies asked Done e = absurd cc
answer_no S k copies asked (IsThere b) e = absurd cc
answer_no S k copies asked (Val v) e = absurd cc
answer_no S k copies asked (Number n) e = absurd cc
answer_no S k copies asked (Listing n first) e = absurd cc
answer_no S k copies asked NotFound e = refl
answer_no S k copies asked (Gone p) e = refl
answer_no S k copies asked Nil e = refl
answer_no S k copies asked (Duplicate key) e = refl
answer_no S k copies asked TooLarge e = refl
answer_no S k copies asked (Busy n) e = absurd cc

module _ (S : Schema) (limits : Limits) (k : Kept) where
  busy_fruitless : (s : SessionNo) (n : OwnerNo) (asked : Asked) (step : Step) → Fruitless k (unless_busy S k s n asked step)
  busy_fruitless s n asked step =
      of_given (Fruitless k) (blocker k.owners n step.needs)
      (does (Steps n s step asked) (reply_to S k (copies_of k s) asked step.answer))
      (λ b. says (reply_to S k (copies_of k s) asked (Busy b)))
      (answer_no S k (copies_of k s) asked step.answer)
      (λ b _ _. refl)

  decided_fruitless : (s : SessionNo) (actor : Actor) (asked : Result Asked Reply) → Fruitless k (decided S k s actor asked)
  decided_fruitless s actor (Ok asked) = busy_fruitless s actor.number asked (step_of S k.catalog actor.owner (copies_of k s) asked)
  decided_fruitless s actor (Err refusal) = λ _. refl

  data_fruitless : (s : SessionNo) (session : Session) (asked : Result Asked Reply) → Fruitless k (data_command S limits k s session asked)
  data_fruitless s session asked =
      of_given (Fruitless k) (actor_in k.owners session) (says reply.NoTx) (λ actor. decided S k s actor (asked >>= within limits k.next actor.owner (copies_of k s)))
      (λ _. refl)
      (λ actor _. decided_fruitless s actor (asked >>= within limits k.next actor.owner (copies_of k s)))

  in_fruitless : (name : List ℕ) (f : SessionNo → Session → Decision) → ((s : SessionNo) (session : Session) → Fruitless k (f s session)) → Fruitless k (in_session k name f)
  in_fruitless name f h = of_given (Fruitless k) (session_named k.sessions name) (says reply.NoSession) (λ e. f (record { 0 = e.0 }) e.1) (λ _. refl) (λ e _. h (record { 0 = e.0 }) e.1)

  for_fruitless : (name : List ℕ) (f : OwnerNo → Decision) → ((n : OwnerNo) → Fruitless k (f n)) → Fruitless k (for_transaction k name f)
  for_fruitless name f h = of_given (Fruitless k) (transaction_named k name) (says reply.NoTransaction) f (λ _. refl) (λ n _. h n)

  opening_fruitless : (name : List ℕ) (tx write : Bool) → Fruitless k (opening limits k name tx write)
  opening_fruitless name tx write = grind arith

  beginning_fruitless : (name : List ℕ) (serializable : Bool) → Fruitless k (beginning limits k name serializable)
  beginning_fruitless name serializable = grind arith

  closing_fruitless : (s : SessionNo) (session : Session) → Fruitless k (closing k s session)
  closing_fruitless s session = grind arith

  starting_fruitless : (s : SessionNo) (session : Session) (n : OwnerNo) → Fruitless k (starting k s session n)
  starting_fruitless s session n = grind arith

  suspending_fruitless : (s : SessionNo) (session : Session) → Fruitless k (suspending s session)
  suspending_fruitless s session = grind arith

  ending_fruitless : (s : SessionNo) (session : Session) (ok : Bool) → Fruitless k (ending s session ok)
  ending_fruitless s session ok = grind arith

  state_fruitless : (session : Session) → Fruitless k (telling_state session)
  state_fruitless session = grind arith

  full_fruitless : (n : OwnerNo) (effect : Effect) → Fruitless k (unless_full S limits k n effect)
  full_fruitless n effect = grind arith

  committing_fruitless : (n : OwnerNo) → Fruitless k (committing S limits k n)
  committing_fruitless n = grind (arith, full_fruitless)

  flushing_fruitless : (session : Session) → Fruitless k (flushing S limits k session)
  flushing_fruitless session = grind (arith, full_fruitless)

  entry_fruitless : (s : SessionNo) (n : ℕ) (f : Entry → Decision) → ((e : Entry) → Fruitless k (f e)) → Fruitless k (with_entry k s n f)
  entry_fruitless s n f h = of_given (Fruitless k) (entry_numbered (copies_of k s) n) (says reply.NoEntry) f (λ _. refl) (λ e _. h e)

  refreshing_fruitless : (s : SessionNo) (session : Session) → Fruitless k (refreshing k s session)
  refreshing_fruitless s session = grind arith

  home_fruitless : (word : List ℕ) → Fruitless k (telling_home S word)
  home_fruitless word = grind arith

  -- what is done is no refusal
  absurd_fruitless : (e : Effect) → Fruitless k (does e reply.Done)
  absurd_fruitless e refused = absurd (not_both refl refused)

  by_data : (name : List ℕ) (asked : SessionNo → Session → Result Asked Reply) → Fruitless k (in_session k name (λ s session. data_command S limits k s session (asked s session)))
  by_data name asked = in_fruitless name (λ s session. data_command S limits k s session (asked s session)) (λ s session. data_fruitless s session (asked s session))

  recount_fruitless : (name : List ℕ) (n : ℕ) (change : ℕ → ℕ) → Fruitless k (in_session k name (λ s session. recounting k s n change))
  recount_fruitless name n change =
      in_fruitless name (λ s session. recounting k s n change)
      (λ s session. entry_fruitless s n (λ e. does (Holds s (counting n (change e.count) (copies_of k s))) (reply.Count (change e.count))) (λ e refused. absurd (not_both refl refused)))

  pub decision_fruitless : (command : Command) → Fruitless k (decision S limits k command)
  decision_fruitless (command.OpenSession name tx write) = opening_fruitless name tx write
  decision_fruitless (command.Close name) = in_fruitless name (closing k) closing_fruitless
  decision_fruitless (command.Begin name serializable) = beginning_fruitless name serializable
  decision_fruitless (command.Start name t) = in_fruitless name (λ s session. for_transaction k t (starting k s session)) (λ s session. for_fruitless t (starting k s session) (starting_fruitless s session))
  decision_fruitless (command.Suspend name) = in_fruitless name suspending suspending_fruitless
  decision_fruitless (command.End name ok) = in_fruitless name (λ s session. ending s session ok) (λ s session. ending_fruitless s session ok)
  decision_fruitless (command.Status name) = in_fruitless name (λ s session. telling_state session) (λ s session. state_fruitless session)
  decision_fruitless (command.Commit t) = for_fruitless t (committing S limits k) committing_fruitless
  decision_fruitless (command.Rollback t) = for_fruitless t (λ n. does (RollsBack n) reply.Done) (λ n. absurd_fruitless (RollsBack n))
  decision_fruitless (command.Home name home) = in_fruitless name (λ s session. telling_home S home) (λ s session. home_fruitless home)
  decision_fruitless (command.Create name home values) = by_data name (λ s session. creating S k.next session home values)
  decision_fruitless (command.Make name home factory values) = by_data name (λ s session. making S k.next session home factory values)
  decision_fruitless (command.Find name home key values) = by_data name (λ s session. finding S home key values >>= λ op. Ok (obtaining op))
  decision_fruitless (command.FindRef name home key values) = by_data name (λ s session. finding S home key values >>= λ op. Ok (only op))
  decision_fruitless (command.Pid name pid) = by_data name (λ s session. Ok (obtaining (Ask (FindPid pid))))
  decision_fruitless (command.Short name home serial) = by_data name (λ s session. shortening S home serial)
  decision_fruitless (command.Exists name n) = by_data name (λ s session. asking_whether (copies_of k s) n)
  decision_fruitless (command.Get name n member) = by_data name (λ s session. getting S (copies_of k s) n member)
  decision_fruitless (command.Set name n member value) = by_data name (λ s session. setting S session (copies_of k s) n member value)
  decision_fruitless (command.Destroy name n) = by_data name (λ s session. destroying session (copies_of k s) n)
  decision_fruitless (command.Follow name n member) = by_data name (λ s session. following S (copies_of k s) n member)
  decision_fruitless (command.Count name home) = by_data name (λ s session. asking_of_home S home (λ h. Ask (Count h)))
  decision_fruitless (command.List name home) = by_data name (λ s session. asking_of_home S home (λ h. Ask (ListOf h)))
  decision_fruitless (command.PidOf name n) = in_fruitless name (λ s session. telling_pid k s n) (λ s session. entry_fruitless s n (λ e. says (reply.PidAndShort e.pid)) (λ e _. refl))
  decision_fruitless (command.Dup name n) = recount_fruitless name n (λ count. count + 1)
  decision_fruitless (command.Release name n) = recount_fruitless name n (λ count. count - 1)
  decision_fruitless (command.FreeAll name) = in_fruitless name (λ s session. freeing k s) (λ s session. absurd_fruitless (Holds s (record { last = (copies_of k s).last; entries = [] })))
  decision_fruitless (command.Flush name) = in_fruitless name (λ s session. flushing S limits k session) (λ s session. flushing_fruitless session)
  decision_fruitless (command.Refresh name) = in_fruitless name (refreshing k) refreshing_fruitless
  decision_fruitless command.Checkpoint = λ _. refl
  decision_fruitless command.Stat = λ _. refl
  decision_fruitless command.History = λ _. refl

-- ---- a step that was not granted

abbrev NoChange : Outcome → Type 0
NoChange x = is_no x.answer ≡ true → x.changes ≡ []

stored_nothing : (S : Schema) (M : Catalog) (serial : ℕ) (object : Object) (end : PlainAnswer) → is_no end ≡ false → NoChange (stored S M serial object end)
stored_nothing S M serial object end h = by_cases (first_taken S M serial object) (nat_lt 8000 (length (object_spelling S object)))
  where
    by_cases : (o : Option KeyNo) (b : Bool)
        → NoChange (given o (if b then answers TooLarge else record { changes = record { serial = serial; state = Some object } ∷ []; answer = end }) (λ k. answers (Duplicate k)))
    by_cases (Some k) b e = refl
    by_cases None true e = refl
    by_cases None false e = absurd cc

gone_nothing : (M : Catalog) (pids : List Pid) (x : Outcome) → NoChange x → NoChange (unless_gone M pids x)
gone_nothing M pids x h = of_given NoChange (first_gone M pids) x (λ q. answers (Gone q)) h (λ q _ _. refl)

nothing_alone : (S : Schema) (M : Catalog) (op : PlainOp) → NoChange (alone S M op)
nothing_alone S M (Create serial object) =
    gone_nothing M (flat_map references object.values) (stored S M serial object (Found (pid_at serial object))) (stored_nothing S M serial object (Found (pid_at serial object)) refl)
nothing_alone S M (Set p i v) =
    of_given NoChange (object_of M p) (answers (Gone p)) (λ object. unless_gone M (references v) (stored S M p.serial (with_member object i v) Done)) (λ _. refl)
    (λ object _. gone_nothing M (references v) (stored S M p.serial (with_member object i v) Done) (stored_nothing S M p.serial (with_member object i v) Done refl))
nothing_alone S M (Destroy p) =
    of_given NoChange (object_of M p) (answers (Gone p)) (λ object. record { changes = record { serial = p.serial; state = None } ∷ []; answer = Done }) (λ _. refl) (λ object _ e. absurd cc)
nothing_alone S M (Ask q) = λ _. refl

pub nothing_own : (S : Schema) (M : Catalog) (owner : Owner) (copies : Copies) (asked : Asked) → is_no (step_of S M owner copies asked).answer ≡ true → (step_of S M owner copies asked).own ≡ []
nothing_own S M owner copies asked e = by_copy (copied_answer M owner copies asked) e
  where
    by_copy : (o : Option PlainAnswer) → is_no (given o (step_on_view S M owner asked.op) (step_on_copy asked.op)).answer ≡ true → (given o (step_on_view S M owner asked.op) (step_on_copy asked.op)).own ≡ []
    by_copy None e = nothing_alone S (view M owner) asked.op e
    by_copy (Some a) e = refl

not_done : (a : PlainAnswer) → is_no a ≡ true → is_done a ≡ false
not_done NotFound e = refl
not_done (Gone p) e = refl
not_done Nil e = refl
not_done (Duplicate key) e = refl
not_done TooLarge e = refl
not_done Done e = absurd cc
not_done (Found p) e = absurd cc
not_done (IsThere b) e = absurd cc
not_done (Val v) e = absurd cc
not_done (Number n) e = absurd cc
not_done (Listing n first) e = absurd cc
not_done (Busy n) e = absurd cc

none_outdated : (n : OwnerNo) (step : Step) (s : SessionNo) (session : Session) (body : Body) → is_no step.answer ≡ true → is_outdated n step s session body ≡ false
none_outdated n step s session body e = by_answer step.answer e
  where
    and_none : (b : Bool) → (b && false) ≡ false
    and_none true = refl
    and_none false = refl

    by_answer : (a : PlainAnswer) → is_no a ≡ true → is_outdated n (record { op = step.op; answer = a; needs = step.needs; own = step.own }) s session body ≡ false
    by_answer NotFound e = and_none (is_owner n (owner_of session))
    by_answer (Gone p) e = and_none (is_owner n (owner_of session))
    by_answer Nil e = and_none (is_owner n (owner_of session))
    by_answer (Duplicate key) e = and_none (is_owner n (owner_of session))
    by_answer TooLarge e = and_none (is_owner n (owner_of session))
    by_answer Done e = absurd cc
    by_answer (Found p) e = absurd cc
    by_answer (IsThere b) e = absurd cc
    by_answer (Val v) e = absurd cc
    by_answer (Number n) e = absurd cc
    by_answer (Listing n first) e = absurd cc
    by_answer (Busy n) e = absurd cc

-- where no body passes the test, no entry is detached
entries_stay : (body : Pid → Body) (test : Body → Bool) → ((x : Body) → test x ≡ false) → (es : List Entry) → map (λ e. if is_attached e && test (body e.pid) then with_stand Loose e else e) es ≡ es
entries_stay body test h [] = refl
entries_stay body test h (e ∷ es) = λ i. by_test (is_attached e) (test (body e.pid)) (h (body e.pid)) i ∷ entries_stay body test h es i
  where
    by_test : (a b : Bool) → b ≡ false → (if a && b then with_stand Loose e else e) ≡ e
    by_test true true none = absurd cc
    by_test true false none = refl
    by_test false b none = refl

pub detached_stay : (owners : Owners) (sessions : Sessions) (test : SessionNo → Session → Body → Bool) (all : AllCopies) → ((s : SessionNo) (session : Session) (body : Body) → test s session body ≡ false) → detached owners sessions test all ≡ all
detached_stay owners sessions test all h = each_same (in_session owners sessions test) all (λ s copies _. by_session s copies (get sessions s))
  where
    in_session : Owners → Sessions → (SessionNo → Session → Body → Bool) → ℕ → Copies → Copies
    in_session owners sessions test s copies = given (get sessions s) copies (λ session. detached_from (body_in owners (record { 0 = s }) session) (test (record { 0 = s }) session) copies)

    by_session : (s : ℕ) (copies : Copies) (o : Option Session) → given o copies (λ session. detached_from (body_in owners (record { 0 = s }) session) (test (record { 0 = s }) session) copies) ≡ copies
    by_session s copies None = refl
    by_session s copies (Some session) = λ i. record { last = copies.last; entries = entries_stay (body_in owners (record { 0 = s }) session) (test (record { 0 = s }) session) (h (record { 0 = s }) session) copies.entries i }

unchanged : (k : Kept) → ChangesNoObject k k
unchanged k = record { catalog = refl; sessions = refl; copies = refl; owners = λ n owner there. record { now = owner; there = there; level = refl; changes = refl } }

only_locked : (owners : Owners) (n : ℕ) (step : Step) → step.own ≡ [] → (m : ℕ) (owner : Owner) → get owners m ≡ Some owner → HasOnlyLocked (with_at owners n (stepped step)) m owner
only_locked owners n step none m owner there = by_place (same_or_apart m n)
  where
    by_place : ((m ≡ n) ⊎ (m ≡ n → ⊥)) → HasOnlyLocked (with_at owners n (stepped step)) m owner
    by_place (inl same) = record {
      now = stepped step owner;
      there = ap (get (with_at owners n (stepped step))) same ∙ with_here owners n (stepped step) ∙ ap (option_map (stepped step)) (ap (get owners) (sym same) ∙ there);
      level = refl;
      changes = ap (with_changes owner.changes) none;
    }
    by_place (inr apart) = record { now = owner; there = with_apart owners n (stepped step) m apart ∙ there; level = refl; changes = refl }

pub step_still : (k : Kept) (n : OwnerNo) (s : SessionNo) (step : Step) (asked : Asked) → is_no step.answer ≡ true → step.own ≡ [] → ChangesNoObject k (moved k (Steps n s step asked))
step_still k n s step asked refused none = record {
  catalog = refl;
  sessions = refl;
  copies = with_at_same _ s.0 (seated k.catalog (seen_in (owners_after k n step) k.sessions s) asked step.answer) (λ copies _. seated_stay copies) ∙ detached_stay k.owners k.sessions (is_outdated n step) k.copies (λ s session body. none_outdated n step s session body refused);
  owners = only_locked k.owners n.0 step none;
}
  where
    seated_stay : (copies : Copies) → seated k.catalog (seen_in (owners_after k n step) k.sessions s) asked step.answer copies ≡ copies
    seated_stay copies = by_done (is_done step.answer) (not_done step.answer refused)
      where
        by_done : (b : Bool) → b ≡ false → (if b then with_found k.catalog (seen_in (owners_after k n step) k.sessions s) asked.obtains step.answer (with_named k.catalog (seen_in (owners_after k n step) k.sessions s) asked.entry copies) else copies) ≡ copies
        by_done true e = absurd cc
        by_done false e = refl

still_changes : (S : Schema) (limits : Limits) (k : Kept) (effect : Effect) → May S limits k effect → is_still effect ≡ true → ChangesNoObject k (moved k effect)
still_changes S limits k Stays may e = unchanged k
still_changes S limits k (Steps n s step asked) may e =
    step_still k n s step asked e (ap (λ (x : Step). x.own) may.taken ∙ nothing_own S k.catalog may.owner (copies_of k s) asked (ap (λ (x : Step). is_no x.answer) (sym may.taken) ∙ e))
still_changes S limits k (OpensBasic name access) may e = absurd cc
still_changes S limits k (OpensTransactional name access) may e = absurd cc
still_changes S limits k (ClosesBasic s n) may e = absurd cc
still_changes S limits k (ClosesTransactional s) may e = absurd cc
still_changes S limits k (Begins name level) may e = absurd cc
still_changes S limits k (Associates s association) may e = absurd cc
still_changes S limits k (Ends s n failed) may e = absurd cc
still_changes S limits k (Holds s copies) may e = absurd cc
still_changes S limits k (Commits n) may e = absurd cc
still_changes S limits k (Flushes n) may e = absurd cc
still_changes S limits k (RollsBack n) may e = absurd cc

pub fruitless_changes : FruitlessChangesNoObject
fruitless_changes S limits k command e = still_changes S limits k (decision S limits k command).effect (decision_right S limits k command) (decision_fruitless S limits k command e)
