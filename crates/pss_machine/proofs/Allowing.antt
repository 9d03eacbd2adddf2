-- Each command has an effect that it may have.
use Rattle.std.proofs.Common.{arith, ◌≡◌, ℕ, ◌≤◌, Bool, true, false, List, Option, Some, None, refl, ap, ◌∙◌, inl, inr, subst}
use Rattle.std.specs.Prelude.{IsTrue, ◌+◌, ◌-◌, Result, Ok, Err, if◌then◌else◌}
use Rattle.std.specs.Option.{option_map}
use Rattle.std.specs.FinMap.{get}
use Rattle.std.proofs.lemmas.Bool.Decides.{nat_tests}
use Rattle.pss_base.specs.declared.owner.OwnerNo.{OwnerNo}
use Rattle.pss_base.specs.declared.session.SessionNo.{SessionNo}
use Rattle.type_layout.specs.declared.schema.Schema.{Schema}
use Rattle.type_layout.specs.declared.home.HomeNo.{HomeNo}
use Rattle.type_layout.specs.Types.{PlainValue}
use Rattle.type_layout.specs.Schemas.{given}
use Rattle.pss_catalog.specs.Catalog.{Catalog, total}
use Rattle.pss_machine.specs.declared.limits.Limits.{Limits}
use Rattle.pss_machine.specs.declared.command.Rest.{Rest}
use Rattle.pss_machine.specs.declared.command.Command.{Command}
use Rattle.pss_machine.specs.declared.command.Command.TheVariants as command
use Rattle.pss_machine.specs.declared.reply.Reply.{Reply}
use Rattle.pss_machine.specs.declared.reply.Reply.TheVariants as reply
use Rattle.pss_machine.specs.Operations.{Question, FindPid, Count, ListOf, PlainOp, Create, Set, Destroy, Ask, PlainAnswer, Busy}
use Rattle.pss_catalog.specs.Changes.{over}
use Rattle.pss_machine.specs.Owners.{Owner, is_basic, Step, step_on_view, view, net, blocker}
use Rattle.pss_machine.specs.Sessions.{Session, session_named, acts_for}
use Rattle.pss_machine.specs.Copies.{Copies, Entry, entry_numbered}
use Rattle.pss_machine.specs.Kept.{Kept, Actor, actor_in, copies_of, transaction_named}
use Rattle.pss_machine.specs.Asking.{Asked, ◌>>=◌, refused_where, obtaining, only, creating, making, finding, shortening, asking_whether, getting, setting, destroying, following, asking_of_home}
use Rattle.pss_machine.specs.Effects.{Effect, Steps, Holds, RollsBack, Commits, Flushes, Decision, does, says}
use Rattle.pss_machine.specs.Stepping.{within, copied_values, copied_answer, step_on_copy, told_by_copy, step_of, reply_to, unless_busy, decided, data_command}
use Rattle.pss_machine.specs.Deciding.{in_session, for_transaction, opening, beginning, closing, starting, suspending, ending, telling_state, is_over_full, unless_full, committing, flushing, with_entry, recounting, telling_pid, refreshing, telling_home, freeing, counting, decision}
use Rattle.pss_machine.specs.Allowed.{TakesNext, MaySettle, May, IsStepOf}
use Rattle.pss_machine.proofs.Cases.{of_given}

-- ---- what is asked

-- what was not refused has the property
abbrev Okay : {A : Type 0} → (A → Type 0) → Result A Reply → Type 0
Okay P (Ok x) = P x
Okay P (Err refusal) = Unit {0}

okay_then : {A B : Type 0} (P : B → Type 0) (r : Result A Reply) (f : A → Result B Reply) → ((x : A) → Okay P (f x)) → Okay P (r >>= f)
okay_then P (Ok x) f h = h x
okay_then P (Err refusal) f h = tt

okay_where : {A : Type 0} (P : A → Type 0) (b : Bool) (refusal : Reply) (r : Result A Reply) → Okay P r → Okay P (refused_where b refusal r)
okay_where P true refusal r h = tt
okay_where P false refusal r h = h

abbrev Next : ℕ → Asked → Type 0
Next next asked = TakesNext next asked.op

abbrev OkayNext : ℕ → Result Asked Reply → Type 0
OkayNext next r = Okay (Next next) r

module _ (S : Schema) (next : ℕ) where
  creating_next : (session : Session) (home : List ℕ) (rest : Rest) → OkayNext next (creating S next session home rest)
  creating_next session home rest = grind (arith, okay_then, okay_where)

  making_next : (session : Session) (home factory : List ℕ) (rest : Rest) → OkayNext next (making S next session home factory rest)
  making_next session home factory rest = grind (arith, okay_then, okay_where)

  setting_next : (session : Session) (copies : Copies) (n : ℕ) (word : List ℕ) (rest : Rest) → OkayNext next (setting S session copies n word rest)
  setting_next session copies n word rest = grind (arith, okay_then, okay_where)

  finding_next : (home key : List ℕ) (rest : Rest) (ask : PlainOp → Asked) → ((q : Question) → Next next (ask (Ask q))) → OkayNext next (finding S home key rest >>= λ op. Ok (ask op))
  finding_next home key rest ask h = grind (arith, okay_then, okay_where)

  shortening_next : (home : List ℕ) (serial : ℕ) → OkayNext next (shortening S home serial)
  shortening_next home serial = grind (arith, okay_then, okay_where)

  whether_next : (copies : Copies) (n : ℕ) → OkayNext next (asking_whether copies n)
  whether_next copies n = grind (arith, okay_then, okay_where)

  getting_next : (copies : Copies) (n : ℕ) (word : List ℕ) → OkayNext next (getting S copies n word)
  getting_next copies n word = grind (arith, okay_then, okay_where)

  destroying_next : (session : Session) (copies : Copies) (n : ℕ) → OkayNext next (destroying session copies n)
  destroying_next session copies n = grind (arith, okay_then, okay_where)

  following_next : (copies : Copies) (n : ℕ) (word : List ℕ) → OkayNext next (following S copies n word)
  following_next copies n word = grind (arith, okay_then, okay_where)

  home_next : (home : List ℕ) (ask : HomeNo → Question) → OkayNext next (asking_of_home S home (λ h. Ask (ask h)))
  home_next home ask = grind (arith, okay_then, okay_where)

-- ---- the effects

module _ (S : Schema) (limits : Limits) (k : Kept) where
  abbrev Right : Decision → Type 0
  Right d = May S limits k d.effect

  busy_right : (s : SessionNo) (actor : Actor) (asked : Asked) → get k.owners actor.number.0 ≡ Some actor.owner → within limits k.next actor.owner (copies_of k s) asked ≡ Ok asked → Next k.next asked
      → Right (unless_busy S k s actor.number asked (step_of S k.catalog actor.owner (copies_of k s) asked))
  busy_right s actor asked there limited serial = by_blocker (blocker k.owners actor.number (step_of S k.catalog actor.owner (copies_of k s) asked).needs) refl
    where
      step : Step
      step = step_of S k.catalog actor.owner (copies_of k s) asked

      by_blocker : (o : Option OwnerNo) → blocker k.owners actor.number (step_of S k.catalog actor.owner (copies_of k s) asked).needs ≡ o
          → Right (given o (does (Steps actor.number s (step_of S k.catalog actor.owner (copies_of k s) asked) asked) (reply_to S k (copies_of k s) asked (step_of S k.catalog actor.owner (copies_of k s) asked).answer)) (λ b. says (reply_to S k (copies_of k s) asked (Busy b))))
      by_blocker None free = record { owner = actor.owner; there = there; limited = limited; taken = refl; free = free; serial = serial }
      by_blocker (Some b) free = tt

  within_same : (next : ℕ) (owner : Owner) (copies : Copies) (asked other : Asked) → within limits next owner copies asked ≡ Ok other → other ≡ asked
  within_same next owner copies asked other e = grind arith

  decided_right : (s : SessionNo) (actor : Actor) (asked : Result Asked Reply) → get k.owners actor.number.0 ≡ Some actor.owner → OkayNext k.next asked
      → Right (decided S k s actor (asked >>= within limits k.next actor.owner (copies_of k s)))
  decided_right s actor (Err refusal) there serial = tt
  decided_right s actor (Ok asked) there serial = by_limits (within limits k.next actor.owner (copies_of k s) asked) refl
    where
      by_limits : (r : Result Asked Reply) → within limits k.next actor.owner (copies_of k s) asked ≡ r → Right (decided S k s actor r)
      by_limits (Err refusal) e = tt
      by_limits (Ok other) e =
          let same : other ≡ asked = within_same k.next actor.owner (copies_of k s) asked other e in
          busy_right s actor other there (rw same (e ∙ ap Ok same)) (rw same serial)

  pub actor_there : (session : Session) (actor : Actor) → actor_in k.owners session ≡ Some actor → get k.owners actor.number.0 ≡ Some actor.owner
  actor_there session actor e = by_acts (acts_for session) e
    where
      by_owner : (n : OwnerNo) (o : Option Owner) → get k.owners n.0 ≡ o → option_map (λ owner. record { number = n; owner = owner }) o ≡ Some actor → get k.owners actor.number.0 ≡ Some actor.owner
      by_owner n None there e = absurd cc
      by_owner n (Some owner) there e =
          let same : record { number = n; owner = owner } ≡ actor = grind arith in
          subst (λ (a : Actor). get k.owners a.number.0 ≡ Some a.owner) same there

      by_acts : (o : Option OwnerNo) → given o None (λ n. option_map (λ owner. record { number = n; owner = owner }) (get k.owners n.0)) ≡ Some actor → get k.owners actor.number.0 ≡ Some actor.owner
      by_acts None e = absurd cc
      by_acts (Some n) e = by_owner n (get k.owners n.0) refl e

  data_right : (s : SessionNo) (session : Session) (asked : Result Asked Reply) → OkayNext k.next asked → Right (data_command S limits k s session asked)
  data_right s session asked serial =
      of_given Right (actor_in k.owners session) (says reply.NoTx) (λ actor. decided S k s actor (asked >>= within limits k.next actor.owner (copies_of k s)))
      tt
      (λ actor e. decided_right s actor asked (actor_there session actor e) serial)

  in_right : (name : List ℕ) (f : SessionNo → Session → Decision) → ((s : SessionNo) (session : Session) → Right (f s session)) → Right (in_session k name f)
  in_right name f h = of_given Right (session_named k.sessions name) (says reply.NoSession) (λ e. f (record { 0 = e.0 }) e.1) tt (λ e _. h (record { 0 = e.0 }) e.1)

  for_right : (name : List ℕ) (f : OwnerNo → Decision) → ((n : OwnerNo) → Right (f n)) → Right (for_transaction k name f)
  for_right name f h = of_given Right (transaction_named k name) (says reply.NoTransaction) f tt (λ n _. h n)

  by_data : (name : List ℕ) (asked : SessionNo → Session → Result Asked Reply) → ((s : SessionNo) (session : Session) → OkayNext k.next (asked s session))
      → Right (in_session k name (λ s session. data_command S limits k s session (asked s session)))
  by_data name asked h = in_right name (λ s session. data_command S limits k s session (asked s session)) (λ s session. data_right s session (asked s session) (h s session))

  opening_right : (name : List ℕ) (tx write : Bool) → Right (opening limits k name tx write)
  opening_right name tx write = grind arith

  beginning_right : (name : List ℕ) (serializable : Bool) → Right (beginning limits k name serializable)
  beginning_right name true = grind arith
  beginning_right name false = grind arith

  closing_right : (s : SessionNo) (session : Session) → Right (closing k s session)
  closing_right s session = grind arith

  starting_right : (s : SessionNo) (session : Session) (n : OwnerNo) → Right (starting k s session n)
  starting_right s session n = grind arith

  suspending_right : (s : SessionNo) (session : Session) → Right (suspending s session)
  suspending_right s session = grind arith

  ending_right : (s : SessionNo) (session : Session) (ok : Bool) → Right (ending s session ok)
  ending_right s session ok = grind arith

  state_right : (session : Session) → Right (telling_state session)
  state_right session = grind arith

  roomy : (owner : Owner) → is_over_full S limits k.catalog owner ≡ false → total S (over k.catalog (net k.catalog owner)) ≤ limits.total
  roomy owner e = grind (arith, nat_tests)

  full_right : (n : OwnerNo) (effect : Effect) → (MaySettle S limits k n → May S limits k effect) → Right (unless_full S limits k n effect)
  full_right n effect h = of_given Right (get k.owners n.0) (says reply.Done) (λ owner. if is_over_full S limits k.catalog owner then says reply.Full else does effect reply.Done) tt (λ owner there. by_room owner there (is_over_full S limits k.catalog owner) refl)
    where
      by_room : (owner : Owner) → get k.owners n.0 ≡ Some owner → (b : Bool) → is_over_full S limits k.catalog owner ≡ b → Right (if b then says reply.Full else does effect reply.Done)
      by_room owner there true e = tt
      by_room owner there false e = h (record { owner = owner; there = there; room = roomy owner e })

  committing_right : (n : OwnerNo) → Right (committing S limits k n)
  committing_right n = grind (arith, full_right n (Commits n) (λ m. m))

  flushing_right : (session : Session) → Right (flushing S limits k session)
  flushing_right session = grind (arith, λ (n : OwnerNo). full_right n (Flushes n) (λ m. m))

  entry_right : (s : SessionNo) (n : ℕ) (f : Entry → Decision) → ((e : Entry) → Right (f e)) → Right (with_entry k s n f)
  entry_right s n f h = of_given Right (entry_numbered (copies_of k s) n) (says reply.NoEntry) f tt (λ e _. h e)

  recount_right : (name : List ℕ) (n : ℕ) (change : ℕ → ℕ) → Right (in_session k name (λ s session. recounting k s n change))
  recount_right name n change =
      in_right name (λ s session. recounting k s n change)
      (λ s session. entry_right s n (λ e. does (Holds s (counting n (change e.count) (copies_of k s))) (reply.Count (change e.count))) (λ e. tt))

  refreshing_right : (s : SessionNo) (session : Session) → Right (refreshing k s session)
  refreshing_right s session = grind arith

  home_right : (word : List ℕ) → Right (telling_home S word)
  home_right word = grind arith

  pub decision_right : (command : Command) → Right (decision S limits k command)
  decision_right (command.OpenSession name tx write) = opening_right name tx write
  decision_right (command.Close name) = in_right name (closing k) closing_right
  decision_right (command.Begin name serializable) = beginning_right name serializable
  decision_right (command.Start name t) = in_right name (λ s session. for_transaction k t (starting k s session)) (λ s session. for_right t (starting k s session) (starting_right s session))
  decision_right (command.Suspend name) = in_right name suspending suspending_right
  decision_right (command.End name ok) = in_right name (λ s session. ending s session ok) (λ s session. ending_right s session ok)
  decision_right (command.Status name) = in_right name (λ s session. telling_state session) (λ s session. state_right session)
  decision_right (command.Commit t) = for_right t (committing S limits k) committing_right
  decision_right (command.Rollback t) = for_right t (λ n. does (RollsBack n) reply.Done) (λ n. tt)
  decision_right (command.Home name home) = in_right name (λ s session. telling_home S home) (λ s session. home_right home)
  decision_right (command.Create name home values) = by_data name (λ s session. creating S k.next session home values) (λ s session. creating_next S k.next session home values)
  decision_right (command.Make name home factory values) =
      by_data name (λ s session. making S k.next session home factory values) (λ s session. making_next S k.next session home factory values)
  decision_right (command.Find name home key values) =
      by_data name (λ s session. finding S home key values >>= λ op. Ok (obtaining op)) (λ s session. finding_next S k.next home key values obtaining (λ q. tt))
  decision_right (command.FindRef name home key values) =
      by_data name (λ s session. finding S home key values >>= λ op. Ok (only op)) (λ s session. finding_next S k.next home key values only (λ q. tt))
  decision_right (command.Pid name pid) = by_data name (λ s session. Ok (obtaining (Ask (FindPid pid)))) (λ s session. tt)
  decision_right (command.Short name home serial) = by_data name (λ s session. shortening S home serial) (λ s session. shortening_next S k.next home serial)
  decision_right (command.Exists name n) = by_data name (λ s session. asking_whether (copies_of k s) n) (λ s session. whether_next S k.next (copies_of k s) n)
  decision_right (command.Get name n member) = by_data name (λ s session. getting S (copies_of k s) n member) (λ s session. getting_next S k.next (copies_of k s) n member)
  decision_right (command.Set name n member value) =
      by_data name (λ s session. setting S session (copies_of k s) n member value) (λ s session. setting_next S k.next session (copies_of k s) n member value)
  decision_right (command.Destroy name n) = by_data name (λ s session. destroying session (copies_of k s) n) (λ s session. destroying_next S k.next session (copies_of k s) n)
  decision_right (command.Follow name n member) = by_data name (λ s session. following S (copies_of k s) n member) (λ s session. following_next S k.next (copies_of k s) n member)
  decision_right (command.Count name home) = by_data name (λ s session. asking_of_home S home (λ h. Ask (Count h))) (λ s session. home_next S k.next home Count)
  decision_right (command.List name home) = by_data name (λ s session. asking_of_home S home (λ h. Ask (ListOf h))) (λ s session. home_next S k.next home ListOf)
  decision_right (command.PidOf name n) = in_right name (λ s session. telling_pid k s n) (λ s session. entry_right s n (λ e. says (reply.PidAndShort e.pid)) (λ e. tt))
  decision_right (command.Dup name n) = recount_right name n (λ count. count + 1)
  decision_right (command.Release name n) = recount_right name n (λ count. count - 1)
  decision_right (command.FreeAll name) = in_right name (λ s session. freeing k s) (λ s session. tt)
  decision_right (command.Flush name) = in_right name (λ s session. flushing S limits k session) (λ s session. flushing_right session)
  decision_right (command.Refresh name) = in_right name (refreshing k) refreshing_right
  decision_right command.Checkpoint = tt
  decision_right command.Stat = tt
  decision_right command.History = tt

-- ---- steps

copy_asks : (M : Catalog) (values : List PlainValue) (op : PlainOp) (a : PlainAnswer) → told_by_copy M values op ≡ Some a → (q : Question) × (op ≡ Ask q)
copy_asks M values (Ask q) a e = (q, refl)
copy_asks M values (Create serial object) a e = absurd cc
copy_asks M values (Set p i v) a e = absurd cc
copy_asks M values (Destroy p) a e = absurd cc

pub step_is : (S : Schema) (M : Catalog) (owner : Owner) (copies : Copies) (asked : Asked) → IsStepOf S M owner (step_of S M owner copies asked) × ((step_of S M owner copies asked).op ≡ asked.op)
step_is S M owner copies asked = by_answer (copied_answer M owner copies asked) refl
  where
    from_copy : (b : Bool) (o : Option (List PlainValue)) (a : PlainAnswer) → (if b then given o None (λ values. told_by_copy (view M owner) values asked.op) else None) ≡ Some a → IsTrue b × ((q : Question) × (asked.op ≡ Ask q))
    from_copy true None a e = absurd cc
    from_copy true (Some values) a e = (refl, copy_asks (view M owner) values asked.op a e)
    from_copy false o a e = absurd cc

    by_answer : (o : Option PlainAnswer) → copied_answer M owner copies asked ≡ o
        → IsStepOf S M owner (given o (step_on_view S M owner asked.op) (step_on_copy asked.op)) × ((given o (step_on_view S M owner asked.op) (step_on_copy asked.op)).op ≡ asked.op)
    by_answer None e = (inl refl, refl)
    by_answer (Some a) e =
        let from : IsTrue (is_basic owner.level) × ((q : Question) × (asked.op ≡ Ask q)) = from_copy (is_basic owner.level) (copied_values copies asked.entry) a e in
        (inr (from.0, (from.1.0, ap (λ op. step_on_copy op a) from.1.1)), refl)
