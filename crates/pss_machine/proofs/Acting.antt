-- What each command comes to, and in which session it is done.
use Rattle.std.proofs.Common.{arith, ◌≡◌, ℕ, ◌+◌, ◌-◌, ◌==◌, Bool, true, false, ◌&&◌, List, [], ◌∷◌, Option, Some, None, refl, ap}
use Rattle.std.specs.Prelude.{IsSome, Result, Ok, Err, nat_le, ok_or, length, slice_index_or, ◌^◌, if◌then◌else◌}
use Rattle.std.specs.FinMap.{get, len}
use Rattle.std.specs.Option.{option_map}
use Rattle.pss_base.specs.declared.pid.Pid.{Pid}
use Rattle.pss_base.specs.declared.owner.OwnerNo.{OwnerNo}
use Rattle.pss_base.specs.declared.session.SessionNo.{SessionNo}
use Rattle.type_layout.specs.declared.schema.Schema.{Schema}
use Rattle.type_layout.specs.declared.home.HomeNo.{HomeNo}
use Rattle.type_layout.specs.Types.{PlainType, PlainMember, Ref}
use Rattle.type_layout.specs.Keys.{chosen, key_members}
use Rattle.type_layout.specs.Schemas.{given, members_at}
use Rattle.pss_machine.specs.declared.limits.Limits.{Limits}
use Rattle.pss_machine.specs.declared.session.View.TheVariants.{Kept as InCopy}
use Rattle.pss_machine.specs.declared.command.Rest.{Rest}
use Rattle.pss_machine.specs.declared.command.Command.{Command}
use Rattle.pss_machine.specs.declared.command.Command.TheVariants as command
use Rattle.pss_machine.specs.declared.reply.Reply.{Reply}
use Rattle.pss_machine.specs.declared.reply.Reply.TheVariants as reply
use Rattle.pss_machine.specs.Operations.{FindPid, Follow, Count, ListOf, PlainOp, Create, Set, Destroy, Ask, Busy}
use Rattle.pss_machine.specs.Commands.{data_session, named_entry, is_obtaining}
use Rattle.pss_machine.specs.Names.{factory_named, key_named}
use Rattle.pss_machine.specs.Values.{types_of, made_of}
use Rattle.pss_machine.specs.Owners.{Owner, Step, blocker}
use Rattle.pss_machine.specs.Sessions.{Session, session_named, acts_for, open_in, is_read_only}
use Rattle.pss_machine.specs.Copies.{Copies, Entry, entry_numbered, body_in, same_view, detached_from}
use Rattle.pss_machine.specs.Kept.{Kept, Actor, actor_in, copies_of, transaction_named}
use Rattle.pss_machine.specs.Asking.{Asked, ◌>>=◌, obtaining, only, by_entry, creating, making, finding, shortening, asking_whether, getting, setting, destroying, following, asking_of_home, read_home, read_values, read_value, read_entry, read_member, is_reference}
use Rattle.pss_machine.specs.Effects.{Effect, Associates, Holds, Steps, Commits, Flushes, RollsBack, Decision, does, says}
use Rattle.pss_machine.specs.Stepping.{within, changes_further, is_create, step_of, reply_to, decided, data_command}
use Rattle.pss_machine.specs.Deciding.{in_session, for_transaction, opening, beginning, closing, starting, suspending, ending, telling_state, is_over_full, unless_full, committing, flushing, with_entry, recounting, telling_pid, refreshing, telling_home, freeing, counting, decision}
use Rattle.pss_machine.specs.Laws.{is_fruitless}
use Rattle.pss_machine.proofs.Cases.{of_given, of_if}
use Rattle.pss_machine.proofs.Found.{found_there}
use Rattle.pss_machine.proofs.Growing.{Grown, grown_detached, grown_emptied, grown_counting}
use Rattle.pss_machine.proofs.Attached.{AttachesNone, none_detached, none_emptied, none_counting}
use Rattle.pss_machine.proofs.Asked.{Any, Fair, fair_then, fair_where, fair_or}

-- ---- what is asked

-- a refusal tells of nothing that the catalog did not grant
abbrev Plain : Reply → Type 0
Plain refusal = is_fruitless refusal ≡ false

fair_values : (types : List PlainType) (rest : Rest) → Fair Plain Any (read_values types rest)
fair_values types rest = grind arith

fair_value : (member : PlainMember) (rest : Rest) → Fair Plain Any (read_value member rest)
fair_value member rest = fair_then Plain Any (read_values (member.type ∷ []) rest) (λ vs. Ok (slice_index_or vs 0 (Ref None))) (fair_values (member.type ∷ []) rest) (λ vs. tt)

-- what is asked is what the command's verb says
abbrev AsksAs : Command → Asked → Type 0
AsksAs command asked = (asked.entry ≡ named_entry command) × (asked.obtains ≡ is_obtaining command)

-- an operation that names no entry
abbrev NamesNone : Bool → Asked → Type 0
NamesNone obtains asked = (asked.entry ≡ None) × (asked.obtains ≡ obtains)

abbrev Names : ℕ → Bool → Asked → Type 0
Names n obtains asked = (asked.entry ≡ Some n) × (asked.obtains ≡ obtains)

module _ (S : Schema) where
  fair_home : (word : List ℕ) → Fair Plain Any (read_home S word)
  fair_home word = fair_or Plain _ reply.NoHome refl

  fair_entry : (copies : Copies) (n : ℕ) → Fair Plain Any (read_entry copies n)
  fair_entry copies n = fair_or Plain _ reply.NoEntry refl

  fair_member : (pid : Pid) (word : List ℕ) → Fair Plain Any (read_member S pid word)
  fair_member pid word = fair_or Plain _ reply.NoMember refl

  creating_fair : (next : ℕ) (session : Session) (home : List ℕ) (rest : Rest) → Fair Plain (NamesNone true) (creating S next session home rest)
  creating_fair next session home rest =
      fair_then Plain (NamesNone true) (read_home S home) _ (fair_home home)
      (λ h. fair_then Plain (NamesNone true) (read_values (types_of (members_at S h)) rest) _ (fair_values (types_of (members_at S h)) rest)
      (λ vs. fair_where Plain (NamesNone true) (is_read_only session) reply.ReadOnly (Ok (obtaining (Create next (record { home = h; values = vs })))) refl (refl, refl)))

  making_fair : (next : ℕ) (session : Session) (home factory : List ℕ) (rest : Rest) → Fair Plain (NamesNone true) (making S next session home factory rest)
  making_fair next session home factory rest =
      fair_then Plain (NamesNone true) (read_home S home) _ (fair_home home)
      (λ h. fair_then Plain (NamesNone true) (ok_or (factory_named S h factory) reply.NoFactory) _ (fair_or Plain (factory_named S h factory) reply.NoFactory refl)
      (λ f. fair_then Plain (NamesNone true) (read_values (types_of (chosen (members_at S h) f.members)) rest) _ (fair_values (types_of (chosen (members_at S h) f.members)) rest)
      (λ vs. fair_where Plain (NamesNone true) (is_read_only session) reply.ReadOnly (Ok (obtaining (Create next (record { home = h; values = made_of (members_at S h) f.members vs })))) refl (refl, refl))))

  finding_fair : (P : Asked → Type 0) (home key : List ℕ) (rest : Rest) (ask : PlainOp → Asked) → ((op : PlainOp) → P (ask op)) → Fair Plain P (finding S home key rest >>= λ op. Ok (ask op))
  finding_fair P home key rest ask h =
      fair_then Plain P (finding S home key rest) (λ op. Ok (ask op))
      (fair_then Plain Any (read_home S home) _ (fair_home home)
      (λ h. fair_then Plain Any (ok_or (key_named S h key) reply.NoKey) _ (fair_or Plain (key_named S h key) reply.NoKey refl)
      (λ k. fair_then Plain Any (read_values (types_of (key_members S k)) rest) _ (fair_values (types_of (key_members S k)) rest) (λ vs. tt))))
      h

  shortening_fair : (home : List ℕ) (serial : ℕ) → Fair Plain (NamesNone true) (shortening S home serial)
  shortening_fair home serial = fair_then Plain (NamesNone true) (read_home S home) _ (fair_home home) (λ h. (refl, refl))

  whether_fair : (copies : Copies) (n : ℕ) → Fair Plain (NamesNone false) (asking_whether copies n)
  whether_fair copies n = fair_then Plain (NamesNone false) (read_entry copies n) _ (fair_entry copies n) (λ e. (refl, refl))

  getting_fair : (copies : Copies) (n : ℕ) (word : List ℕ) → Fair Plain (Names n false) (getting S copies n word)
  getting_fair copies n word =
      fair_then Plain (Names n false) (read_entry copies n) _ (fair_entry copies n) (λ e. fair_then Plain (Names n false) (read_member S e.pid word) _ (fair_member e.pid word) (λ place. (refl, refl)))

  setting_fair : (session : Session) (copies : Copies) (n : ℕ) (word : List ℕ) (rest : Rest) → Fair Plain (Names n false) (setting S session copies n word rest)
  setting_fair session copies n word rest =
      fair_then Plain (Names n false) (read_entry copies n) _ (fair_entry copies n)
      (λ e. fair_then Plain (Names n false) (read_member S e.pid word) _ (fair_member e.pid word)
      (λ place. fair_then Plain (Names n false) (read_value place.member rest) _ (fair_value place.member rest)
      (λ v. fair_where Plain (Names n false) (is_read_only session) reply.ReadOnly _ refl (fair_where Plain (Names n false) place.member.readonly reply.ReadOnly (Ok (by_entry n (Set e.pid place.number v))) refl (refl, refl)))))

  destroying_fair : (session : Session) (copies : Copies) (n : ℕ) → Fair Plain (NamesNone false) (destroying session copies n)
  destroying_fair session copies n =
      fair_then Plain (NamesNone false) (read_entry copies n) _ (fair_entry copies n) (λ e. fair_where Plain (NamesNone false) (is_read_only session) reply.ReadOnly (Ok (only (Destroy e.pid))) refl (refl, refl))

  following_fair : (copies : Copies) (n : ℕ) (word : List ℕ) → Fair Plain (Names n true) (following S copies n word)
  following_fair copies n word =
      fair_then Plain (Names n true) (read_entry copies n) _ (fair_entry copies n)
      (λ e. fair_then Plain (Names n true) (read_member S e.pid word) _ (fair_member e.pid word)
      (λ place. of_if (Fair Plain (Names n true)) (is_reference place.member.type) (Ok (record { op = Ask (Follow e.pid place.number); entry = Some n; obtains = true })) (Err reply.NotRef) (refl, refl) refl))

  home_fair : (home : List ℕ) (op : HomeNo → PlainOp) → Fair Plain (NamesNone false) (asking_of_home S home op)
  home_fair home op = fair_then Plain (NamesNone false) (read_home S home) _ (fair_home home) (λ h. (refl, refl))

-- ---- what a command comes to

-- the command is done in the session, which acts for the owner, and asks for what its verb says
pub record IsStepIn (S : Schema) (k : Kept) (command : Command) (n : OwnerNo) (s : SessionNo) (step : Step) (asked : Asked) (told : Reply) : Type 0 where
  pub name : List ℕ
  pub session : Session
  pub in_session : data_session command ≡ Some name
  pub named : session_named k.sessions name ≡ Some (s.0, session)
  pub acts : acts_for session ≡ Some n
  pub entry : asked.entry ≡ named_entry command
  pub obtains : asked.obtains ≡ is_obtaining command
  pub reply : told ≡ reply_to S k (copies_of k s) asked step.answer

-- what the session of a command is to hold has grown from what it holds, and nothing in it is attached but what was
pub record IsHeldIn (k : Kept) (s : SessionNo) (copies : Copies) : Type 0 where
  pub session : Session
  pub there : get k.sessions s.0 ≡ Some session
  pub grown : Grown (copies_of k s) copies
  pub attached : AttachesNone (copies_of k s) copies

-- what is known of an effect, by the command and the reply
abbrev pub Known : Schema → Kept → Command → Effect → Reply → Type 0
Known S k command (Steps n s step asked) reply = IsStepIn S k command n s step asked reply
Known S k command (Holds s copies) reply = (is_fruitless reply ≡ false) × IsHeldIn k s copies
Known S k command (Associates s association) reply = (is_fruitless reply ≡ false) × IsSome (open_in association)
Known S k command _ reply = is_fruitless reply ≡ false

module _ (S : Schema) (limits : Limits) (k : Kept) where
  abbrev Seen : Command → Decision → Type 0
  Seen command d = Known S k command d.effect d.reply

  pub actor_acts : (session : Session) (actor : Actor) → actor_in k.owners session ≡ Some actor → acts_for session ≡ Some actor.number
  actor_acts session actor e = by_acts (acts_for session) e
    where
      by_owner : (n : OwnerNo) (o : Option Owner) → option_map (λ owner. record { number = n; owner = owner }) o ≡ Some actor → Some n ≡ Some actor.number
      by_owner n None e = absurd cc
      by_owner n (Some owner) e =
          let same : record { number = n; owner = owner } ≡ actor = grind arith in
          ap (λ (a : Actor). Some a.number) same

      by_acts : (o : Option OwnerNo) → given o None (λ n. option_map (λ owner. record { number = n; owner = owner }) (get k.owners n.0)) ≡ Some actor → o ≡ Some actor.number
      by_acts None e = absurd cc
      by_acts (Some n) e = by_owner n (get k.owners n.0) e

  module _ (command : Command) where
    in_seen : (name : List ℕ) (f : SessionNo → Session → Decision) → ((s : SessionNo) (session : Session) → session_named k.sessions name ≡ Some (s.0, session) → Seen command (f s session)) → Seen command (in_session k name f)
    in_seen name f h = of_given (Seen command) (session_named k.sessions name) (says reply.NoSession) (λ e. f (record { 0 = e.0 }) e.1) refl (λ e there. h (record { 0 = e.0 }) e.1 there)

    for_seen : (name : List ℕ) (f : OwnerNo → Decision) → ((n : OwnerNo) → Seen command (f n)) → Seen command (for_transaction k name f)
    for_seen name f h = of_given (Seen command) (transaction_named k name) (says reply.NoTransaction) f refl (λ n there. h n)

    within_fair : (owner : Owner) (copies : Copies) (r : Result Asked Reply) → Fair Plain (AsksAs command) r → Fair Plain (AsksAs command) (r >>= within limits k.next owner copies)
    within_fair owner copies (Err refusal) fair = fair
    within_fair owner copies (Ok asked) fair =
        fair_where Plain (AsksAs command) (changes_further owner asked.op && nat_le limits.changes (len owner.changes)) reply.Many _ refl
        (fair_where Plain (AsksAs command) (is_create asked.op && k.next == 2 ^ 64 - 1) reply.Serials _ refl
        (fair_where Plain (AsksAs command) (asked.obtains && nat_le limits.entries (length copies.entries)) reply.Entries (Ok asked) refl fair))

    module _ (name : List ℕ) (word : data_session command ≡ Some name) where
      decided_seen : (s : SessionNo) (session : Session) (actor : Actor) (asked : Result Asked Reply) → session_named k.sessions name ≡ Some (s.0, session) → acts_for session ≡ Some actor.number → Fair Plain (AsksAs command) asked → Seen command (decided S k s actor asked)
      decided_seen s session actor (Err refusal) named acts fair = fair
      decided_seen s session actor (Ok asked) named acts fair = (let step : Step = step_of S k.catalog actor.owner (copies_of k s) asked in
          of_given (Seen command) (blocker k.owners actor.number step.needs)
          (does (Steps actor.number s step asked) (reply_to S k (copies_of k s) asked step.answer))
          (λ b. says (reply_to S k (copies_of k s) asked (Busy b)))
          (record { name = name; session = session; in_session = word; named = named; acts = acts; entry = fair.0; obtains = fair.1; reply = refl })
          (λ b held. refl))

      data_seen : (asked : SessionNo → Session → Result Asked Reply) → ((s : SessionNo) (session : Session) → Fair Plain (AsksAs command) (asked s session)) → Seen command (in_session k name (λ s session. data_command S limits k s session (asked s session)))
      data_seen asked fair =
          in_seen name (λ s session. data_command S limits k s session (asked s session))
          (λ s session named. of_given (Seen command) (actor_in k.owners session) (says reply.NoTx) (λ actor. decided S k s actor (asked s session >>= within limits k.next actor.owner (copies_of k s))) refl
          (λ actor there. decided_seen s session actor (asked s session >>= within limits k.next actor.owner (copies_of k s)) named (actor_acts session actor there) (within_fair actor.owner (copies_of k s) (asked s session) (fair s session))))

    entry_seen : (s : SessionNo) (n : ℕ) (f : Entry → Decision) → ((e : Entry) → Seen command (f e)) → Seen command (with_entry k s n f)
    entry_seen s n f h = of_given (Seen command) (entry_numbered (copies_of k s) n) (says reply.NoEntry) f refl (λ e there. h e)

    session_there : (name : List ℕ) (s : SessionNo) (session : Session) → session_named k.sessions name ≡ Some (s.0, session) → get k.sessions s.0 ≡ Some session
    session_there name s session named = found_there _ k.sessions (s.0, session) named

    recount_seen : (name : List ℕ) (n : ℕ) (change : ℕ → ℕ) → Seen command (in_session k name (λ s session. recounting k s n change))
    recount_seen name n change =
        in_seen name (λ s session. recounting k s n change)
        (λ s session named. entry_seen s n (λ e. does (Holds s (counting n (change e.count) (copies_of k s))) (reply.Count (change e.count)))
        (λ e. (refl, record { session = session; there = session_there name s session named; grown = grown_counting n (change e.count) (copies_of k s); attached = none_counting n (change e.count) (copies_of k s) })))

    freeing_seen : (name : List ℕ) → Seen command (in_session k name (λ s session. freeing k s))
    freeing_seen name =
        in_seen name (λ s session. freeing k s) (λ s session named. (refl, record { session = session; there = session_there name s session named; grown = grown_emptied (copies_of k s); attached = none_emptied (copies_of k s) }))

    refreshing_seen : (name : List ℕ) → Seen command (in_session k name (refreshing k))
    refreshing_seen name =
        in_seen name (refreshing k)
        (λ s session named. by_kind s session (record {
          session = session;
          there = session_there name s session named;
          grown = grown_detached (body_in k.owners s session) (λ body. same_view body.view (InCopy s)) (copies_of k s);
          attached = none_detached (body_in k.owners s session) (λ body. same_view body.view (InCopy s)) (copies_of k s);
        }))
      where
        by_kind : (s : SessionNo) (session : Session) → IsHeldIn k s (detached_from (body_in k.owners s session) (λ body. same_view body.view (InCopy s)) (copies_of k s)) → Seen command (refreshing k s session)
        by_kind s session held = grind (arith, held)

    opening_seen : (name : List ℕ) (tx write : Bool) → Seen command (opening limits k name tx write)
    opening_seen name tx write = grind arith

    beginning_seen : (name : List ℕ) (serializable : Bool) → Seen command (beginning limits k name serializable)
    beginning_seen name serializable = grind arith

    closing_seen : (s : SessionNo) (session : Session) → Seen command (closing k s session)
    closing_seen s session = grind arith

    starting_seen : (s : SessionNo) (session : Session) (n : OwnerNo) → Seen command (starting k s session n)
    starting_seen s session n = grind arith

    suspending_seen : (s : SessionNo) (session : Session) → Seen command (suspending s session)
    suspending_seen s session = grind arith

    ending_seen : (s : SessionNo) (session : Session) (ok : Bool) → Seen command (ending s session ok)
    ending_seen s session ok = grind arith

    state_seen : (session : Session) → Seen command (telling_state session)
    state_seen session = grind arith

    full_seen : (n : OwnerNo) (effect : Effect) → Seen command (does effect reply.Done) → Seen command (unless_full S limits k n effect)
    full_seen n effect h =
        of_given (Seen command) (get k.owners n.0) (says reply.Done) (λ owner. if is_over_full S limits k.catalog owner then says reply.Full else does effect reply.Done) refl
        (λ owner there. of_if (Seen command) (is_over_full S limits k.catalog owner) (says reply.Full) (does effect reply.Done) refl h)

    committing_seen : (n : OwnerNo) → Seen command (committing S limits k n)
    committing_seen n = grind (arith, full_seen n (Commits n) refl)

    flushing_seen : (session : Session) → Seen command (flushing S limits k session)
    flushing_seen session = grind (arith, λ (n : OwnerNo). full_seen n (Flushes n) refl)

    home_seen : (word : List ℕ) → Seen command (telling_home S word)
    home_seen word = grind arith

  pub decision_seen : (command : Command) → Known S k command (decision S limits k command).effect (decision S limits k command).reply
  decision_seen (command.OpenSession name tx write) = opening_seen (command.OpenSession name tx write) name tx write
  decision_seen (command.Close name) = in_seen (command.Close name) name (closing k) (λ s session named. closing_seen (command.Close name) s session)
  decision_seen (command.Begin name serializable) = beginning_seen (command.Begin name serializable) name serializable
  decision_seen (command.Start name t) =
      in_seen (command.Start name t) name (λ s session. for_transaction k t (starting k s session)) (λ s session named. for_seen (command.Start name t) t (starting k s session) (starting_seen (command.Start name t) s session))
  decision_seen (command.Suspend name) = in_seen (command.Suspend name) name suspending (λ s session named. suspending_seen (command.Suspend name) s session)
  decision_seen (command.End name ok) = in_seen (command.End name ok) name (λ s session. ending s session ok) (λ s session named. ending_seen (command.End name ok) s session ok)
  decision_seen (command.Status name) = in_seen (command.Status name) name (λ s session. telling_state session) (λ s session named. state_seen (command.Status name) session)
  decision_seen (command.Commit t) = for_seen (command.Commit t) t (committing S limits k) (committing_seen (command.Commit t))
  decision_seen (command.Rollback t) = for_seen (command.Rollback t) t (λ n. does (RollsBack n) reply.Done) (λ n. refl)
  decision_seen (command.Home name home) = in_seen (command.Home name home) name (λ s session. telling_home S home) (λ s session named. home_seen (command.Home name home) home)
  decision_seen (command.Create name home values) = data_seen (command.Create name home values) name refl (λ s session. creating S k.next session home values) (λ s session. creating_fair S k.next session home values)
  decision_seen (command.Make name home factory values) =
      data_seen (command.Make name home factory values) name refl (λ s session. making S k.next session home factory values) (λ s session. making_fair S k.next session home factory values)
  decision_seen (command.Find name home key values) =
      data_seen (command.Find name home key values) name refl (λ s session. finding S home key values >>= λ op. Ok (obtaining op)) (λ s session. finding_fair S (NamesNone true) home key values obtaining (λ op. (refl, refl)))
  decision_seen (command.FindRef name home key values) =
      data_seen (command.FindRef name home key values) name refl (λ s session. finding S home key values >>= λ op. Ok (only op)) (λ s session. finding_fair S (NamesNone false) home key values only (λ op. (refl, refl)))
  decision_seen (command.Pid name pid) = data_seen (command.Pid name pid) name refl (λ s session. Ok (obtaining (Ask (FindPid pid)))) (λ s session. (refl, refl))
  decision_seen (command.Short name home serial) = data_seen (command.Short name home serial) name refl (λ s session. shortening S home serial) (λ s session. shortening_fair S home serial)
  decision_seen (command.Exists name n) = data_seen (command.Exists name n) name refl (λ s session. asking_whether (copies_of k s) n) (λ s session. whether_fair S (copies_of k s) n)
  decision_seen (command.Get name n member) = data_seen (command.Get name n member) name refl (λ s session. getting S (copies_of k s) n member) (λ s session. getting_fair S (copies_of k s) n member)
  decision_seen (command.Set name n member value) =
      data_seen (command.Set name n member value) name refl (λ s session. setting S session (copies_of k s) n member value) (λ s session. setting_fair S session (copies_of k s) n member value)
  decision_seen (command.Destroy name n) = data_seen (command.Destroy name n) name refl (λ s session. destroying session (copies_of k s) n) (λ s session. destroying_fair S session (copies_of k s) n)
  decision_seen (command.Follow name n member) = data_seen (command.Follow name n member) name refl (λ s session. following S (copies_of k s) n member) (λ s session. following_fair S (copies_of k s) n member)
  decision_seen (command.Count name home) = data_seen (command.Count name home) name refl (λ s session. asking_of_home S home (λ h. Ask (Count h))) (λ s session. home_fair S home (λ h. Ask (Count h)))
  decision_seen (command.List name home) = data_seen (command.List name home) name refl (λ s session. asking_of_home S home (λ h. Ask (ListOf h))) (λ s session. home_fair S home (λ h. Ask (ListOf h)))
  decision_seen (command.PidOf name n) =
      in_seen (command.PidOf name n) name (λ s session. telling_pid k s n) (λ s session named. entry_seen (command.PidOf name n) s n (λ e. says (reply.PidAndShort e.pid)) (λ e. refl))
  decision_seen (command.Dup name n) = recount_seen (command.Dup name n) name n (λ count. count + 1)
  decision_seen (command.Release name n) = recount_seen (command.Release name n) name n (λ count. count - 1)
  decision_seen (command.FreeAll name) = freeing_seen (command.FreeAll name) name
  decision_seen (command.Flush name) = in_seen (command.Flush name) name (λ s session. flushing S limits k session) (λ s session named. flushing_seen (command.Flush name) session)
  decision_seen (command.Refresh name) = refreshing_seen (command.Refresh name) name
  decision_seen command.Checkpoint = refl
  decision_seen command.Stat = refl
  decision_seen command.History = refl
