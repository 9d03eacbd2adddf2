-- An entry stays attached until its body is left, and no other is attached but by a command that uses it.
use Rattle.std.proofs.Common.{arith, ◌≡◌, ℕ, ◌+◌, ◌==◌, not, ◌&&◌, cond, Bool, true, false, List, [], ◌∷◌, ◌++◌, map, Option, Some, None, refl, sym, ap, ◌∙◌, subst, inl, inr}
use Rattle.std.specs.Prelude.{◌⊎◌, ◌||◌, find, is_some, unwrap_or, if◌then◌else◌}
use Rattle.std.specs.Option.{option_map}
use Rattle.std.proofs.lemmas.Bool.{eq-eqb}
use Rattle.std.specs.FinMap.{get, insert, remove}
use Rattle.pss_base.specs.declared.pid.Pid.{Pid}
use Rattle.pss_base.specs.declared.owner.OwnerNo.{OwnerNo}
use Rattle.pss_base.specs.declared.session.SessionNo.{SessionNo}
use Rattle.type_layout.specs.declared.schema.Schema.{Schema}
use Rattle.type_layout.specs.Schemas.{given}
use Rattle.pss_catalog.specs.Catalog.{Catalog}
use Rattle.pss_machine.specs.declared.limits.Limits.{Limits}
use Rattle.pss_machine.specs.declared.command.Command.{Command}
use Rattle.pss_machine.specs.declared.reply.Reply.{Reply}
use Rattle.pss_machine.specs.declared.session.Kind.{Kind}
use Rattle.pss_machine.specs.declared.session.Kind.TheVariants.{Basic}
use Rattle.pss_machine.specs.declared.session.View.{View}
use Rattle.pss_machine.specs.declared.session.View.TheVariants.{Committed, Kept as InCopy}
use Rattle.pss_machine.specs.declared.reply.Reply.TheVariants as reply
use Rattle.pss_machine.specs.Operations.{PlainAnswer, Done, Found, IsThere, Val, Number, Listing, NotFound, Gone, Nil, Duplicate, TooLarge, Busy}
use Rattle.pss_machine.specs.Maps.{with_at}
use Rattle.pss_machine.specs.Commands.{named_entry, is_obtaining}
use Rattle.pss_machine.specs.Owners.{Owner, Owners, Step, net}
use Rattle.pss_machine.specs.Sessions.{Session, Sessions}
use Rattle.pss_machine.specs.Copies.{Loose, Entry, Copies, AllCopies, no_copies, entry_numbered, entry_for, number_for, with_count, with_stand, at_entry, obtained, stand_in, attached, is_attached, Body, same_view, view_in, body_in, detached_from, detached}
use Rattle.pss_machine.specs.Kept.{Kept, copies_of}
use Rattle.pss_machine.specs.Asking.{Asked}
use Rattle.pss_machine.specs.Effects.{Effect, Stays, OpensBasic, OpensTransactional, ClosesBasic, ClosesTransactional, Begins, Associates, Ends, Holds, Steps, Commits, Flushes, RollsBack, does, says}
use Rattle.pss_machine.specs.Stepping.{reply_to}
use Rattle.pss_machine.specs.Deciding.{refreshing, decision}
use Rattle.pss_machine.specs.Moving.{seated, is_done, with_named, with_found, seen_in, owners_after, is_outdated, is_in, is_session, is_settled, title_of, with_commit, settled, without_transaction_of, moved}
use Rattle.pss_machine.specs.Run.{first, run}
use Rattle.pss_machine.specs.Attaching.{attached_in, is_attached_at, is_given, is_success, is_used, IsDoneIn, is_left_by_commit, stays_at, is_keeping, IsAttachedBy, OthersStayAttached, OnlyUsedAreAttached, RefreshDetachesCopies}
use Rattle.pss_machine.proofs.Cases.{of_given, of_if}
use Rattle.pss_machine.proofs.Maps.{get_each, same_or_apart, insert_here, insert_apart, remove_here, remove_apart, with_here, with_apart}
use Rattle.pss_machine.proofs.Found.{found_there}
use Rattle.pss_machine.proofs.Growing.{Keeps, keeps_if, keeps_count, keeps_stand, keeps_attached, numbered_map}
use Rattle.pss_machine.proofs.Numbering.{PairedIn, run_paired}
use Rattle.pss_machine.proofs.Attached.{AttachesNone, same_number, is_found, is_named, named_attaches, found_attaches}
use Rattle.pss_machine.proofs.Acting.{Known, IsStepIn, decision_seen}
use Rattle.pss_machine.proofs.Attaching.{seated_at, none_there, NoneMore, in_session}
use Rattle.pss_machine.proofs.Logic.{none_some, same_some, true_false}

-- ---- by what entries are attached

-- the reply tells that the command did what it was asked for
told_success : (S : Schema) (k : Kept) (copies : Copies) (asked : Asked) (answer : PlainAnswer) → is_done answer ≡ true → is_success (reply_to S k copies asked answer) ≡ true
told_success S k copies asked Done e = refl
told_success S k copies asked (Found p) e = by asked.obtains
  where
    by : (b : Bool) → is_success (reply_to S k copies (record { op = asked.op; entry = asked.entry; obtains = b }) (Found p)) ≡ true
    by true = refl
    by false = refl
told_success S k copies asked (Val v) e = refl
told_success S k copies asked (IsThere b) e = absurd cc
told_success S k copies asked (Number n) e = absurd cc
told_success S k copies asked (Listing n pids) e = absurd cc
told_success S k copies asked NotFound e = absurd cc
told_success S k copies asked (Gone p) e = absurd cc
told_success S k copies asked Nil e = absurd cc
told_success S k copies asked (Duplicate key) e = absurd cc
told_success S k copies asked TooLarge e = absurd cc
told_success S k copies asked (Busy n) e = absurd cc

-- and which entry it gives
told_given : (S : Schema) (k : Kept) (copies : Copies) (asked : Asked) (answer : PlainAnswer) (n : ℕ) → is_found asked.obtains answer copies n ≡ true → (asked.obtains && is_given (reply_to S k copies asked answer) n) ≡ true
told_given S k copies asked answer n e = by asked.obtains answer e
  where
    by : (b : Bool) (a : PlainAnswer) → is_found b a copies n ≡ true → (b && is_given (reply_to S k copies (record { op = asked.op; entry = asked.entry; obtains = b }) a) n) ≡ true
    by true (Found p) e = e
    by false a e = absurd cc
    by true Done e = absurd cc
    by true (IsThere b) e = absurd cc
    by true (Val v) e = absurd cc
    by true (Number n) e = absurd cc
    by true (Listing n pids) e = absurd cc
    by true NotFound e = absurd cc
    by true (Gone p) e = absurd cc
    by true Nil e = absurd cc
    by true (Duplicate key) e = absurd cc
    by true TooLarge e = absurd cc
    by true (Busy n) e = absurd cc

-- ---- other effects attach nothing

opened_none : (all : AllCopies) (i s : ℕ) → NoneMore all (insert all i no_copies) s
opened_none all i s n e = by (same_or_apart s i)
  where
    by : ((s ≡ i) ⊎ (s ≡ i → ⊥)) → seated_at all s n ≡ true
    by (inl same) = absurd (none_there n (sym (ap (λ o. attached_in (unwrap_or o no_copies) n) (ap (get (insert all i no_copies)) same ∙ insert_here all i no_copies)) ∙ e))
    by (inr apart) = sym (ap (λ o. attached_in (unwrap_or o no_copies) n) (insert_apart all i no_copies s apart)) ∙ e

closed_none : (all : AllCopies) (i s : ℕ) → NoneMore all (remove all i) s
closed_none all i s n e = by (same_or_apart s i)
  where
    by : ((s ≡ i) ⊎ (s ≡ i → ⊥)) → seated_at all s n ≡ true
    by (inl same) = absurd (none_there n (sym (ap (λ o. attached_in (unwrap_or o no_copies) n) (ap (get (remove all i)) same ∙ remove_here all i)) ∙ e))
    by (inr apart) = sym (ap (λ o. attached_in (unwrap_or o no_copies) n) (remove_apart all i s apart)) ∙ e

held_none : (k : Kept) (s : SessionNo) (copies : Copies) → AttachesNone (copies_of k s) copies → (t : ℕ) → NoneMore k.copies (insert k.copies s.0 copies) t
held_none k s copies none t n e = by (same_or_apart t s.0)
  where
    by : ((t ≡ s.0) ⊎ (t ≡ s.0 → ⊥)) → seated_at k.copies t n ≡ true
    by (inl same) =
        ap (λ t. seated_at k.copies t n) same ∙ none n (sym (ap (λ o. attached_in (unwrap_or o no_copies) n) (ap (get (insert k.copies s.0 copies)) same ∙ insert_here k.copies s.0 copies)) ∙ e)
    by (inr apart) = sym (ap (λ o. attached_in (unwrap_or o no_copies) n) (insert_apart k.copies s.0 copies t apart)) ∙ e

-- ---- the entries of a step's session

found_map : (f : Entry → Entry) → Keeps f → (b : Bool) (a : PlainAnswer) (c : Copies) (n : ℕ) → is_found b a (record { last = c.last; entries = map f c.entries }) n ≡ is_found b a c n
found_map f keeps true (Found p) c n = ap (λ m. m == n) (same_number f keeps c p)
found_map f keeps false a c n = refl
found_map f keeps true Done c n = refl
found_map f keeps true (IsThere b) c n = refl
found_map f keeps true (Val v) c n = refl
found_map f keeps true (Number m) c n = refl
found_map f keeps true (Listing m pids) c n = refl
found_map f keeps true NotFound c n = refl
found_map f keeps true (Gone p) c n = refl
found_map f keeps true Nil c n = refl
found_map f keeps true (Duplicate key) c n = refl
found_map f keeps true TooLarge c n = refl
found_map f keeps true (Busy m) c n = refl

pub found_named : (M : Catalog) (seen : Pid → View) (named : Option ℕ) (b : Bool) (a : PlainAnswer) (c : Copies) (n : ℕ) → is_found b a (with_named M seen named c) n ≡ is_found b a c n
found_named M seen None b a c n = refl
found_named M seen (Some m) b a c n = found_map (λ e. if e.number == m then attached M seen e else e) (keeps_if (λ e. e.number == m) (attached M seen) (keeps_attached M seen)) b a c n

pub found_detached : (body : Pid → Body) (test : Body → Bool) (b : Bool) (a : PlainAnswer) (c : Copies) (n : ℕ) → is_found b a (detached_from body test c) n ≡ is_found b a c n
found_detached body test b a c n =
    found_map (λ e. if is_attached e && test (body e.pid) then with_stand Loose e else e) (keeps_if (λ e. is_attached e && test (body e.pid)) (with_stand Loose) (keeps_stand (λ e. Loose))) b a c n

-- ---- what stays attached

-- the entry of a number is attached, and passes no test
abbrev kept_in : (Body → Bool) → (Pid → Body) → Copies → ℕ → Bool
kept_in test body c n = given (entry_numbered c n) false (λ e. is_attached e && not (test (body e.pid)))

and_true : (b : Bool) → (b && true) ≡ b
and_true true = refl
and_true false = refl

detached_keeps : (body : Pid → Body) (test : Body → Bool) (c : Copies) (n : ℕ) → attached_in (detached_from body test c) n ≡ kept_in test body c n
detached_keeps body test c n =
    ap (λ o. given o false is_attached) (numbered_map loose (keeps_if (λ e. is_attached e && test (body e.pid)) (with_stand Loose) (keeps_stand (λ e. Loose))) n c.entries) ∙ by (entry_numbered c n)
  where
    loose : Entry → Entry
    loose e = if is_attached e && test (body e.pid) then with_stand Loose e else e

    by_tests : (e : Entry) (a : Bool) → is_attached e ≡ a → (b : Bool) → is_attached (if a && b then with_stand Loose e else e) ≡ (a && not b)
    by_tests e true is true = refl
    by_tests e true is false = is
    by_tests e false is b = is

    by : (o : Option Entry) → given (option_map loose o) false is_attached ≡ given o false (λ e. is_attached e && not (test (body e.pid)))
    by None = refl
    by (Some e) = by_tests e (is_attached e) refl (test (body e.pid))

-- the test of a session's bodies, where the session is there
abbrev pub test_in : Sessions → (SessionNo → Session → Body → Bool) → Owners → ℕ → Pid → Bool
test_in sessions test owners s pid = given (get sessions s) false (λ session. test (record { 0 = s }) session (body_in owners (record { 0 = s }) session pid))

abbrev pub kept_by : Owners → Sessions → (SessionNo → Session → Body → Bool) → Copies → ℕ → ℕ → Bool
kept_by owners sessions test c s n = given (entry_numbered c n) false (λ e. is_attached e && not (test_in sessions test owners s e.pid))

pub session_keeps : (owners : Owners) (sessions : Sessions) (test : SessionNo → Session → Body → Bool) (s : ℕ) (c : Copies) (n : ℕ) → attached_in (in_session owners sessions test s c) n ≡ kept_by owners sessions test c s n
session_keeps owners sessions test s c n = by (get sessions s)
  where
    by : (o : Option Session) → attached_in (given o c (λ session. detached_from (body_in owners (record { 0 = s }) session) (test (record { 0 = s }) session) c)) n
        ≡ given (entry_numbered c n) false (λ e. is_attached e && not (given o false (λ session. test (record { 0 = s }) session (body_in owners (record { 0 = s }) session e.pid))))
    by None = sym (by_entry (entry_numbered c n))
      where
        by_entry : (o : Option Entry) → given o false (λ e. is_attached e && true) ≡ given o false is_attached
        by_entry None = refl
        by_entry (Some e) = and_true (is_attached e)
    by (Some session) = detached_keeps (body_in owners (record { 0 = s }) session) (test (record { 0 = s }) session) c n

-- what stays where bodies that pass a test are left
detached_exact : (owners : Owners) (sessions : Sessions) (test : SessionNo → Session → Body → Bool) (all : AllCopies) (s n : ℕ)
    → seated_at (detached owners sessions test all) s n ≡ kept_by owners sessions test (unwrap_or (get all s) no_copies) s n
detached_exact owners sessions test all s n = ap (λ o. attached_in (unwrap_or o no_copies) n) (get_each (in_session owners sessions test) all s) ∙ by (get all s)
  where
    by : (o : Option Copies) → attached_in (unwrap_or (option_map (in_session owners sessions test s) o) no_copies) n ≡ kept_by owners sessions test (unwrap_or o no_copies) s n
    by None = refl
    by (Some c) = session_keeps owners sessions test s c n

-- ---- where a step attaches

module _ (M : Catalog) (seen : Pid → View) where
  -- the entry of the number stands where its session sees the object, where it is attached
  abbrev StandsSeen : Copies → ℕ → Type 0
  StandsSeen c n = (e : Entry) → entry_numbered c n ≡ Some e → is_attached e ≡ true → e.stand ≡ stand_in M e.pid (seen e.pid)

  stands_map : (f : Entry → Entry) → Keeps f → ((e : Entry) → (is_attached e ≡ true → e.stand ≡ stand_in M e.pid (seen e.pid)) → is_attached (f e) ≡ true → (f e).stand ≡ stand_in M (f e).pid (seen (f e).pid))
      → (c : Copies) (n : ℕ) → StandsSeen c n → StandsSeen (record { last = c.last; entries = map f c.entries }) n
  stands_map f keeps h c n stands e there is = by (entry_numbered c n) refl (sym (numbered_map f keeps n c.entries) ∙ there)
    where
      by : (o : Option Entry) → entry_numbered c n ≡ o → option_map f o ≡ Some e → e.stand ≡ stand_in M e.pid (seen e.pid)
      by None found there = absurd (none_some there)
      by (Some x) found there =
          let same : f x ≡ e = same_some there in
          subst (λ (e : Entry). is_attached e ≡ true → e.stand ≡ stand_in M e.pid (seen e.pid)) same (h x (stands x found)) is

  stands_at : (m : ℕ) (c : Copies) (n : ℕ) → StandsSeen c n → StandsSeen (at_entry m (attached M seen) c) n
  stands_at m c n =
      stands_map (λ e. if e.number == m then attached M seen e else e) (keeps_if (λ e. e.number == m) (attached M seen) (keeps_attached M seen)) (λ e old. by e old (e.number == m) (is_attached e) refl) c n
    where
      by : (e : Entry) → (is_attached e ≡ true → e.stand ≡ stand_in M e.pid (seen e.pid)) → (b a : Bool) → is_attached e ≡ a
          → is_attached (if b then (if a then e else with_stand (stand_in M e.pid (seen e.pid)) e) else e) ≡ true
          → (if b then (if a then e else with_stand (stand_in M e.pid (seen e.pid)) e) else e).stand ≡ stand_in M (if b then (if a then e else with_stand (stand_in M e.pid (seen e.pid)) e) else e).pid (seen (if b then (if a then e else with_stand (stand_in M e.pid (seen e.pid)) e) else e).pid)
      by e old true true is now = old is
      by e old true false is now = refl
      by e old false a is now = old now

  stands_obtained : (p : Pid) (c : Copies) (n : ℕ) → StandsSeen c n → StandsSeen (obtained p c) n
  stands_obtained p c n stands = by (entry_for c p)
    where
      new : Entry
      new = record { number = c.last + 1; pid = p; count = 1; stand = Loose }

      pushed : (es : List Entry) → ((e : Entry) → find (λ e. e.number == n) es ≡ Some e → is_attached e ≡ true → e.stand ≡ stand_in M e.pid (seen e.pid))
          → (e : Entry) → find (λ e. e.number == n) (es ++ new ∷ []) ≡ Some e → is_attached e ≡ true → e.stand ≡ stand_in M e.pid (seen e.pid)
      pushed [] old e there is = by_number ((c.last + 1) == n) there
        where
          by_number : (b : Bool) → cond b (Some new) None ≡ Some e → e.stand ≡ stand_in M e.pid (seen e.pid)
          by_number true there = absurd (true_false (ap is_attached (same_some there) ∙ is) refl)
          by_number false there = absurd (none_some there)
      pushed (x ∷ es) old e there is = by_head (x.number == n) old there (pushed es)
        where
          by_head : (b : Bool) → ((e : Entry) → cond b (Some x) (find (λ e. e.number == n) es) ≡ Some e → is_attached e ≡ true → e.stand ≡ stand_in M e.pid (seen e.pid)) → cond b (Some x) (find (λ e. e.number == n) (es ++ new ∷ [])) ≡ Some e
              → (((e : Entry) → find (λ e. e.number == n) es ≡ Some e → is_attached e ≡ true → e.stand ≡ stand_in M e.pid (seen e.pid)) → (e : Entry) → find (λ e. e.number == n) (es ++ new ∷ []) ≡ Some e → is_attached e ≡ true → e.stand ≡ stand_in M e.pid (seen e.pid))
              → e.stand ≡ stand_in M e.pid (seen e.pid)
          by_head true old there rest = old e there is
          by_head false old there rest = rest old e there is

      by : (o : Option Entry) → StandsSeen (given o (record { last = c.last + 1; entries = c.entries ++ new ∷ [] }) (λ e. at_entry e.number (with_count (e.count + 1)) c)) n
      by None = pushed c.entries stands
      by (Some x) =
          stands_map (λ e. if e.number == x.number then with_count (x.count + 1) e else e) (keeps_if (λ e. e.number == x.number) (with_count (x.count + 1)) (keeps_count (x.count + 1)))
          (λ e old. by_test e old (e.number == x.number)) c n stands
        where
          by_test : (e : Entry) → (is_attached e ≡ true → e.stand ≡ stand_in M e.pid (seen e.pid)) → (b : Bool) → is_attached (if b then with_count (x.count + 1) e else e) ≡ true
              → (if b then with_count (x.count + 1) e else e).stand ≡ stand_in M (if b then with_count (x.count + 1) e else e).pid (seen (if b then with_count (x.count + 1) e else e).pid)
          by_test e old true is = old is
          by_test e old false is = old is

  stands_named : (named : Option ℕ) (c : Copies) (n : ℕ) → StandsSeen c n → StandsSeen (with_named M seen named c) n
  stands_named None c n stands = stands
  stands_named (Some m) c n stands = stands_at m c n stands

  stands_found : (obtains : Bool) (answer : PlainAnswer) (c : Copies) (n : ℕ) → StandsSeen c n → StandsSeen (with_found M seen obtains answer c) n
  stands_found false answer c n stands = stands
  stands_found true (Found p) c n stands = stands_at (number_for c p) (obtained p c) n (stands_obtained p c n stands)
  stands_found true Done c n stands = stands
  stands_found true (IsThere b) c n stands = stands
  stands_found true (Val v) c n stands = stands
  stands_found true (Number m) c n stands = stands
  stands_found true (Listing m pids) c n stands = stands
  stands_found true NotFound c n stands = stands
  stands_found true (Gone p) c n stands = stands
  stands_found true Nil c n stands = stands
  stands_found true (Duplicate key) c n stands = stands
  stands_found true TooLarge c n stands = stands
  stands_found true (Busy m) c n stands = stands

  -- an entry that was not attached is attached where its session sees the object
  stands_seated : (asked : Asked) (answer : PlainAnswer) (c : Copies) (n : ℕ) → attached_in c n ≡ false → StandsSeen (seated M seen asked answer c) n
  stands_seated asked answer c n none =
      of_if (λ (d : Copies). StandsSeen d n) (is_done answer) (with_found M seen asked.obtains answer (with_named M seen asked.entry c)) c
      (stands_found asked.obtains answer (with_named M seen asked.entry c) n (stands_named asked.entry c n stands)) stands
    where
      stands : StandsSeen c n
      stands e there is = absurd (true_false (ap (λ o. given o false is_attached) there ∙ is) none)

-- an entry that a step attaches is the one that was found, or named and done with what was asked for
module _ (M : Catalog) (seen : Pid → View) (asked : Asked) (answer : PlainAnswer) where
  abbrev Used : Copies → ℕ → Type 0
  Used c n = (is_found asked.obtains answer c n ≡ true) ⊎ ((is_named asked.entry n ≡ true) × (is_done answer ≡ true))

  seated_used : (c : Copies) (n : ℕ) → attached_in (seated M seen asked answer c) n ≡ true → attached_in c n ≡ false → Used c n
  seated_used c n e none = by_done (is_done answer) refl e
    where
      by_named : is_done answer ≡ true → attached_in (with_named M seen asked.entry c) n ≡ true → (b : Bool) → is_named asked.entry n ≡ b → Used c n
      by_named does e true is = inr (is, does)
      by_named does e false is = absurd (true_false (named_attaches M seen asked.entry c n e is) none)

      by_found : is_done answer ≡ true → attached_in (with_found M seen asked.obtains answer (with_named M seen asked.entry c)) n ≡ true → (b : Bool) → is_found asked.obtains answer (with_named M seen asked.entry c) n ≡ b → Used c n
      by_found does e true is = inl (sym (found_named M seen asked.entry asked.obtains answer c n) ∙ is)
      by_found does e false is = by_named does (found_attaches M seen asked.obtains answer (with_named M seen asked.entry c) n e is) (is_named asked.entry n) refl

      by_done : (b : Bool) → is_done answer ≡ b → attached_in (if b then with_found M seen asked.obtains answer (with_named M seen asked.entry c) else c) n ≡ true → Used c n
      by_done false is e = absurd (true_false e none)
      by_done true is e = by_found is e (is_found asked.obtains answer (with_named M seen asked.entry c) n) refl

-- ---- what each effect leaves attached

-- where no body is left all stay
kept_none : (sessions : Sessions) (c : Copies) (s n : ℕ) → given (entry_numbered c n) false (λ e. is_attached e && not (given (get sessions s) false (λ session. false))) ≡ attached_in c n
kept_none sessions c s n = by (entry_numbered c n) (get sessions s)
  where
    by : (o : Option Entry) (x : Option Session) → given o false (λ e. is_attached e && not (given x false (λ session. false))) ≡ given o false is_attached
    by None x = refl
    by (Some e) None = and_true (is_attached e)
    by (Some e) (Some session) = and_true (is_attached e)

-- what is left by two tests, one after the other
kept_both : (owners : Owners) (sessions : Sessions) (one two : SessionNo → Session → Body → Bool) (s : ℕ) (c : Copies) (n : ℕ)
    → kept_by owners sessions two (in_session owners sessions one s c) s n ≡ kept_by owners sessions (λ s session body. one s session body || two s session body) c s n
kept_both owners sessions one two s c n = by_session (get sessions s)
  where
    and_or : (a b d : Bool) → ((a && not b) && not d) ≡ (a && not (b || d))
    and_or true true d = refl
    and_or true false d = refl
    and_or false b d = refl

    by_session : (x : Option Session)
        → given (entry_numbered (given x c (λ session. detached_from (body_in owners (record { 0 = s }) session) (one (record { 0 = s }) session) c)) n) false (λ e. is_attached e && not (given x false (λ session. two (record { 0 = s }) session (body_in owners (record { 0 = s }) session e.pid))))
        ≡ given (entry_numbered c n) false (λ e. is_attached e && not (given x false (λ session. one (record { 0 = s }) session (body_in owners (record { 0 = s }) session e.pid) || two (record { 0 = s }) session (body_in owners (record { 0 = s }) session e.pid))))
    by_session None = refl
    by_session (Some session) =
        ap (λ o. given o false (λ e. is_attached e && not (two (record { 0 = s }) session (body e.pid)))) (numbered_map loose (keeps_if (λ e. is_attached e && test (body e.pid)) (with_stand Loose) (keeps_stand (λ e. Loose))) n c.entries)
        ∙ by (entry_numbered c n)
      where
        body : Pid → Body
        body pid = body_in owners (record { 0 = s }) session pid

        test : Body → Bool
        test x = one (record { 0 = s }) session x

        loose : Entry → Entry
        loose e = if is_attached e && test (body e.pid) then with_stand Loose e else e

        by_tests : (e : Entry) (a : Bool) → is_attached e ≡ a → (b : Bool)
            → (is_attached (if a && b then with_stand Loose e else e) && not (two (record { 0 = s }) session (body (if a && b then with_stand Loose e else e).pid))) ≡ (a && not (b || two (record { 0 = s }) session (body e.pid)))
        by_tests e true is true = refl
        by_tests e true is false = ap (λ a. a && not (two (record { 0 = s }) session (body e.pid))) is
        by_tests e false is b = ap (λ a. a && not (two (record { 0 = s }) session (body e.pid))) is

        by : (o : Option Entry)
            → given (option_map loose o) false (λ e. is_attached e && not (two (record { 0 = s }) session (body e.pid))) ≡ given o false (λ e. is_attached e && not (test (body e.pid) || two (record { 0 = s }) session (body e.pid)))
        by None = refl
        by (Some e) = by_tests e (is_attached e) refl (test (body e.pid))

detached_twice : (owners : Owners) (sessions : Sessions) (one two : SessionNo → Session → Body → Bool) (all : AllCopies) (s n : ℕ)
    → seated_at (detached owners sessions two (detached owners sessions one all)) s n ≡ kept_by owners sessions (λ s session body. one s session body || two s session body) (unwrap_or (get all s) no_copies) s n
detached_twice owners sessions one two all s n =
    detached_exact owners sessions two (detached owners sessions one all) s n
    ∙ ap (λ o. kept_by owners sessions two (unwrap_or o no_copies) s n) (get_each (in_session owners sessions one) all s)
    ∙ by (get all s)
  where
    by : (o : Option Copies) → kept_by owners sessions two (unwrap_or (option_map (in_session owners sessions one s) o) no_copies) s n ≡ kept_by owners sessions (λ s session body. one s session body || two s session body) (unwrap_or o no_copies) s n
    by None = refl
    by (Some c) = kept_both owners sessions one two s c n

settled_exact : (k : Kept) (m : OwnerNo) (s n : ℕ) → seated_at (settled k m).copies s n ≡ kept_by k.owners k.sessions (is_left_by_commit k m) (unwrap_or (get k.copies s) no_copies) s n
settled_exact k m s n = by (get k.owners m.0)
  where
    by : (o : Option Owner) → seated_at (given o k (λ owner. with_commit k m (title_of k m) owner.level (net k.catalog owner))).copies s n
        ≡ kept_by k.owners k.sessions (λ s session body. given o false (λ owner. is_settled m (net k.catalog owner) s session body)) (unwrap_or (get k.copies s) no_copies) s n
    by None = sym (kept_none k.sessions (unwrap_or (get k.copies s) no_copies) s n)
    by (Some owner) = detached_exact k.owners k.sessions (is_settled m (net k.catalog owner)) k.copies s n

committed_exact : (k : Kept) (m : OwnerNo) (s n : ℕ) → seated_at (without_transaction_of (settled k m) m).copies s n ≡ kept_by k.owners k.sessions (λ s session body. is_left_by_commit k m s session body || is_in m session) (unwrap_or (get k.copies s) no_copies) s n
committed_exact k m s n = by (get k.owners m.0)
  where
    by : (o : Option Owner) → seated_at (without_transaction_of (given o k (λ owner. with_commit k m (title_of k m) owner.level (net k.catalog owner))) m).copies s n
        ≡ kept_by k.owners k.sessions (λ s session body. given o false (λ owner. is_settled m (net k.catalog owner) s session body) || is_in m session) (unwrap_or (get k.copies s) no_copies) s n
    by None = detached_exact k.owners k.sessions (λ s session body. is_in m session) k.copies s n
    by (Some owner) = detached_twice k.owners k.sessions (is_settled m (net k.catalog owner)) (λ s session body. is_in m session) k.copies s n

-- ---- only what is used

module _ (S : Schema) (limits : Limits) (k : Kept) (command : Command) where
  -- what a step attaches
  step_used : (n : OwnerNo) (s : SessionNo) (step : Step) (asked : Asked) (reply : Reply) → IsStepIn S k command n s step asked reply → (t : SessionNo) (m : ℕ) → stays_at k (Steps n s step asked) t m ≡ false → is_attached_at (moved k (Steps n s step asked)) t m ≡ true
      → IsAttachedBy k (moved k (Steps n s step asked)) command reply t m
  step_used n s step asked reply known t m none e = by (same_or_apart t.0 s.0)
    where
      left : AllCopies
      left = detached k.owners k.sessions (is_outdated n step) k.copies

      seen : Pid → View
      seen = seen_in (owners_after k n step) k.sessions s

      seat : Copies → Copies
      seat = seated k.catalog seen asked step.answer

      left_of : ℕ → Copies → Copies
      left_of = in_session k.owners k.sessions (is_outdated n step)

      or_true : (b : Bool) → (b || true) ≡ true
      or_true true = refl
      or_true false = refl

      told : (c : Copies) → copies_of k s ≡ c → Used k.catalog seen asked step.answer c m → is_used command reply m ≡ true
      told c is (inl found) =
          let given_one : (asked.obtains && is_given (reply_to S k (copies_of k s) asked step.answer) m) ≡ true = told_given S k (copies_of k s) asked step.answer m (ap (λ c. is_found asked.obtains step.answer c m) is ∙ found) in
          let same : (is_obtaining command && is_given reply m) ≡ true = (λ i. sym known.obtains i && is_given (known.reply i) m) ∙ given_one in
          ap (λ b. b || (is_named (named_entry command) m && is_success reply)) same
      told c is (inr used) =
          let named : is_named (named_entry command) m ≡ true = ap (λ o. is_named o m) (sym known.entry) ∙ used.0 in
          let success : is_success reply ≡ true = ap is_success known.reply ∙ told_success S k (copies_of k s) asked step.answer used.1 in
          ap (λ b. (is_obtaining command && is_given reply m) || b) (λ i. named i && success i) ∙ or_true (is_obtaining command && is_given reply m)

      -- how the session sees objects after the step
      sees : (pid : Pid) → seen_in (owners_after k n step) k.sessions s pid ≡ view_in (owners_after k n step) s known.session pid
      sees pid = ap (λ o. given o Committed (λ session. view_in (owners_after k n step) s session pid)) (found_there _ k.sessions (s.0, known.session) known.named)

      done : IsDoneIn k command s
      done = record { name = known.name; session = known.session; in_session = known.in_session; named = known.named }

      -- the entries of the session after the step
      after : (c : Copies) → get k.copies s.0 ≡ Some c → get (with_at (detached k.owners k.sessions (is_outdated n step) k.copies) s.0 (seated k.catalog (seen_in (owners_after k n step) k.sessions s) asked step.answer)) s.0
          ≡ Some (seated k.catalog (seen_in (owners_after k n step) k.sessions s) asked step.answer (in_session k.owners k.sessions (is_outdated n step) s.0 c))
      after c is = with_here left s.0 seat ∙ ap (option_map seat) (get_each left_of k.copies s.0 ∙ ap (option_map (left_of s.0)) is)

      here : (o : Option Copies) → get k.copies s.0 ≡ o → kept_by k.owners k.sessions (is_outdated n step) (unwrap_or o no_copies) s.0 m ≡ false → is_attached_at (moved k (Steps n s step asked)) s m ≡ true → IsAttachedBy k (moved k (Steps n s step asked)) command reply s m
      here None is none e =
          absurd (none_there m (sym (ap (λ o. attached_in (unwrap_or o no_copies) m) (with_here left s.0 seat ∙ ap (option_map seat) (get_each left_of k.copies s.0 ∙ ap (option_map (left_of s.0)) is))) ∙ e))
      here (Some c) is none e = found (entry_numbered (seat (left_of s.0 c)) m) refl now
        where
          no : attached_in (left_of s.0 c) m ≡ false
          no = session_keeps k.owners k.sessions (is_outdated n step) s.0 c m ∙ none

          now : attached_in (seat (left_of s.0 c)) m ≡ true
          now = sym (ap (λ o. attached_in (unwrap_or o no_copies) m) (after c is)) ∙ e

          found_before : is_found asked.obtains step.answer (left_of s.0 c) m ≡ is_found asked.obtains step.answer c m
          found_before =
              of_given (λ (d : Copies). is_found asked.obtains step.answer d m ≡ is_found asked.obtains step.answer c m) (get k.sessions s.0) c (λ session. detached_from (body_in k.owners (record { 0 = s.0 }) session) (is_outdated n step (record { 0 = s.0 }) session) c) refl
              (λ session there. found_detached (body_in k.owners (record { 0 = s.0 }) session) (is_outdated n step (record { 0 = s.0 }) session) asked.obtains step.answer c m)

          used_before : Used k.catalog seen asked step.answer (left_of s.0 c) m → Used k.catalog seen asked step.answer c m
          used_before (inl found) = inl (sym found_before ∙ found)
          used_before (inr used) = inr used

          found : (o : Option Entry) → entry_numbered (seat (left_of s.0 c)) m ≡ o → given o false is_attached ≡ true → IsAttachedBy k (moved k (Steps n s step asked)) command reply s m
          found None there is_one = absurd cc
          found (Some x) there is_one = record {
            by = done;
            used = told c (ap (λ o. unwrap_or o no_copies) is) (used_before (seated_used k.catalog seen asked step.answer (left_of s.0 c) m now no));
            entry = x;
            there = ap (λ o. entry_numbered (unwrap_or o no_copies) m) (after c is) ∙ there;
            stand = stands_seated k.catalog seen asked step.answer (left_of s.0 c) m no x there is_one ∙ ap (stand_in k.catalog x.pid) (sees x.pid);
          }

      by : ((t.0 ≡ s.0) ⊎ (t.0 ≡ s.0 → ⊥)) → IsAttachedBy k (moved k (Steps n s step asked)) command reply t m
      by (inl same) =
          let number : s ≡ t = λ i. record { 0 = sym same i } in
          subst (λ (t : SessionNo). stays_at k (Steps n s step asked) t m ≡ false → is_attached_at (moved k (Steps n s step asked)) t m ≡ true → IsAttachedBy k (moved k (Steps n s step asked)) command reply t m) number (λ none e. here (get k.copies s.0) refl none e) none e
      by (inr apart) =
          absurd (true_false (sym (detached_exact k.owners k.sessions (is_outdated n step) k.copies t.0 m) ∙ sym (ap (λ o. attached_in (unwrap_or o no_copies) m) (with_apart left s.0 seat t.0 apart)) ∙ e) none)

  -- where no body is left, what was attached stays
  still_stays : (t : SessionNo) (m : ℕ) → seated_at k.copies t.0 m ≡ true → kept_by k.owners k.sessions (λ s session body. false) (copies_of k t) t.0 m ≡ true
  still_stays t m e = kept_none k.sessions (copies_of k t) t.0 m ∙ e

  used_alone : (effect : Effect) (reply : Reply) → Known S k command effect reply → (t : SessionNo) (m : ℕ) → stays_at k effect t m ≡ false → is_attached_at (moved k effect) t m ≡ true → IsAttachedBy k (moved k effect) command reply t m
  used_alone (Steps n s step asked) reply known t m none e = step_used n s step asked reply known t m none e
  used_alone Stays reply known t m none e = absurd (true_false (still_stays t m e) none)
  used_alone (OpensBasic name access) reply known t m none e = absurd (true_false (still_stays t m (opened_none k.copies k.next_session t.0 m e)) none)
  used_alone (OpensTransactional name access) reply known t m none e = absurd (true_false (still_stays t m (opened_none k.copies k.next_session t.0 m e)) none)
  used_alone (ClosesBasic s n) reply known t m none e = absurd (true_false (still_stays t m (closed_none k.copies s.0 t.0 m e)) none)
  used_alone (ClosesTransactional s) reply known t m none e = absurd (true_false (still_stays t m (closed_none k.copies s.0 t.0 m e)) none)
  used_alone (Begins name level) reply known t m none e = absurd (true_false (still_stays t m e) none)
  used_alone (Associates s association) reply known t m none e = absurd (true_false (still_stays t m e) none)
  used_alone (Ends s n failed) reply known t m none e = absurd (true_false (sym (detached_exact k.owners k.sessions (λ t session body. is_session s t) k.copies t.0 m) ∙ e) none)
  used_alone (Holds s copies) reply known t m none e = absurd (true_false (still_stays t m (held_none k s copies known.1.attached t.0 m e)) none)
  used_alone (Commits n) reply known t m none e = absurd (true_false (sym (committed_exact k n t.0 m) ∙ e) none)
  used_alone (Flushes n) reply known t m none e = absurd (true_false (sym (settled_exact k n t.0 m) ∙ e) none)
  used_alone (RollsBack n) reply known t m none e = absurd (true_false (sym (detached_exact k.owners k.sessions (λ s session body. is_in n session) k.copies t.0 m) ∙ e) none)

pub only_used : OnlyUsedAreAttached
only_used S limits k command s n none e = used_alone S limits k command (decision S limits k command).effect (decision S limits k command).reply (decision_seen S limits k command) s n none e

-- ---- others stay

module _ (M : Catalog) (seen : Pid → View) where
  stays_map : (f : Entry → Entry) → Keeps f → ((e : Entry) → is_attached e ≡ true → is_attached (f e) ≡ true) → (c : Copies) (n : ℕ) → attached_in c n ≡ true → attached_in (record { last = c.last; entries = map f c.entries }) n ≡ true
  stays_map f keeps h c n e = ap (λ o. given o false is_attached) (numbered_map f keeps n c.entries) ∙ by (entry_numbered c n) e
    where
      by : (o : Option Entry) → given o false is_attached ≡ true → given (option_map f o) false is_attached ≡ true
      by None e = e
      by (Some x) e = h x e

  at_stays : (m : ℕ) (c : Copies) (n : ℕ) → attached_in c n ≡ true → attached_in (at_entry m (attached M seen) c) n ≡ true
  at_stays m c n = stays_map (λ e. if e.number == m then attached M seen e else e) (keeps_if (λ e. e.number == m) (attached M seen) (keeps_attached M seen)) (λ e is. by e is (e.number == m) (is_attached e) refl) c n
    where
      by : (e : Entry) → is_attached e ≡ true → (b a : Bool) → is_attached e ≡ a → is_attached (if b then (if a then e else with_stand (stand_in M e.pid (seen e.pid)) e) else e) ≡ true
      by e is true true same = is
      by e is true false same = absurd (true_false is same)
      by e is false a same = is

  obtained_stays : (p : Pid) (c : Copies) (n : ℕ) → attached_in c n ≡ true → attached_in (obtained p c) n ≡ true
  obtained_stays p c n is = by (entry_for c p)
    where
      new : Entry
      new = record { number = c.last + 1; pid = p; count = 1; stand = Loose }

      pushed : (es : List Entry) → given (find (λ e. e.number == n) es) false is_attached ≡ true → given (find (λ e. e.number == n) (es ++ new ∷ [])) false is_attached ≡ true
      pushed [] is = absurd cc
      pushed (x ∷ es) is = by_head (x.number == n) is (pushed es)
        where
          by_head : (b : Bool) → given (cond b (Some x) (find (λ e. e.number == n) es)) false is_attached ≡ true
              → (given (find (λ e. e.number == n) es) false is_attached ≡ true → given (find (λ e. e.number == n) (es ++ new ∷ [])) false is_attached ≡ true)
              → given (cond b (Some x) (find (λ e. e.number == n) (es ++ new ∷ []))) false is_attached ≡ true
          by_head true is rest = is
          by_head false is rest = rest is

      by : (o : Option Entry) → attached_in (given o (record { last = c.last + 1; entries = c.entries ++ new ∷ [] }) (λ e. at_entry e.number (with_count (e.count + 1)) c)) n ≡ true
      by None = pushed c.entries is
      by (Some x) =
          stays_map (λ e. if e.number == x.number then with_count (x.count + 1) e else e) (keeps_if (λ e. e.number == x.number) (with_count (x.count + 1)) (keeps_count (x.count + 1)))
          (λ e is. of_if (λ (y : Entry). is_attached y ≡ true) (e.number == x.number) (with_count (x.count + 1) e) e is is) c n is

  pub named_stays : (named : Option ℕ) (c : Copies) (n : ℕ) → attached_in c n ≡ true → attached_in (with_named M seen named c) n ≡ true
  named_stays None c n is = is
  named_stays (Some m) c n is = at_stays m c n is

  pub found_stays : (obtains : Bool) (answer : PlainAnswer) (c : Copies) (n : ℕ) → attached_in c n ≡ true → attached_in (with_found M seen obtains answer c) n ≡ true
  found_stays false answer c n is = is
  found_stays true (Found p) c n is = at_stays (number_for c p) (obtained p c) n (obtained_stays p c n is)
  found_stays true Done c n is = is
  found_stays true (IsThere b) c n is = is
  found_stays true (Val v) c n is = is
  found_stays true (Number m) c n is = is
  found_stays true (Listing m pids) c n is = is
  found_stays true NotFound c n is = is
  found_stays true (Gone p) c n is = is
  found_stays true Nil c n is = is
  found_stays true (Duplicate key) c n is = is
  found_stays true TooLarge c n is = is
  found_stays true (Busy m) c n is = is

  seated_stays : (asked : Asked) (answer : PlainAnswer) (c : Copies) (n : ℕ) → attached_in c n ≡ true → attached_in (seated M seen asked answer c) n ≡ true
  seated_stays asked answer c n is =
      of_if (λ (d : Copies). attached_in d n ≡ true) (is_done answer) (with_found M seen asked.obtains answer (with_named M seen asked.entry c)) c
      (found_stays asked.obtains answer (with_named M seen asked.entry c) n (named_stays asked.entry c n is)) is

not_equal : (a b : ℕ) → not (a == b) ≡ true → b ≡ a → ⊥
not_equal a b apart same = true_false (eq-eqb a b (sym same)) (by (a == b) apart)
  where
    by : (t : Bool) → not t ≡ true → t ≡ false
    by true e = absurd cc
    by false e = refl

module _ (k : Kept) (paired : PairedIn k) where
  -- a new session has no entries
  opened_stays : (t : SessionNo) (m : ℕ) → kept_by k.owners k.sessions (λ s session body. false) (copies_of k t) t.0 m ≡ true → seated_at (insert k.copies k.next_session no_copies) t.0 m ≡ true
  opened_stays t m e = by (same_or_apart t.0 k.next_session)
    where
      was : seated_at k.copies t.0 m ≡ true
      was = sym (kept_none k.sessions (copies_of k t) t.0 m) ∙ e

      vacant : (o : Option Copies) → is_some o ≡ false → attached_in (unwrap_or o no_copies) m ≡ true → ⊥
      vacant None none e = none_there m e
      vacant (Some c) none e = absurd cc

      by : ((t.0 ≡ k.next_session) ⊎ (t.0 ≡ k.next_session → ⊥)) → seated_at (insert k.copies k.next_session no_copies) t.0 m ≡ true
      by (inl same) = absurd (vacant (get k.copies k.next_session) (sym (paired.same k.next_session) ∙ paired.none k.next_session (omega arith)) (sym (ap (λ s. seated_at k.copies s m) same) ∙ was))
      by (inr apart) = ap (λ o. attached_in (unwrap_or o no_copies) m) (insert_apart k.copies k.next_session no_copies t.0 apart) ∙ was

  stepped_stays : (n : OwnerNo) (s : SessionNo) (step : Step) (asked : Asked) (t : SessionNo) (m : ℕ) → stays_at k (Steps n s step asked) t m ≡ true → is_attached_at (moved k (Steps n s step asked)) t m ≡ true
  stepped_stays n s step asked t m e = by (same_or_apart t.0 s.0)
    where
      left : AllCopies
      left = detached k.owners k.sessions (is_outdated n step) k.copies

      seat : Copies → Copies
      seat = seated k.catalog (seen_in (owners_after k n step) k.sessions s) asked step.answer

      was : seated_at left t.0 m ≡ true
      was = detached_exact k.owners k.sessions (is_outdated n step) k.copies t.0 m ∙ e

      here : (o : Option Copies) → attached_in (unwrap_or o no_copies) m ≡ true → attached_in (unwrap_or (option_map seat o) no_copies) m ≡ true
      here None e = e
      here (Some c) e = seated_stays k.catalog (seen_in (owners_after k n step) k.sessions s) asked step.answer c m e

      by : ((t.0 ≡ s.0) ⊎ (t.0 ≡ s.0 → ⊥)) → seated_at (with_at left s.0 seat) t.0 m ≡ true
      by (inl same) = ap (λ t. seated_at (with_at left s.0 seat) t m) same ∙ ap (λ o. attached_in (unwrap_or o no_copies) m) (with_here left s.0 seat) ∙ here (get left s.0) (sym (ap (λ t. seated_at left t m) same) ∙ was)
      by (inr apart) = ap (λ o. attached_in (unwrap_or o no_copies) m) (with_apart left s.0 seat t.0 apart) ∙ was

  -- another session is closed
  closed_stays : (s : ℕ) (t : SessionNo) (m : ℕ) → not (s == t.0) ≡ true → stays_at k Stays t m ≡ true → seated_at (remove k.copies s) t.0 m ≡ true
  closed_stays s t m apart e = ap (λ o. attached_in (unwrap_or o no_copies) m) (remove_apart k.copies s t.0 (not_equal s t.0 apart)) ∙ sym (kept_none k.sessions (copies_of k t) t.0 m) ∙ e

  others : (effect : Effect) (t : SessionNo) (m : ℕ) → is_keeping effect t ≡ true → stays_at k effect t m ≡ true → is_attached_at (moved k effect) t m ≡ true
  others (Steps n s step asked) t m keeps e = stepped_stays n s step asked t m e
  others Stays t m keeps e = sym (kept_none k.sessions (copies_of k t) t.0 m) ∙ e
  others (OpensBasic name access) t m keeps e = opened_stays t m e
  others (OpensTransactional name access) t m keeps e = opened_stays t m e
  others (Begins name level) t m keeps e = sym (kept_none k.sessions (copies_of k t) t.0 m) ∙ e
  others (Associates s association) t m keeps e = sym (kept_none k.sessions (copies_of k t) t.0 m) ∙ e
  others (Ends s n failed) t m keeps e = detached_exact k.owners k.sessions (λ t session body. is_session s t) k.copies t.0 m ∙ e
  others (Commits n) t m keeps e = committed_exact k n t.0 m ∙ e
  others (Flushes n) t m keeps e = settled_exact k n t.0 m ∙ e
  others (RollsBack n) t m keeps e = detached_exact k.owners k.sessions (λ s session body. is_in n session) k.copies t.0 m ∙ e
  others (ClosesBasic s n) t m keeps e = closed_stays s.0 t m keeps e
  others (ClosesTransactional s) t m keeps e = closed_stays s.0 t m keeps e
  others (Holds s copies) t m keeps e = ap (λ o. attached_in (unwrap_or o no_copies) m) (insert_apart k.copies s.0 copies t.0 (not_equal s.0 t.0 keeps)) ∙ sym (kept_none k.sessions (copies_of k t) t.0 m) ∙ e

pub others_stay : OthersStayAttached
others_stay S limits M next lines effect s n keeps e = others (run S limits (first M next) lines).kept (run_paired S limits M next lines) effect s n keeps e

pub refresh_detaches : RefreshDetachesCopies
refresh_detaches S limits k name s session m n named kind =
    ap (λ o. is_attached_at (moved k (given o (says reply.NoSession) (λ e. refreshing k (record { 0 = e.0 }) e.1)).effect) s n) named
    ∙ ap (λ (x : Kind). is_attached_at (moved k (refreshing k s (with_kind x)).effect) s n) kind
    ∙ ap (λ o. attached_in (unwrap_or o no_copies) n) (insert_here k.copies s.0 (detached_from (body_in k.owners s (with_kind (Basic m))) (λ body. same_view body.view (InCopy s)) (copies_of k s)))
    ∙ detached_keeps (body_in k.owners s (with_kind (Basic m))) (λ body. same_view body.view (InCopy s)) (copies_of k s) n
    ∙ ap (λ (x : Kind). kept_in (λ body. same_view body.view (InCopy s)) (body_in k.owners s (with_kind x)) (copies_of k s) n) (sym kind)
  where
    with_kind : Kind → Session
    with_kind kind = record { name = session.name; kind = kind; access = session.access; association = session.association }
