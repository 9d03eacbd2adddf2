-- That a command gives one number of each kind at most, and counts one more at most.
use Rattle.std.proofs.Common.{arith, ◌≡◌, ℕ, ◌+◌, ◌-◌, ◌==◌, ◌≤◌, Bool, true, false, not, ◌&&◌, cond, List, [], ◌∷◌, ◌++◌, map, Option, Some, None, refl, sym, ap, ◌∙◌, inl, inr, subst}
use Rattle.std.specs.Prelude.{◌⊎◌, Result, Ok, Err, filter, find, if◌then◌else◌, unwrap_or}
use Rattle.std.specs.Option.{option_map}
use Rattle.std.specs.Ordering.{nat_cmp}
use Rattle.std.specs.FinMap.{FinMap, get, insert, remove}
use Rattle.pss_base.specs.declared.pid.Pid.{Pid}
use Rattle.pss_base.specs.declared.owner.OwnerNo.{OwnerNo}
use Rattle.pss_base.specs.declared.session.SessionNo.{SessionNo}
use Rattle.type_layout.specs.declared.schema.Schema.{Schema}
use Rattle.type_layout.specs.Schemas.{given}
use Rattle.pss_catalog.specs.Catalog.{Catalog}
use Rattle.pss_machine.specs.declared.limits.Limits.{Limits}
use Rattle.pss_machine.specs.declared.session.View.{View}
use Rattle.pss_machine.specs.declared.session.View.TheVariants.{Kept as InCopy}
use Rattle.pss_machine.specs.declared.command.Command.{Command}
use Rattle.pss_machine.specs.declared.command.Command.TheVariants as command
use Rattle.pss_machine.specs.declared.reply.Reply.{Reply}
use Rattle.pss_machine.specs.declared.reply.Reply.TheVariants as reply
use Rattle.pss_machine.specs.Operations.{FindPid, Count, ListOf, Ask, PlainAnswer, Done, Found, IsThere, Val, Number, Listing, NotFound, Gone, Nil, Duplicate, TooLarge, Busy}
use Rattle.pss_machine.specs.Maps.{each, with_at}
use Rattle.pss_machine.specs.Owners.{Owners, blocker, net, Step}
use Rattle.pss_machine.specs.Sessions.{Session, Sessions, session_named}
use Rattle.pss_machine.specs.Copies.{Loose, Entry, Copies, AllCopies, no_copies, entry_numbered, entry_for, number_for, with_count, with_stand, at_entry, without_entry, obtained, is_attached, Body, body_in, same_view, stand_in, attached, detached_from, detached}
use Rattle.pss_machine.specs.Same.{same_pid}
use Rattle.pss_machine.specs.Kept.{Kept, Title, Actor, actor_in, copies_of, transaction_named}
use Rattle.pss_machine.specs.Asking.{Asked, ◌>>=◌, obtaining, only, creating, making, finding, shortening, asking_whether, getting, setting, destroying, following, asking_of_home}
use Rattle.pss_machine.specs.Effects.{Effect, Stays, OpensBasic, OpensTransactional, ClosesBasic, ClosesTransactional, Begins, Associates, Ends, Holds, Steps, Commits, Flushes, RollsBack, Decision, does, says}
use Rattle.pss_machine.specs.Stepping.{within, step_of, reply_to, unless_busy, decided, data_command}
use Rattle.pss_machine.specs.Deciding.{in_session, for_transaction, opening, beginning, closing, starting, suspending, ending, telling_state, is_over_full, unless_full, committing, flushing, with_entry, recounting, telling_pid, refreshing, telling_home, freeing, counting, decision}
use Rattle.pss_machine.specs.Moving.{with_named, with_found, seated, is_done, moved, settled, emptied, without_transaction_of, is_settled, is_session, is_in, is_outdated, seen_in, owners_after, new_title, one_more, marked, unspent, joins}
use Rattle.pss_machine.proofs.Cases.{of_given, of_if}
use Rattle.pss_machine.proofs.Logic.{none_some, same_some}
use Rattle.pss_machine.proofs.Maps.{get_each, same_or_apart, insert_here, insert_apart, remove_here, remove_apart, with_here, with_apart}
use Rattle.connector_parts.specs.Few.{CountAtMost, AreFewEntries, AreFew}

-- ---- all things of a map

abbrev AllAre : {A : Type 0} → (A → Type 0) → FinMap nat_cmp A → Type 0
AllAre {A} P m = (n : ℕ) (x : A) → get m n ≡ Some x → P x

module _ {A : Type 0} (P Q : A → Type 0) where
  mapped_is : (f : A → A) (o : Option A) → ((x : A) → o ≡ Some x → Q (f x)) → (y : A) → option_map f o ≡ Some y → Q y
  mapped_is f None h y e = absurd (none_some e)
  mapped_is f (Some x) h y e = subst Q (same_some e) (h x refl)

  all_more : (m : FinMap nat_cmp A) → ((x : A) → P x → Q x) → AllAre P m → AllAre Q m
  all_more m more h n x there = more x (h n x there)

  all_each : (f : ℕ → A → A) (m : FinMap nat_cmp A) → ((n : ℕ) (x : A) → P x → Q (f n x)) → AllAre P m → AllAre Q (each f m)
  all_each f m keeps h n y there = mapped_is (f n) (get m n) (λ x at. keeps n x (h n x at)) y (sym (get_each f m n) ∙ there)

  all_with : (m : FinMap nat_cmp A) (n : ℕ) (f : A → A) → ((x : A) → P x → Q x) → ((x : A) → P x → Q (f x)) → AllAre P m → AllAre Q (with_at m n f)
  all_with m n f more keeps h q y there = by (same_or_apart q n)
    where
      by : ((q ≡ n) ⊎ (q ≡ n → ⊥)) → Q y
      by (inl same) = mapped_is f (get m n) (λ x at. keeps x (h n x at)) y (sym (with_here m n f) ∙ ap (get (with_at m n f)) (sym same) ∙ there)
      by (inr apart) = more y (h q y (sym (with_apart m n f q apart) ∙ there))

  all_insert : (m : FinMap nat_cmp A) (n : ℕ) (z : A) → ((x : A) → P x → Q x) → Q z → AllAre P m → AllAre Q (insert m n z)
  all_insert m n z more new h q y there = by (same_or_apart q n)
    where
      by : ((q ≡ n) ⊎ (q ≡ n → ⊥)) → Q y
      by (inl same) = subst Q (same_some (sym (insert_here m n z) ∙ ap (get (insert m n z)) (sym same) ∙ there)) new
      by (inr apart) = more y (h q y (sym (insert_apart m n z q apart) ∙ there))

  all_remove : (m : FinMap nat_cmp A) (n : ℕ) → ((x : A) → P x → Q x) → AllAre P m → AllAre Q (remove m n)
  all_remove m n more h q y there = by (same_or_apart q n)
    where
      by : ((q ≡ n) ⊎ (q ≡ n → ⊥)) → Q y
      by (inl same) = absurd (none_some (sym (remove_here m n) ∙ ap (get (remove m n)) (sym same) ∙ there))
      by (inr apart) = more y (h q y (sym (remove_apart m n q apart) ∙ there))

-- ---- the entries of one session

counts_more : (p : ℕ) (es : List Entry) → CountAtMost p es → CountAtMost (p + 1) es
counts_more p [] h = tt
counts_more p (e ∷ es) h = (omega (arith, h.0), counts_more p es h.1)

few_more : (p : ℕ) (c : Copies) → AreFewEntries p c → AreFewEntries (p + 1) c
few_more p c h = record { last = omega (arith, h.last); counts = counts_more p c.entries h.counts }

module _ (p q : ℕ) (f : Entry → Entry) (keeps : (e : Entry) → e.count ≤ p → (f e).count ≤ q) where
  counts_map : (es : List Entry) → CountAtMost p es → CountAtMost q (map f es)
  counts_map [] h = tt
  counts_map (e ∷ es) h = (keeps e h.0, counts_map es h.1)

-- an entry that stays or is changed
count_if : (p q : ℕ) (f : Entry → Entry) (e : Entry) → p ≤ q → ((f e).count ≤ q) → e.count ≤ p → (t : Bool) → (if t then f e else e).count ≤ q
count_if p q f e le new old true = new
count_if p q f e le new old false = omega (arith, le, old)

few_at : (p q : ℕ) → p ≤ q → (n : ℕ) (f : Entry → Entry) → ((e : Entry) → e.count ≤ p → (f e).count ≤ q) → (c : Copies) → AreFewEntries p c → AreFewEntries q (at_entry n f c)
few_at p q le n f keeps c h = record {
  last = omega (arith, le, h.last);
  counts = counts_map p q (λ e. if e.number == n then f e else e) (λ e old. count_if p q f e le (keeps e old) old (e.number == n)) c.entries h.counts;
}

few_detached : (p : ℕ) (body : Pid → Body) (test : Body → Bool) (c : Copies) → AreFewEntries p c → AreFewEntries p (detached_from body test c)
few_detached p body test c h = record {
  last = h.last;
  counts = counts_map p p (λ e. if is_attached e && test (body e.pid) then with_stand Loose e else e) (λ e old. count_if p p (with_stand Loose) e (omega arith) old old (is_attached e && test (body e.pid))) c.entries h.counts;
}

counts_filter : (p : ℕ) (test : Entry → Bool) (es : List Entry) → CountAtMost p es → CountAtMost p (filter test es)
counts_filter p test [] h = tt
counts_filter p test (e ∷ es) h = by (counts_filter p test es h.1) (test e)
  where
    by : CountAtMost p (filter test es) → (t : Bool) → CountAtMost p (cond t (e ∷ filter test es) (filter test es))
    by rest true = (h.0, rest)
    by rest false = rest

counts_push : (p : ℕ) (es : List Entry) (e : Entry) → e.count ≤ p → CountAtMost p es → CountAtMost p (es ++ e ∷ [])
counts_push p [] e new h = (new, tt)
counts_push p (x ∷ es) e new h = (h.0, counts_push p es e new h.1)

found_counts : (p : ℕ) (test : Entry → Bool) (es : List Entry) (e : Entry) → CountAtMost p es → find test es ≡ Some e → e.count ≤ p
found_counts p test [] e h is = absurd (none_some is)
found_counts p test (x ∷ es) e h is = by (test x) is (found_counts p test es e h.1)
  where
    by : (t : Bool) → cond t (Some x) (find test es) ≡ Some e → (find test es ≡ Some e → e.count ≤ p) → e.count ≤ p
    by true is rest = subst (λ (y : Entry). y.count ≤ p) (same_some is) h.0
    by false is rest = rest is

few_obtained : (p : ℕ) (pid : Pid) (c : Copies) → AreFewEntries p c → AreFewEntries (p + 1) (obtained pid c)
few_obtained p pid c h = by (entry_for c pid) refl
  where
    new : Entry
    new = record { number = c.last + 1; pid = pid; count = 1; stand = Loose }

    by : (o : Option Entry) → entry_for c pid ≡ o → AreFewEntries (p + 1) (given o (record { last = c.last + 1; entries = c.entries ++ new ∷ [] }) (λ e. at_entry e.number (with_count (e.count + 1)) c))
    by None is = record { last = omega (arith, h.last); counts = counts_push (p + 1) c.entries new (omega arith) (counts_more p c.entries h.counts) }
    by (Some e) is =
        let old : e.count ≤ p = found_counts p (λ x. same_pid x.pid pid) c.entries e h.counts is in
        few_at p (p + 1) (omega arith) e.number (with_count (e.count + 1)) (λ x _. omega (arith, old)) c h

few_counting : (p n count : ℕ) (c : Copies) → count ≤ p + 1 → AreFewEntries p c → AreFewEntries (p + 1) (counting n count c)
few_counting p n count c new h = by (count == 0)
  where
    by : (t : Bool) → AreFewEntries (p + 1) (if t then without_entry n c else at_entry n (with_count count) c)
    by true = record { last = omega (arith, h.last); counts = counts_filter (p + 1) (λ e. not (e.number == n)) c.entries (counts_more p c.entries h.counts) }
    by false = few_at p (p + 1) (omega arith) n (with_count count) (λ e _. new) c h

-- the entries of the session that takes a step
module _ (M : Catalog) (seen : Pid → View) where
  attached_counts : (p : ℕ) (e : Entry) → e.count ≤ p → (attached M seen e).count ≤ p
  attached_counts p e h = by (is_attached e)
    where
      by : (t : Bool) → (if t then e else with_stand (stand_in M e.pid (seen e.pid)) e).count ≤ p
      by true = h
      by false = h

  few_attached : (p n : ℕ) (c : Copies) → AreFewEntries p c → AreFewEntries p (at_entry n (attached M seen) c)
  few_attached p n c h = few_at p p (omega arith) n (attached M seen) (attached_counts p) c h

  few_named : (p : ℕ) (named : Option ℕ) (c : Copies) → AreFewEntries p c → AreFewEntries p (with_named M seen named c)
  few_named p None c h = h
  few_named p (Some n) c h = few_attached p n c h

  few_found : (p : ℕ) (obtains : Bool) (answer : PlainAnswer) (c : Copies) → AreFewEntries p c → AreFewEntries (p + 1) (with_found M seen obtains answer c)
  few_found p false answer c h = few_more p c h
  few_found p true (Found pid) c h = few_attached (p + 1) (number_for c pid) (obtained pid c) (few_obtained p pid c h)
  few_found p true Done c h = few_more p c h
  few_found p true (IsThere b) c h = few_more p c h
  few_found p true (Val v) c h = few_more p c h
  few_found p true (Number n) c h = few_more p c h
  few_found p true (Listing n pids) c h = few_more p c h
  few_found p true NotFound c h = few_more p c h
  few_found p true (Gone pid) c h = few_more p c h
  few_found p true Nil c h = few_more p c h
  few_found p true (Duplicate key) c h = few_more p c h
  few_found p true TooLarge c h = few_more p c h
  few_found p true (Busy n) c h = few_more p c h

  few_seated : (p : ℕ) (asked : Asked) (answer : PlainAnswer) (c : Copies) → AreFewEntries p c → AreFewEntries (p + 1) (seated M seen asked answer c)
  few_seated p asked answer c h =
      of_if (AreFewEntries (p + 1)) (is_done answer) (with_found M seen asked.obtains answer (with_named M seen asked.entry c)) c
      (few_found p asked.obtains answer (with_named M seen asked.entry c) (few_named p asked.entry c h)) (few_more p c h)

-- ---- all entries, and all titles

all_detached : (p : ℕ) (owners : Owners) (sessions : Sessions) (test : SessionNo → Session → Body → Bool) (all : AllCopies) → AllAre (AreFewEntries p) all → AllAre (AreFewEntries p) (detached owners sessions test all)
all_detached p owners sessions test all h =
    all_each (AreFewEntries p) (AreFewEntries p) _ all
    (λ s c few.
    of_given (AreFewEntries p) (get sessions s) c (λ session. detached_from (body_in owners (record { 0 = s }) session) (test (record { 0 = s }) session) c) few
    (λ session there. few_detached p (body_in owners (record { 0 = s }) session) (test (record { 0 = s }) session) c few)) h

none_few : (p : ℕ) → AreFewEntries p no_copies
none_few p = record { last = omega arith; counts = tt }

abbrev HasDone : ℕ → Title → Type 0
HasDone p title = title.commands ≤ p

done_more : (p : ℕ) (title : Title) → HasDone p title → HasDone (p + 1) title
done_more p title h = omega (arith, h)

-- ---- effects

few_same : (p : ℕ) (k : Kept) → AreFew p k → AreFew (p + 1) k
few_same p k h = record {
  sessions = omega (arith, h.sessions);
  owners = omega (arith, h.owners);
  commits = omega (arith, h.commits);
  commands = all_more (HasDone p) (HasDone (p + 1)) k.titles (done_more p) h.commands;
  entries = all_more (AreFewEntries p) (AreFewEntries (p + 1)) k.copies (few_more p) h.entries;
}

few_without : (p : ℕ) (k : Kept) (n : OwnerNo) → AreFew p k → AreFew p (without_transaction_of k n)
few_without p k n h = record {
  sessions = h.sessions;
  owners = h.owners;
  commits = h.commits;
  commands = all_remove (HasDone p) (HasDone p) k.titles n.0 (λ _ x. x) h.commands;
  entries = all_detached p k.owners k.sessions (λ s session body. is_in n session) k.copies h.entries;
}

few_emptied : (p : ℕ) (k : Kept) (n : OwnerNo) → AreFew p k → AreFew p (emptied k n)
few_emptied p k n h = record {
  sessions = h.sessions;
  owners = h.owners;
  commits = h.commits;
  commands = all_with (HasDone p) (HasDone p) k.titles n.0 unspent (λ _ x. x) (λ _ _. omega arith) h.commands;
  entries = h.entries;
}

few_settled : (p : ℕ) (k : Kept) (n : OwnerNo) → AreFew p k → AreFew (p + 1) (settled k n)
few_settled p k n h = of_given (AreFew (p + 1)) (get k.owners n.0) k _ (few_same p k h) (λ owner there. record {
  sessions = omega (arith, h.sessions);
  owners = omega (arith, h.owners);
  commits = of_if (λ (m : ℕ). m ≤ p + 1) (joins owner.level (net k.catalog owner)) (k.commits + 1) k.commits (omega (arith, h.commits)) (omega (arith, h.commits));
  commands = all_more (HasDone p) (HasDone (p + 1)) k.titles (done_more p) h.commands;
  entries = all_more (AreFewEntries p) (AreFewEntries (p + 1)) _ (few_more p) (all_detached p k.owners k.sessions (is_settled n (net k.catalog owner)) k.copies h.entries);
})

-- what a session is to hold is little
abbrev HoldsFew : ℕ → Effect → Type 0
HoldsFew p (Holds s copies) = AreFewEntries p copies
HoldsFew p _ = Unit {0}

module _ (p : ℕ) (k : Kept) (h : AreFew p k) where
  titled : (name : List ℕ) → AllAre (HasDone (p + 1)) (insert k.titles k.next_owner (new_title name))
  titled name = all_insert (HasDone p) (HasDone (p + 1)) k.titles k.next_owner (new_title name) (done_more p) (omega arith) h.commands

  titles_more : AllAre (HasDone (p + 1)) k.titles
  titles_more = all_more (HasDone p) (HasDone (p + 1)) k.titles (done_more p) h.commands

  entries_more : AllAre (AreFewEntries (p + 1)) k.copies
  entries_more = all_more (AreFewEntries p) (AreFewEntries (p + 1)) k.copies (few_more p) h.entries

  detached_more : (test : SessionNo → Session → Body → Bool) → AllAre (AreFewEntries (p + 1)) (detached k.owners k.sessions test k.copies)
  detached_more test = all_detached (p + 1) k.owners k.sessions test k.copies entries_more

  moved_few : (effect : Effect) → HoldsFew (p + 1) effect → AreFew (p + 1) (moved k effect)
  moved_few Stays holds = few_same p k h
  moved_few (OpensBasic name access) holds = record {
    sessions = omega (arith, h.sessions);
    owners = omega (arith, h.owners);
    commits = omega (arith, h.commits);
    commands = titled name;
    entries = all_insert (AreFewEntries p) (AreFewEntries (p + 1)) k.copies k.next_session no_copies (few_more p) (none_few (p + 1)) h.entries;
  }
  moved_few (OpensTransactional name access) holds = record {
    sessions = omega (arith, h.sessions);
    owners = omega (arith, h.owners);
    commits = omega (arith, h.commits);
    commands = titles_more;
    entries = all_insert (AreFewEntries p) (AreFewEntries (p + 1)) k.copies k.next_session no_copies (few_more p) (none_few (p + 1)) h.entries;
  }
  moved_few (ClosesBasic s n) holds = record {
    sessions = omega (arith, h.sessions);
    owners = omega (arith, h.owners);
    commits = omega (arith, h.commits);
    commands = all_remove (HasDone p) (HasDone (p + 1)) k.titles n.0 (done_more p) h.commands;
    entries = all_remove (AreFewEntries p) (AreFewEntries (p + 1)) k.copies s.0 (few_more p) h.entries;
  }
  moved_few (ClosesTransactional s) holds = record {
    sessions = omega (arith, h.sessions);
    owners = omega (arith, h.owners);
    commits = omega (arith, h.commits);
    commands = titles_more;
    entries = all_remove (AreFewEntries p) (AreFewEntries (p + 1)) k.copies s.0 (few_more p) h.entries;
  }
  moved_few (Begins name level) holds = record {
    sessions = omega (arith, h.sessions);
    owners = omega (arith, h.owners);
    commits = omega (arith, h.commits);
    commands = titled name;
    entries = entries_more;
  }
  moved_few (Associates s association) holds = record {
    sessions = omega (arith, h.sessions);
    owners = omega (arith, h.owners);
    commits = omega (arith, h.commits);
    commands = titles_more;
    entries = entries_more;
  }
  moved_few (Ends s n failed) holds = record {
    sessions = omega (arith, h.sessions);
    owners = omega (arith, h.owners);
    commits = omega (arith, h.commits);
    commands = all_with (HasDone p) (HasDone (p + 1)) k.titles n.0 (marked failed) (done_more p) (λ title done. done_more p title done) h.commands;
    entries = detached_more (λ t session body. is_session s t);
  }
  moved_few (Holds s copies) holds = record {
    sessions = omega (arith, h.sessions);
    owners = omega (arith, h.owners);
    commits = omega (arith, h.commits);
    commands = titles_more;
    entries = all_insert (AreFewEntries p) (AreFewEntries (p + 1)) k.copies s.0 copies (few_more p) holds h.entries;
  }
  moved_few (Steps n s step asked) holds = record {
    sessions = omega (arith, h.sessions);
    owners = omega (arith, h.owners);
    commits = omega (arith, h.commits);
    commands = all_with (HasDone p) (HasDone (p + 1)) k.titles n.0 one_more (done_more p) (λ title done. omega (arith, done)) h.commands;
    entries = all_with (AreFewEntries p) (AreFewEntries (p + 1)) (detached k.owners k.sessions (is_outdated n step) k.copies) s.0 (seated k.catalog (seen_in (owners_after k n step) k.sessions s) asked step.answer)
        (few_more p) (few_seated k.catalog (seen_in (owners_after k n step) k.sessions s) p asked step.answer) (all_detached p k.owners k.sessions (is_outdated n step) k.copies h.entries);
  }
  moved_few (Commits n) holds = few_without (p + 1) (settled k n) n (few_settled p k n h)
  moved_few (Flushes n) holds = few_emptied (p + 1) (settled k n) n (few_settled p k n h)
  moved_few (RollsBack n) holds = few_without (p + 1) k n (few_same p k h)

-- ---- what a command comes to

few_or : (p : ℕ) (o : Option Copies) → ((c : Copies) → o ≡ Some c → AreFewEntries p c) → AreFewEntries p (unwrap_or o no_copies)
few_or p None h = none_few p
few_or p (Some c) h = h c refl

module _ (S : Schema) (limits : Limits) (p : ℕ) (k : Kept) (h : AreFew p k) where
  abbrev Right : Decision → Type 0
  Right d = HoldsFew (p + 1) d.effect

  session_few : (s : SessionNo) → AreFewEntries p (copies_of k s)
  session_few s = few_or p (get k.copies s.0) (h.entries s.0)

  busy_right : (s : SessionNo) (n : OwnerNo) (asked : Asked) (step : Step) → Right (unless_busy S k s n asked step)
  busy_right s n asked step = of_given Right (blocker k.owners n step.needs) (does (Steps n s step asked) (reply_to S k (copies_of k s) asked step.answer)) (λ b. says (reply_to S k (copies_of k s) asked (Busy b))) tt (λ b there. tt)

  decided_right : (s : SessionNo) (actor : Actor) (asked : Result Asked Reply) → Right (decided S k s actor asked)
  decided_right s actor (Err refusal) = tt
  decided_right s actor (Ok asked) = busy_right s actor.number asked (step_of S k.catalog actor.owner (copies_of k s) asked)

  data_right : (s : SessionNo) (session : Session) (asked : Result Asked Reply) → Right (data_command S limits k s session asked)
  data_right s session asked =
      of_given Right (actor_in k.owners session) (says reply.NoTx) (λ actor. decided S k s actor (asked >>= within limits k.next actor.owner (copies_of k s)))
      tt
      (λ actor e. decided_right s actor (asked >>= within limits k.next actor.owner (copies_of k s)))

  in_right : (name : List ℕ) (f : SessionNo → Session → Decision) → ((s : SessionNo) (session : Session) → Right (f s session)) → Right (in_session k name f)
  in_right name f h = of_given Right (session_named k.sessions name) (says reply.NoSession) (λ e. f (record { 0 = e.0 }) e.1) tt (λ e there. h (record { 0 = e.0 }) e.1)

  for_right : (name : List ℕ) (f : OwnerNo → Decision) → ((n : OwnerNo) → Right (f n)) → Right (for_transaction k name f)
  for_right name f h = of_given Right (transaction_named k name) (says reply.NoTransaction) f tt (λ n there. h n)

  by_data : (name : List ℕ) (asked : SessionNo → Session → Result Asked Reply) → Right (in_session k name (λ s session. data_command S limits k s session (asked s session)))
  by_data name asked = in_right name (λ s session. data_command S limits k s session (asked s session)) (λ s session. data_right s session (asked s session))

  opening_right : (name : List ℕ) (tx write : Bool) → Right (opening limits k name tx write)
  opening_right name tx write = grind arith

  beginning_right : (name : List ℕ) (serializable : Bool) → Right (beginning limits k name serializable)
  beginning_right name serializable = grind arith

  closing_right : (s : SessionNo) (session : Session) → Right (closing k s session)
  closing_right s session = grind arith

  starting_right : (s : SessionNo) (session : Session) (n : OwnerNo) → Right (starting k s session n)
  starting_right s session n = grind arith

  suspending_right : (s : SessionNo) (session : Session) → Right (suspending s session)
  suspending_right s session = grind arith

  ending_right : (s : SessionNo) (session : Session) (ok : Bool) → Right (ending s session ok)
  ending_right s session ok = grind arith

  state_right : (session : Session) → Right (telling_state session)
  state_right session = grind arith

  full_right : (n : OwnerNo) (effect : Effect) → HoldsFew (p + 1) effect → Right (unless_full S limits k n effect)
  full_right n effect h =
      of_given Right (get k.owners n.0) (says reply.Done) (λ owner. if is_over_full S limits k.catalog owner then says reply.Full else does effect reply.Done) tt
      (λ owner there. of_if Right (is_over_full S limits k.catalog owner) (says reply.Full) (does effect reply.Done) tt h)

  committing_right : (n : OwnerNo) → Right (committing S limits k n)
  committing_right n = grind (arith, full_right n (Commits n) tt)

  flushing_right : (session : Session) → Right (flushing S limits k session)
  flushing_right session = grind (arith, λ (n : OwnerNo). full_right n (Flushes n) tt)

  entry_right : (s : SessionNo) (n : ℕ) (f : Entry → Decision) → ((e : Entry) → e.count ≤ p → Right (f e)) → Right (with_entry k s n f)
  entry_right s n f h =
      of_given Right (entry_numbered (copies_of k s) n) (says reply.NoEntry) f tt (λ e there. h e (found_counts p (λ x. x.number == n) (copies_of k s).entries e (session_few s).counts there))

  recount_right : (name : List ℕ) (n : ℕ) (change : ℕ → ℕ) → ((count : ℕ) → count ≤ p → change count ≤ p + 1) → Right (in_session k name (λ s session. recounting k s n change))
  recount_right name n change small =
      in_right name (λ s session. recounting k s n change)
      (λ s session. entry_right s n (λ e. does (Holds s (counting n (change e.count) (copies_of k s))) (reply.Count (change e.count))) (λ e le. few_counting p n (change e.count) (copies_of k s) (small e.count le) (session_few s)))

  refreshing_right : (s : SessionNo) (session : Session) → Right (refreshing k s session)
  refreshing_right s session = grind (arith, few_more p _ (few_detached p (body_in k.owners s session) (λ body. same_view body.view (InCopy s)) (copies_of k s) (session_few s)))

  home_right : (word : List ℕ) → Right (telling_home S word)
  home_right word = grind arith

  decision_right : (command : Command) → Right (decision S limits k command)
  decision_right (command.OpenSession name tx write) = opening_right name tx write
  decision_right (command.Close name) = in_right name (closing k) closing_right
  decision_right (command.Begin name serializable) = beginning_right name serializable
  decision_right (command.Start name t) = in_right name (λ s session. for_transaction k t (starting k s session)) (λ s session. for_right t (starting k s session) (starting_right s session))
  decision_right (command.Suspend name) = in_right name suspending suspending_right
  decision_right (command.End name ok) = in_right name (λ s session. ending s session ok) (λ s session. ending_right s session ok)
  decision_right (command.Status name) = in_right name (λ s session. telling_state session) (λ s session. state_right session)
  decision_right (command.Commit t) = for_right t (committing S limits k) committing_right
  decision_right (command.Rollback t) = for_right t (λ n. does (RollsBack n) reply.Done) (λ n. tt)
  decision_right (command.Home name home) = in_right name (λ s session. telling_home S home) (λ s session. home_right home)
  decision_right (command.Create name home values) = by_data name (λ s session. creating S k.next session home values)
  decision_right (command.Make name home factory values) = by_data name (λ s session. making S k.next session home factory values)
  decision_right (command.Find name home key values) = by_data name (λ s session. finding S home key values >>= λ op. Ok (obtaining op))
  decision_right (command.FindRef name home key values) = by_data name (λ s session. finding S home key values >>= λ op. Ok (only op))
  decision_right (command.Pid name pid) = by_data name (λ s session. Ok (obtaining (Ask (FindPid pid))))
  decision_right (command.Short name home serial) = by_data name (λ s session. shortening S home serial)
  decision_right (command.Exists name n) = by_data name (λ s session. asking_whether (copies_of k s) n)
  decision_right (command.Get name n member) = by_data name (λ s session. getting S (copies_of k s) n member)
  decision_right (command.Set name n member value) = by_data name (λ s session. setting S session (copies_of k s) n member value)
  decision_right (command.Destroy name n) = by_data name (λ s session. destroying session (copies_of k s) n)
  decision_right (command.Follow name n member) = by_data name (λ s session. following S (copies_of k s) n member)
  decision_right (command.Count name home) = by_data name (λ s session. asking_of_home S home (λ h. Ask (Count h)))
  decision_right (command.List name home) = by_data name (λ s session. asking_of_home S home (λ h. Ask (ListOf h)))
  decision_right (command.PidOf name n) = in_right name (λ s session. telling_pid k s n) (λ s session. entry_right s n (λ e. says (reply.PidAndShort e.pid)) (λ e le. tt))
  decision_right (command.Dup name n) = recount_right name n (λ count. count + 1) (λ count le. omega (arith, le))
  decision_right (command.Release name n) = recount_right name n (λ count. count - 1) (λ count le. omega (arith, le))
  decision_right (command.FreeAll name) = in_right name (λ s session. freeing k s) (λ s session. (let few = (session_few s).last in record { last = omega (arith, few); counts = tt }))
  decision_right (command.Flush name) = in_right name (λ s session. flushing S limits k session) (λ s session. flushing_right session)
  decision_right (command.Refresh name) = in_right name (refreshing k) refreshing_right
  decision_right command.Checkpoint = tt
  decision_right command.Stat = tt
  decision_right command.History = tt

  -- one command more
  pub few_on : (command : Command) → AreFew (p + 1) (moved k (decision S limits k command).effect)
  few_on command = moved_few p k h (decision S limits k command).effect (decision_right command)
