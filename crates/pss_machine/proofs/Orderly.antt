-- The entries of each session stay in order.
use Rattle.std.proofs.Common.{arith, ◌≡◌, ℕ, ◌+◌, ◌-◌, ◌==◌, ◌<◌, ◌≤◌, Bool, true, false, not, ◌&&◌, cond, List, [], ◌∷◌, ◌++◌, map, Option, Some, None, refl, sym, ap, ◌∙◌, inl, inr, subst}
use Rattle.std.specs.Prelude.{◌⊎◌, ◌||◌, Result, Ok, Err, filter, find, if◌then◌else◌, unwrap_or}
use Rattle.std.specs.Option.{option_map}
use Rattle.std.specs.List.{list_any}
use Rattle.std.specs.Ordering.{nat_cmp}
use Rattle.std.specs.FinMap.{get, insert, remove, get-empty}
use Rattle.std.proofs.lemmas.Bool.Decides.{nat_tests}
use Rattle.pss_base.specs.declared.pid.Pid.{Pid}
use Rattle.pss_base.specs.declared.owner.OwnerNo.{OwnerNo}
use Rattle.pss_base.specs.declared.session.SessionNo.{SessionNo}
use Rattle.type_layout.specs.declared.schema.Schema.{Schema}
use Rattle.type_layout.specs.Schemas.{given}
use Rattle.type_layout.specs.Sound.{are_distinct}
use Rattle.pss_catalog.specs.Catalog.{Catalog}
use Rattle.pss_machine.specs.declared.limits.Limits.{Limits}
use Rattle.pss_machine.specs.declared.session.View.{View}
use Rattle.pss_machine.specs.declared.session.View.TheVariants.{Kept as InCopy}
use Rattle.pss_machine.specs.declared.command.Command.{Command}
use Rattle.pss_machine.specs.declared.command.Command.TheVariants as command
use Rattle.pss_machine.specs.declared.reply.Reply.{Reply}
use Rattle.pss_machine.specs.declared.reply.Reply.TheVariants as reply
use Rattle.pss_machine.specs.Operations.{FindPid, Count, ListOf, Ask, PlainAnswer, Done, Found, IsThere, Val, Number, Listing, NotFound, Gone, Nil, Duplicate, TooLarge, Busy}
use Rattle.pss_machine.specs.Maps.{each, with_at}
use Rattle.pss_machine.specs.Same.{same_pid}
use Rattle.pss_machine.specs.Owners.{Owners, blocker, net, Step}
use Rattle.pss_machine.specs.Sessions.{Session, Sessions, session_named}
use Rattle.pss_machine.specs.Copies.{Stand, Loose, Entry, Copies, AllCopies, no_copies, entry_numbered, entry_for, number_for, with_count, with_stand, at_entry, without_entry, obtained, is_attached, Body, body_in, same_view, stand_in, attached, detached_from, detached}
use Rattle.pss_machine.specs.Kept.{Kept, Actor, actor_in, copies_of, transaction_named}
use Rattle.pss_machine.specs.Asking.{Asked, ◌>>=◌, obtaining, only, creating, making, finding, shortening, asking_whether, getting, setting, destroying, following, asking_of_home}
use Rattle.pss_machine.specs.Effects.{Effect, Stays, OpensBasic, OpensTransactional, ClosesBasic, ClosesTransactional, Begins, Associates, Ends, Holds, Steps, Commits, Flushes, RollsBack, Decision, does, says}
use Rattle.pss_machine.specs.Stepping.{within, step_of, reply_to, unless_busy, decided, data_command}
use Rattle.pss_machine.specs.Deciding.{in_session, for_transaction, opening, beginning, closing, starting, suspending, ending, telling_state, is_over_full, unless_full, committing, flushing, with_entry, recounting, telling_pid, refreshing, telling_home, freeing, counting, decision}
use Rattle.pss_machine.specs.Moving.{with_named, with_found, seated, is_done, moved, settled, is_settled, is_session, is_in, is_outdated, seen_in, owners_after}
use Rattle.pss_machine.specs.Run.{Said, Silent, Says, Wrong, Machine, first, turn, run}
use Rattle.pss_machine.specs.Entries.{NumbersRise, same_object, CountsAreSome, AreOrderly, EntriesAreOrderly}
use Rattle.pss_machine.proofs.Cases.{of_given, of_if}
use Rattle.pss_machine.proofs.Maps.{get_each, same_or_apart, insert_here, insert_apart, remove_here, remove_apart, with_here, with_apart}

-- ---- entries that change but for their numbers and objects

none_orderly : AreOrderly no_copies
none_orderly = record { numbers = tt; pids = refl; counts = tt }

emptied_orderly : (last : ℕ) → AreOrderly (record { last = last; entries = [] })
emptied_orderly last = record { numbers = tt; pids = refl; counts = tt }

record Keeps (f : Entry → Entry) : Type 0 where
  number : (e : Entry) → (f e).number ≡ e.number
  pid : (e : Entry) → (f e).pid ≡ e.pid
  count : (e : Entry) → 0 < e.count → 0 < (f e).count

module _ (f : Entry → Entry) (keeps : Keeps f) where
  rise_map : (low last : ℕ) (es : List Entry) → NumbersRise low last es → NumbersRise low last (map f es)
  rise_map low last [] h = tt
  rise_map low last (e ∷ es) h =
      (omega (arith, keeps.number e, h.0), omega (arith, keeps.number e, h.1), subst (λ n. NumbersRise n last (map f es)) (sym (keeps.number e)) (rise_map e.number last es h.2))

  same_mapped : (e x : Entry) → same_object (f e) (f x) ≡ same_object e x
  same_mapped e x = rw (keeps.pid e, keeps.pid x) refl

  any_map : (e : Entry) (es : List Entry) → list_any (same_object (f e)) (map f es) ≡ list_any (same_object e) es
  any_map e [] = refl
  any_map e (x ∷ es) = rw (same_mapped e x, any_map e es) refl

  distinct_map : (es : List Entry) → are_distinct same_object (map f es) ≡ are_distinct same_object es
  distinct_map [] = refl
  distinct_map (e ∷ es) = rw (any_map e es, distinct_map es) refl

  counts_map : (es : List Entry) → CountsAreSome es → CountsAreSome (map f es)
  counts_map [] h = tt
  counts_map (e ∷ es) h = (keeps.count e h.0, counts_map es h.1)

  mapped_orderly : (copies : Copies) → AreOrderly copies → AreOrderly (record { last = copies.last; entries = map f copies.entries })
  mapped_orderly copies h = record { numbers = rise_map 0 copies.last copies.entries h.numbers; pids = distinct_map copies.entries ∙ h.pids; counts = counts_map copies.entries h.counts }

keeps_if : (b : Entry → Bool) (f : Entry → Entry) → Keeps f → Keeps (λ e. if b e then f e else e)
keeps_if b f keeps = record { number = λ e. number e (b e); pid = λ e. pid e (b e); count = λ e. count e (b e) }
  where
    number : (e : Entry) (t : Bool) → (if t then f e else e).number ≡ e.number
    number e true = keeps.number e
    number e false = refl

    pid : (e : Entry) (t : Bool) → (if t then f e else e).pid ≡ e.pid
    pid e true = keeps.pid e
    pid e false = refl

    count : (e : Entry) (t : Bool) → 0 < e.count → 0 < (if t then f e else e).count
    count e true h = keeps.count e h
    count e false h = h

keeps_count : (n : ℕ) → 0 < n → Keeps (with_count n)
keeps_count n some = record { number = λ e. refl; pid = λ e. refl; count = λ e h. some }

keeps_stand : (stand : Entry → Stand) → Keeps (λ e. with_stand (stand e) e)
keeps_stand stand = record { number = λ e. refl; pid = λ e. refl; count = λ e h. h }

at_orderly : (n : ℕ) (f : Entry → Entry) (copies : Copies) → Keeps f → AreOrderly copies → AreOrderly (at_entry n f copies)
at_orderly n f copies keeps h = mapped_orderly (λ e. if e.number == n then f e else e) (keeps_if (λ e. e.number == n) f keeps) copies h

keeps_attached : (M : Catalog) (seen : Pid → View) → Keeps (attached M seen)
keeps_attached M seen = record { number = λ e. number e (is_attached e); pid = λ e. pid e (is_attached e); count = λ e. count e (is_attached e) }
  where
    number : (e : Entry) (t : Bool) → (if t then e else with_stand (stand_in M e.pid (seen e.pid)) e).number ≡ e.number
    number e true = refl
    number e false = refl

    pid : (e : Entry) (t : Bool) → (if t then e else with_stand (stand_in M e.pid (seen e.pid)) e).pid ≡ e.pid
    pid e true = refl
    pid e false = refl

    count : (e : Entry) (t : Bool) → 0 < e.count → 0 < (if t then e else with_stand (stand_in M e.pid (seen e.pid)) e).count
    count e true h = h
    count e false h = h

pub detached_orderly : (body : Pid → Body) (test : Body → Bool) (copies : Copies) → AreOrderly copies → AreOrderly (detached_from body test copies)
detached_orderly body test copies h =
    mapped_orderly (λ e. if is_attached e && test (body e.pid) then with_stand Loose e else e) (keeps_if (λ e. is_attached e && test (body e.pid)) (with_stand Loose) (keeps_stand (λ e. Loose))) copies h

-- ---- entries that go

rise_from : (low lower last : ℕ) (es : List Entry) → lower ≤ low → NumbersRise low last es → NumbersRise lower last es
rise_from low lower last [] le h = tt
rise_from low lower last (e ∷ es) le h = (omega (arith, le, h.0), h.1, h.2)

module _ (p : Entry → Bool) where
  rise_filter : (low last : ℕ) (es : List Entry) → NumbersRise low last es → NumbersRise low last (filter p es)
  rise_filter low last [] h = tt
  rise_filter low last (e ∷ es) h = by (rise_filter e.number last es h.2) (p e)
    where
      by : NumbersRise e.number last (filter p es) → (t : Bool) → NumbersRise low last (cond t (e ∷ filter p es) (filter p es))
      by rest true = (h.0, h.1, rest)
      by rest false = let le : low ≤ e.number = omega (arith, h.0) in rise_from e.number low last (filter p es) le rest

  any_filter : (e : Entry) (es : List Entry) → list_any (same_object e) es ≡ false → list_any (same_object e) (filter p es) ≡ false
  any_filter e [] h = refl
  any_filter e (x ∷ es) h = by (same_object e x) h (any_filter e es) (p x) refl
    where
      by : (s : Bool) → (s || list_any (same_object e) es) ≡ false → (list_any (same_object e) es ≡ false → list_any (same_object e) (filter p es) ≡ false) → (t : Bool) → same_object e x ≡ s
          → list_any (same_object e) (cond t (x ∷ filter p es) (filter p es)) ≡ false
      by true h rest t is = absurd cc
      by false h rest true is = rw is (rest h)
      by false h rest false is = rest h

  distinct_filter : (es : List Entry) → are_distinct same_object es ≡ true → are_distinct same_object (filter p es) ≡ true
  distinct_filter [] h = refl
  distinct_filter (e ∷ es) h = by (list_any (same_object e) es) refl h (distinct_filter es) (p e)
    where
      by : (s : Bool) → list_any (same_object e) es ≡ s → (not s && are_distinct same_object es) ≡ true → (are_distinct same_object es ≡ true → are_distinct same_object (filter p es) ≡ true) → (t : Bool)
          → are_distinct same_object (cond t (e ∷ filter p es) (filter p es)) ≡ true
      by true is h rest t = absurd cc
      by false is h rest true = rw (any_filter e es is) (rest h)
      by false is h rest false = rest h

  counts_filter : (es : List Entry) → CountsAreSome es → CountsAreSome (filter p es)
  counts_filter [] h = tt
  counts_filter (e ∷ es) h = by (counts_filter es h.1) (p e)
    where
      by : CountsAreSome (filter p es) → (t : Bool) → CountsAreSome (cond t (e ∷ filter p es) (filter p es))
      by rest true = (h.0, rest)
      by rest false = rest

  filtered_orderly : (copies : Copies) → AreOrderly copies → AreOrderly (record { last = copies.last; entries = filter p copies.entries })
  filtered_orderly copies h = record { numbers = rise_filter 0 copies.last copies.entries h.numbers; pids = distinct_filter copies.entries h.pids; counts = counts_filter copies.entries h.counts }

-- ---- entries that come

rise_push : (low last : ℕ) (es : List Entry) (e : Entry) → low ≤ last → e.number ≡ last + 1 → NumbersRise low last es → NumbersRise low (last + 1) (es ++ e ∷ [])
rise_push low last [] e le is h = (omega (arith, le, is), omega (arith, is), tt)
rise_push low last (x ∷ es) e le is h = (h.0, omega (arith, h.1), rise_push x.number last es e h.1 is h.2)

any_push : (p : Entry → Bool) (es : List Entry) (e : Entry) → list_any p es ≡ false → p e ≡ false → list_any p (es ++ e ∷ []) ≡ false
any_push p [] e h other = rw other refl
any_push p (x ∷ es) e h other = by (p x) refl h (any_push p es e)
  where
    by : (t : Bool) → p x ≡ t → (t || list_any p es) ≡ false → (list_any p es ≡ false → p e ≡ false → list_any p (es ++ e ∷ []) ≡ false) → list_any p (x ∷ (es ++ e ∷ [])) ≡ false
    by true is h rest = absurd cc
    by false is h rest = rw is (rest h other)

distinct_push : (es : List Entry) (e : Entry) → are_distinct same_object es ≡ true → find (λ x. same_pid x.pid e.pid) es ≡ None → are_distinct same_object (es ++ e ∷ []) ≡ true
distinct_push [] e h none = refl
distinct_push (x ∷ es) e h none = by (list_any (same_object x) es) refl h (same_pid x.pid e.pid) refl none (distinct_push es e)
  where
    by : (s : Bool) → list_any (same_object x) es ≡ s → (not s && are_distinct same_object es) ≡ true → (t : Bool) → same_pid x.pid e.pid ≡ t → cond t (Some x) (find (λ x. same_pid x.pid e.pid) es) ≡ None
        → (are_distinct same_object es ≡ true → find (λ x. same_pid x.pid e.pid) es ≡ None → are_distinct same_object (es ++ e ∷ []) ≡ true) → are_distinct same_object (x ∷ (es ++ e ∷ [])) ≡ true
    by true is h t same none rest = absurd cc
    by false is h true same none rest = absurd (cc)
    by false is h false same none rest = rw (any_push (same_object x) es e is same) (rest h none)

counts_push : (es : List Entry) (e : Entry) → 0 < e.count → CountsAreSome es → CountsAreSome (es ++ e ∷ [])
counts_push [] e some h = (some, tt)
counts_push (x ∷ es) e some h = (h.0, counts_push es e some h.1)

obtained_orderly : (pid : Pid) (copies : Copies) → AreOrderly copies → AreOrderly (obtained pid copies)
obtained_orderly pid copies h = by (entry_for copies pid) refl
  where
    new : Entry
    new = record { number = copies.last + 1; pid = pid; count = 1; stand = Loose }

    by : (o : Option Entry) → entry_for copies pid ≡ o → AreOrderly (given o (record { last = copies.last + 1; entries = copies.entries ++ new ∷ [] }) (λ e. at_entry e.number (with_count (e.count + 1)) copies))
    by None is = record {
      numbers = rise_push 0 copies.last copies.entries new (omega arith) refl h.numbers;
      pids = distinct_push copies.entries new h.pids is;
      counts = counts_push copies.entries new (omega arith) h.counts;
    }
    by (Some e) is = at_orderly e.number (with_count (e.count + 1)) copies (keeps_count (e.count + 1) (omega arith)) h

-- ---- the entries of the session that takes a step

module _ (M : Catalog) (seen : Pid → View) where
  pub named_orderly : (named : Option ℕ) (copies : Copies) → AreOrderly copies → AreOrderly (with_named M seen named copies)
  named_orderly None copies h = h
  named_orderly (Some n) copies h = at_orderly n (attached M seen) copies (keeps_attached M seen) h

  found_orderly : (obtains : Bool) (answer : PlainAnswer) (copies : Copies) → AreOrderly copies → AreOrderly (with_found M seen obtains answer copies)
  found_orderly false answer copies h = h
  found_orderly true (Found p) copies h = at_orderly (number_for copies p) (attached M seen) (obtained p copies) (keeps_attached M seen) (obtained_orderly p copies h)
  found_orderly true Done copies h = h
  found_orderly true (IsThere b) copies h = h
  found_orderly true (Val v) copies h = h
  found_orderly true (Number n) copies h = h
  found_orderly true (Listing n pids) copies h = h
  found_orderly true NotFound copies h = h
  found_orderly true (Gone p) copies h = h
  found_orderly true Nil copies h = h
  found_orderly true (Duplicate key) copies h = h
  found_orderly true TooLarge copies h = h
  found_orderly true (Busy n) copies h = h

  seated_orderly : (asked : Asked) (answer : PlainAnswer) (copies : Copies) → AreOrderly copies → AreOrderly (seated M seen asked answer copies)
  seated_orderly asked answer copies h =
      of_if AreOrderly (is_done answer) (with_found M seen asked.obtains answer (with_named M seen asked.entry copies)) copies
      (found_orderly asked.obtains answer (with_named M seen asked.entry copies) (named_orderly asked.entry copies h)) h

-- ---- all sessions

abbrev AllOrderly : AllCopies → Type 0
AllOrderly all = (s : ℕ) (copies : Copies) → get all s ≡ Some copies → AreOrderly copies

option_orderly : (f : Copies → Copies) (o : Option Copies) → ((c : Copies) → o ≡ Some c → AreOrderly (f c)) → (copies : Copies) → option_map f o ≡ Some copies → AreOrderly copies
option_orderly f None h copies e = absurd cc
option_orderly f (Some c) h copies e = let same : f c ≡ copies = cc in subst AreOrderly same (h c refl)

each_orderly : (f : ℕ → Copies → Copies) (all : AllCopies) → ((s : ℕ) (c : Copies) → AreOrderly c → AreOrderly (f s c)) → AllOrderly all → AllOrderly (each f all)
each_orderly f all keeps h s copies e = option_orderly (f s) (get all s) (λ c there. keeps s c (h s c there)) copies (sym (get_each f all s) ∙ e)

inserted_orderly : (all : AllCopies) (n : ℕ) (c : Copies) → AreOrderly c → AllOrderly all → AllOrderly (insert all n c)
inserted_orderly all n c right h s copies e = by (same_or_apart s n)
  where
    by : ((s ≡ n) ⊎ (s ≡ n → ⊥)) → AreOrderly copies
    by (inl same) = let is : Some c ≡ Some copies = sym (insert_here all n c) ∙ ap (get (insert all n c)) (sym same) ∙ e in let one : c ≡ copies = cc in subst AreOrderly one right
    by (inr apart) = h s copies (sym (insert_apart all n c s apart) ∙ e)

removed_orderly : (all : AllCopies) (n : ℕ) → AllOrderly all → AllOrderly (remove all n)
removed_orderly all n h s copies e = by (same_or_apart s n)
  where
    by : ((s ≡ n) ⊎ (s ≡ n → ⊥)) → AreOrderly copies
    by (inl same) = absurd (let is : None ≡ Some copies = sym (remove_here all n) ∙ ap (get (remove all n)) (sym same) ∙ e in cc)
    by (inr apart) = h s copies (sym (remove_apart all n s apart) ∙ e)

with_orderly : (all : AllCopies) (n : ℕ) (f : Copies → Copies) → ((c : Copies) → AreOrderly c → AreOrderly (f c)) → AllOrderly all → AllOrderly (with_at all n f)
with_orderly all n f keeps h s copies e = by (same_or_apart s n)
  where
    by : ((s ≡ n) ⊎ (s ≡ n → ⊥)) → AreOrderly copies
    by (inl same) = option_orderly f (get all n) (λ c there. keeps c (h n c there)) copies (sym (with_here all n f) ∙ ap (get (with_at all n f)) (sym same) ∙ e)
    by (inr apart) = h s copies (sym (with_apart all n f s apart) ∙ e)

all_detached : (owners : Owners) (sessions : Sessions) (test : SessionNo → Session → Body → Bool) (all : AllCopies) → AllOrderly all → AllOrderly (detached owners sessions test all)
all_detached owners sessions test all h =
    each_orderly _ all
    (λ s c right.
    of_given AreOrderly (get sessions s) c (λ session. detached_from (body_in owners (record { 0 = s }) session) (test (record { 0 = s }) session) c) right
    (λ session there. detached_orderly (body_in owners (record { 0 = s }) session) (test (record { 0 = s }) session) c right)) h

-- ---- effects

settled_orderly : (k : Kept) (n : OwnerNo) → AllOrderly k.copies → AllOrderly (settled k n).copies
settled_orderly k n h = of_given (λ k'. AllOrderly k'.copies) (get k.owners n.0) k _ h (λ owner there. all_detached k.owners k.sessions (is_settled n (net k.catalog owner)) k.copies h)

-- what a session is to hold is in order
abbrev HoldsOrderly : Effect → Type 0
HoldsOrderly (Holds s copies) = AreOrderly copies
HoldsOrderly _ = Unit {0}

moved_orderly : (k : Kept) (effect : Effect) → HoldsOrderly effect → AllOrderly k.copies → AllOrderly (moved k effect).copies
moved_orderly k Stays right h = h
moved_orderly k (OpensBasic name access) right h = inserted_orderly k.copies k.next_session no_copies none_orderly h
moved_orderly k (OpensTransactional name access) right h = inserted_orderly k.copies k.next_session no_copies none_orderly h
moved_orderly k (ClosesBasic s n) right h = removed_orderly k.copies s.0 h
moved_orderly k (ClosesTransactional s) right h = removed_orderly k.copies s.0 h
moved_orderly k (Begins name level) right h = h
moved_orderly k (Associates s association) right h = h
moved_orderly k (Ends s n failed) right h = all_detached k.owners k.sessions (λ t session body. is_session s t) k.copies h
moved_orderly k (Holds s copies) right h = inserted_orderly k.copies s.0 copies right h
moved_orderly k (Steps n s step asked) right h =
    with_orderly (detached k.owners k.sessions (is_outdated n step) k.copies) s.0 (seated k.catalog (seen_in (owners_after k n step) k.sessions s) asked step.answer)
    (λ c right. seated_orderly k.catalog (seen_in (owners_after k n step) k.sessions s) asked step.answer c right) (all_detached k.owners k.sessions (is_outdated n step) k.copies h)
moved_orderly k (Commits n) right h = all_detached (settled k n).owners (settled k n).sessions (λ s session body. is_in n session) (settled k n).copies (settled_orderly k n h)
moved_orderly k (Flushes n) right h = settled_orderly k n h
moved_orderly k (RollsBack n) right h = all_detached k.owners k.sessions (λ s session body. is_in n session) k.copies h

-- ---- what a command comes to

some_orderly : (o : Option Copies) → ((c : Copies) → o ≡ Some c → AreOrderly c) → AreOrderly (unwrap_or o no_copies)
some_orderly None h = none_orderly
some_orderly (Some c) h = h c refl

counting_orderly : (n count : ℕ) (copies : Copies) → AreOrderly copies → AreOrderly (counting n count copies)
counting_orderly n count copies h = by (count == 0) refl
  where
    by : (t : Bool) → (count == 0) ≡ t → AreOrderly (if t then without_entry n copies else at_entry n (with_count count) copies)
    by true is = filtered_orderly (λ e. not (e.number == n)) copies h
    by false is = at_orderly n (with_count count) copies (keeps_count count (some is)) h
      where
        some : (count == 0) ≡ false → 0 < count
        some is = grind (arith, nat_tests)

module _ (S : Schema) (limits : Limits) (k : Kept) (all : AllOrderly k.copies) where
  abbrev Right : Decision → Type 0
  Right d = HoldsOrderly d.effect

  session_orderly : (s : SessionNo) → AreOrderly (copies_of k s)
  session_orderly s = some_orderly (get k.copies s.0) (λ c there. all s.0 c there)

  busy_right : (s : SessionNo) (n : OwnerNo) (asked : Asked) (step : Step) → Right (unless_busy S k s n asked step)
  busy_right s n asked step = of_given Right (blocker k.owners n step.needs) (does (Steps n s step asked) (reply_to S k (copies_of k s) asked step.answer)) (λ b. says (reply_to S k (copies_of k s) asked (Busy b))) tt (λ b there. tt)

  decided_right : (s : SessionNo) (actor : Actor) (asked : Result Asked Reply) → Right (decided S k s actor asked)
  decided_right s actor (Err refusal) = tt
  decided_right s actor (Ok asked) = busy_right s actor.number asked (step_of S k.catalog actor.owner (copies_of k s) asked)

  data_right : (s : SessionNo) (session : Session) (asked : Result Asked Reply) → Right (data_command S limits k s session asked)
  data_right s session asked =
      of_given Right (actor_in k.owners session) (says reply.NoTx) (λ actor. decided S k s actor (asked >>= within limits k.next actor.owner (copies_of k s)))
      tt
      (λ actor e. decided_right s actor (asked >>= within limits k.next actor.owner (copies_of k s)))

  in_right : (name : List ℕ) (f : SessionNo → Session → Decision) → ((s : SessionNo) (session : Session) → Right (f s session)) → Right (in_session k name f)
  in_right name f h = of_given Right (session_named k.sessions name) (says reply.NoSession) (λ e. f (record { 0 = e.0 }) e.1) tt (λ e there. h (record { 0 = e.0 }) e.1)

  for_right : (name : List ℕ) (f : OwnerNo → Decision) → ((n : OwnerNo) → Right (f n)) → Right (for_transaction k name f)
  for_right name f h = of_given Right (transaction_named k name) (says reply.NoTransaction) f tt (λ n there. h n)

  by_data : (name : List ℕ) (asked : SessionNo → Session → Result Asked Reply) → Right (in_session k name (λ s session. data_command S limits k s session (asked s session)))
  by_data name asked = in_right name (λ s session. data_command S limits k s session (asked s session)) (λ s session. data_right s session (asked s session))

  opening_right : (name : List ℕ) (tx write : Bool) → Right (opening limits k name tx write)
  opening_right name tx write = grind arith

  beginning_right : (name : List ℕ) (serializable : Bool) → Right (beginning limits k name serializable)
  beginning_right name serializable = grind arith

  closing_right : (s : SessionNo) (session : Session) → Right (closing k s session)
  closing_right s session = grind arith

  starting_right : (s : SessionNo) (session : Session) (n : OwnerNo) → Right (starting k s session n)
  starting_right s session n = grind arith

  suspending_right : (s : SessionNo) (session : Session) → Right (suspending s session)
  suspending_right s session = grind arith

  ending_right : (s : SessionNo) (session : Session) (ok : Bool) → Right (ending s session ok)
  ending_right s session ok = grind arith

  state_right : (session : Session) → Right (telling_state session)
  state_right session = grind arith

  full_right : (n : OwnerNo) (effect : Effect) → HoldsOrderly effect → Right (unless_full S limits k n effect)
  full_right n effect h =
      of_given Right (get k.owners n.0) (says reply.Done) (λ owner. if is_over_full S limits k.catalog owner then says reply.Full else does effect reply.Done) tt
      (λ owner there. of_if Right (is_over_full S limits k.catalog owner) (says reply.Full) (does effect reply.Done) tt h)

  committing_right : (n : OwnerNo) → Right (committing S limits k n)
  committing_right n = grind (arith, full_right n (Commits n) tt)

  flushing_right : (session : Session) → Right (flushing S limits k session)
  flushing_right session = grind (arith, λ (n : OwnerNo). full_right n (Flushes n) tt)

  entry_right : (s : SessionNo) (n : ℕ) (f : Entry → Decision) → ((e : Entry) → Right (f e)) → Right (with_entry k s n f)
  entry_right s n f h = of_given Right (entry_numbered (copies_of k s) n) (says reply.NoEntry) f tt (λ e there. h e)

  recount_right : (name : List ℕ) (n : ℕ) (change : ℕ → ℕ) → Right (in_session k name (λ s session. recounting k s n change))
  recount_right name n change =
      in_right name (λ s session. recounting k s n change)
      (λ s session. entry_right s n (λ e. does (Holds s (counting n (change e.count) (copies_of k s))) (reply.Count (change e.count))) (λ e. counting_orderly n (change e.count) (copies_of k s) (session_orderly s)))

  refreshing_right : (s : SessionNo) (session : Session) → Right (refreshing k s session)
  refreshing_right s session = grind (arith, detached_orderly (body_in k.owners s session) (λ body. same_view body.view (InCopy s)) (copies_of k s) (session_orderly s))

  home_right : (word : List ℕ) → Right (telling_home S word)
  home_right word = grind arith

  decision_right : (command : Command) → Right (decision S limits k command)
  decision_right (command.OpenSession name tx write) = opening_right name tx write
  decision_right (command.Close name) = in_right name (closing k) closing_right
  decision_right (command.Begin name serializable) = beginning_right name serializable
  decision_right (command.Start name t) = in_right name (λ s session. for_transaction k t (starting k s session)) (λ s session. for_right t (starting k s session) (starting_right s session))
  decision_right (command.Suspend name) = in_right name suspending suspending_right
  decision_right (command.End name ok) = in_right name (λ s session. ending s session ok) (λ s session. ending_right s session ok)
  decision_right (command.Status name) = in_right name (λ s session. telling_state session) (λ s session. state_right session)
  decision_right (command.Commit t) = for_right t (committing S limits k) committing_right
  decision_right (command.Rollback t) = for_right t (λ n. does (RollsBack n) reply.Done) (λ n. tt)
  decision_right (command.Home name home) = in_right name (λ s session. telling_home S home) (λ s session. home_right home)
  decision_right (command.Create name home values) = by_data name (λ s session. creating S k.next session home values)
  decision_right (command.Make name home factory values) = by_data name (λ s session. making S k.next session home factory values)
  decision_right (command.Find name home key values) = by_data name (λ s session. finding S home key values >>= λ op. Ok (obtaining op))
  decision_right (command.FindRef name home key values) = by_data name (λ s session. finding S home key values >>= λ op. Ok (only op))
  decision_right (command.Pid name pid) = by_data name (λ s session. Ok (obtaining (Ask (FindPid pid))))
  decision_right (command.Short name home serial) = by_data name (λ s session. shortening S home serial)
  decision_right (command.Exists name n) = by_data name (λ s session. asking_whether (copies_of k s) n)
  decision_right (command.Get name n member) = by_data name (λ s session. getting S (copies_of k s) n member)
  decision_right (command.Set name n member value) = by_data name (λ s session. setting S session (copies_of k s) n member value)
  decision_right (command.Destroy name n) = by_data name (λ s session. destroying session (copies_of k s) n)
  decision_right (command.Follow name n member) = by_data name (λ s session. following S (copies_of k s) n member)
  decision_right (command.Count name home) = by_data name (λ s session. asking_of_home S home (λ h. Ask (Count h)))
  decision_right (command.List name home) = by_data name (λ s session. asking_of_home S home (λ h. Ask (ListOf h)))
  decision_right (command.PidOf name n) = in_right name (λ s session. telling_pid k s n) (λ s session. entry_right s n (λ e. says (reply.PidAndShort e.pid)) (λ e. tt))
  decision_right (command.Dup name n) = recount_right name n (λ count. count + 1)
  decision_right (command.Release name n) = recount_right name n (λ count. count - 1)
  decision_right (command.FreeAll name) = in_right name (λ s session. freeing k s) (λ s session. emptied_orderly (copies_of k s).last)
  decision_right (command.Flush name) = in_right name (λ s session. flushing S limits k session) (λ s session. flushing_right session)
  decision_right (command.Refresh name) = in_right name (refreshing k) refreshing_right
  decision_right command.Checkpoint = tt
  decision_right command.Stat = tt
  decision_right command.History = tt

-- ---- runs

module _ (S : Schema) (limits : Limits) where
  turn_orderly : (q : Machine) (said : Said) → AllOrderly q.kept.copies → AllOrderly (turn S limits q said).kept.copies
  turn_orderly q Silent h = h
  turn_orderly q (Wrong column) h = h
  turn_orderly q (Says command) h = moved_orderly q.kept (decision S limits q.kept command).effect (decision_right S limits q.kept h command) h

  run_orderly : (q : Machine) (lines : List Said) → AllOrderly q.kept.copies → AllOrderly (run S limits q lines).kept.copies
  run_orderly q [] h = h
  run_orderly q (x ∷ lines) h = run_orderly (turn S limits q x) lines (turn_orderly q x h)

pub entries_are_orderly : EntriesAreOrderly
entries_are_orderly S limits M next lines = run_orderly S limits (first M next) lines (λ s copies e. absurd (let none : None ≡ Some copies = sym (get-empty nat_cmp s) ∙ e in cc))
