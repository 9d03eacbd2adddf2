-- After a data command that did what it was asked for, the entry that it used is attached.
use Rattle.std.proofs.Common.{arith, ◌≡◌, ℕ, ◌+◌, ◌==◌, ◌<◌, ◌≤◌, ◌&&◌, cond, Bool, true, false, List, [], ◌∷◌, ◌++◌, length, Option, Some, None, refl, sym, ap, ◌∙◌, subst, inl, inr}
use Rattle.std.specs.Prelude.{◌⊎◌, ◌||◌, find, is_some, unwrap_or, nat_le, ◌-◌, ◌^◌, Result, Ok, Err, ok_or, if◌then◌else◌, slice_index_or}
use Rattle.std.specs.Option.{option_map}
use Rattle.std.specs.FinMap.{get, len}
use Rattle.std.proofs.lemmas.Bool.{eqb-true, eq-eqb}
use Rattle.std.proofs.lemmas.Bool.Decides.{nat_tests}
use Rattle.pss_base.specs.declared.pid.Pid.{Pid}
use Rattle.pss_base.specs.declared.owner.OwnerNo.{OwnerNo}
use Rattle.pss_base.specs.declared.session.SessionNo.{SessionNo}
use Rattle.type_layout.specs.declared.schema.Schema.{Schema}
use Rattle.type_layout.specs.declared.home.HomeNo.{HomeNo}
use Rattle.type_layout.specs.Types.{PlainType, PlainValue, PlainMember, Ref}
use Rattle.type_layout.specs.Keys.{chosen, key_members}
use Rattle.type_layout.specs.Schemas.{given, members_at}
use Rattle.pss_catalog.specs.Catalog.{Catalog}
use Rattle.pss_machine.specs.declared.limits.Limits.{Limits}
use Rattle.pss_machine.specs.declared.session.Kind.{Kind}
use Rattle.pss_machine.specs.declared.session.Kind.TheVariants.{Basic, Transactional}
use Rattle.pss_machine.specs.declared.session.Association.{Association}
use Rattle.pss_machine.specs.declared.session.Association.TheVariants.{NoTransaction, Active, Suspended, Ending}
use Rattle.pss_machine.specs.declared.session.View.{View}
use Rattle.pss_machine.specs.declared.session.View.TheVariants.{Committed, Own, Kept as InCopy}
use Rattle.pss_machine.specs.declared.command.Rest.{Rest}
use Rattle.pss_machine.specs.declared.command.Command.{Command}
use Rattle.pss_machine.specs.declared.command.Command.TheVariants as command
use Rattle.pss_machine.specs.declared.reply.Reply.{Reply}
use Rattle.pss_machine.specs.declared.reply.Reply.TheVariants as reply
use Rattle.pss_machine.specs.Operations.{FindPid, FindShort, Exists, Get, Follow, Count, ListOf, PlainOp, Create, Set, Destroy, Ask, PlainAnswer, Done, Found, IsThere, Val, Number, Listing, NotFound, Gone, Nil, Duplicate, TooLarge, Busy}
use Rattle.pss_machine.specs.Same.{same_pid}
use Rattle.pss_machine.specs.Commands.{data_session, named_entry, is_obtaining}
use Rattle.pss_machine.specs.Names.{factory_named, key_named}
use Rattle.pss_machine.specs.Values.{types_of, made_of}
use Rattle.pss_machine.specs.Owners.{Owner, Owners, Step, stepped, has_changed, blocker}
use Rattle.pss_machine.specs.Sessions.{Session, is_basic, is_owner, owner_of, acts_for, is_read_only}
use Rattle.pss_machine.specs.Copies.{Loose, Copied, Entry, Copies, no_copies, entry_numbered, entry_for, number_for, with_count, with_stand, at_entry, obtained, is_attached, is_changed_by, unchanged_in, view_in, body_in, values_at, stand_in, attached, detached_from, detached}
use Rattle.pss_machine.specs.Kept.{Kept, Actor, actor_in, copies_of}
use Rattle.pss_machine.specs.Asking.{Asked, ◌>>=◌, obtaining, only, by_entry, creating, making, finding, shortening, asking_whether, getting, setting, destroying, following, asking_of_home, read_home, read_values, read_value, read_entry, read_member, is_reference}
use Rattle.pss_machine.specs.Effects.{Steps, Decision, does, says}
use Rattle.pss_machine.specs.Stepping.{within, changes_further, is_create, step_of, reply_to, decided, data_command}
use Rattle.pss_machine.specs.Moving.{is_outdated, is_done, with_named, with_found, seated, seen_in, owners_after, moved}
use Rattle.pss_machine.specs.Run.{first, run}
use Rattle.pss_machine.specs.Entries.{NumbersRise, AreOrderly}
use Rattle.pss_machine.specs.AtLimits.{asks_for}
use Rattle.pss_machine.specs.Attaching.{attached_in, is_attached_at, is_given, is_success, is_used, UsedAreAttached, GivenAreOfObject}
use Rattle.pss_machine.proofs.Cases.{of_given, of_if}
use Rattle.pss_machine.proofs.Maps.{get_each, with_here}
use Rattle.pss_machine.proofs.Found.{found_there}
use Rattle.pss_machine.proofs.Distinct.{pid_sound}
use Rattle.pss_machine.proofs.Allowing.{actor_there, step_is}
use Rattle.pss_machine.proofs.Growing.{Keeps, keeps_if, keeps_count, keeps_stand, keeps_attached, numbered_map}
use Rattle.pss_machine.proofs.Attached.{has_number, same_number}
use Rattle.pss_machine.proofs.Attaching.{in_session}
use Rattle.pss_machine.proofs.Staying.{found_stays}
use Rattle.pss_machine.proofs.Acting.{Known, decision_seen}
use Rattle.pss_machine.proofs.AtLimits.{decision_asks}
use Rattle.pss_machine.proofs.Numbering.{PairedIn, run_paired}
use Rattle.pss_machine.proofs.Orderly as orderly
use Rattle.pss_machine.proofs.Views.{There, values_there}
use Rattle.pss_machine.proofs.Using.{AskedOf, is_question, found_seats, named_seats}
use Rattle.pss_machine.proofs.Logic.{both_true, none_some, one_true, same_some, some_is, true_false}
use Rattle.pss_machine.proofs.Asked.{Any, Fair, fair_then, fair_where, fair_or}

-- ---- what is asked of a named entry

-- the entry that is named is there, and the operation is of its object
abbrev AskedRight : Copies → Asked → Type 0
AskedRight copies asked = (m : ℕ) → asked.entry ≡ Some m → (e : Entry) × (entry_numbered copies m ≡ Some e) × AskedOf asked.op e.pid

abbrev Unfit : Reply → Type 0
Unfit refusal = is_success refusal ≡ false

fair_values : (types : List PlainType) (rest : Rest) → Fair Unfit Any (read_values types rest)
fair_values types rest = grind arith

fair_value : (member : PlainMember) (rest : Rest) → Fair Unfit Any (read_value member rest)
fair_value member rest = fair_then Unfit Any (read_values (member.type ∷ []) rest) (λ vs. Ok (slice_index_or vs 0 (Ref None))) (fair_values (member.type ∷ []) rest) (λ vs. tt)

names_none : (copies : Copies) (asked : Asked) → asked.entry ≡ None → AskedRight copies asked
names_none copies asked none m is = absurd (none_some (sym none ∙ is))

module _ (S : Schema) (copies : Copies) where
  abbrev Right : Result Asked Reply → Type 0
  Right r = Fair Unfit (AskedRight copies) r

  creating_right : (next : ℕ) (session : Session) (home : List ℕ) (rest : Rest) → Right (creating S next session home rest)
  creating_right next session home rest =
      fair_then Unfit (AskedRight copies) (read_home S home) _ (fair_or Unfit _ reply.NoHome refl)
      (λ h. fair_then Unfit (AskedRight copies) (read_values (types_of (members_at S h)) rest) _ (fair_values (types_of (members_at S h)) rest)
      (λ vs. fair_where Unfit (AskedRight copies) (is_read_only session) reply.ReadOnly (Ok (obtaining (Create next (record { home = h; values = vs })))) refl (names_none copies (obtaining (Create next (record { home = h; values = vs }))) refl)))

  making_right : (next : ℕ) (session : Session) (home factory : List ℕ) (rest : Rest) → Right (making S next session home factory rest)
  making_right next session home factory rest =
      fair_then Unfit (AskedRight copies) (read_home S home) _ (fair_or Unfit _ reply.NoHome refl)
      (λ h. fair_then Unfit (AskedRight copies) (ok_or (factory_named S h factory) reply.NoFactory) _ (fair_or Unfit (factory_named S h factory) reply.NoFactory refl)
      (λ f. fair_then Unfit (AskedRight copies) (read_values (types_of (chosen (members_at S h) f.members)) rest) _ (fair_values (types_of (chosen (members_at S h) f.members)) rest)
      (λ vs. fair_where Unfit (AskedRight copies) (is_read_only session) reply.ReadOnly (Ok (obtaining (Create next (record { home = h; values = made_of (members_at S h) f.members vs })))) refl
      (names_none copies (obtaining (Create next (record { home = h; values = made_of (members_at S h) f.members vs }))) refl))))

  finding_right : (home key : List ℕ) (rest : Rest) (ask : PlainOp → Asked) → ((op : PlainOp) → (ask op).entry ≡ None) → Right (finding S home key rest >>= λ op. Ok (ask op))
  finding_right home key rest ask h =
      fair_then Unfit (AskedRight copies) (finding S home key rest) (λ op. Ok (ask op))
      (fair_then Unfit Any (read_home S home) _ (fair_or Unfit _ reply.NoHome refl)
      (λ h. fair_then Unfit Any (ok_or (key_named S h key) reply.NoKey) _ (fair_or Unfit (key_named S h key) reply.NoKey refl)
      (λ k. fair_then Unfit Any (read_values (types_of (key_members S k)) rest) _ (fair_values (types_of (key_members S k)) rest) (λ vs. tt))))
      (λ op. names_none copies (ask op) (h op))

  home_right : (home : List ℕ) (ask : HomeNo → Asked) → ((h : HomeNo) → (ask h).entry ≡ None) → Right (read_home S home >>= λ h. Ok (ask h))
  home_right home ask h = fair_then Unfit (AskedRight copies) (read_home S home) _ (fair_or Unfit _ reply.NoHome refl) (λ x. names_none copies (ask x) (h x))

  -- with the entry that is there
  of_entry : (n : ℕ) (f : Entry → Result Asked Reply) → ((e : Entry) → entry_numbered copies n ≡ Some e → Right (f e)) → Right (read_entry copies n >>= f)
  of_entry n f h = by (entry_numbered copies n) refl
    where
      by : (o : Option Entry) → entry_numbered copies n ≡ o → Right (ok_or o reply.NoEntry >>= f)
      by None at = refl
      by (Some e) at = h e at

  names_it : (n : ℕ) (e : Entry) (asked : Asked) → entry_numbered copies n ≡ Some e → asked.entry ≡ Some n → AskedOf asked.op e.pid → AskedRight copies asked
  names_it n e asked at named of m is = (e, ap (entry_numbered copies) (sym (same_some (sym named ∙ is))) ∙ at, of)

  getting_right : (n : ℕ) (word : List ℕ) → Right (getting S copies n word)
  getting_right n word =
      of_entry n _ (λ e at. fair_then Unfit (AskedRight copies) (read_member S e.pid word) _ (fair_or Unfit _ reply.NoMember refl) (λ place. names_it n e (by_entry n (Ask (Get e.pid place.number))) at refl refl))

  setting_right : (session : Session) (n : ℕ) (word : List ℕ) (rest : Rest) → Right (setting S session copies n word rest)
  setting_right session n word rest =
      of_entry n _ (λ e at. fair_then Unfit (AskedRight copies) (read_member S e.pid word) _ (fair_or Unfit _ reply.NoMember refl)
      (λ place. fair_then Unfit (AskedRight copies) (read_value place.member rest) _ (fair_value place.member rest)
      (λ v. fair_where Unfit (AskedRight copies) (is_read_only session) reply.ReadOnly _ refl (fair_where Unfit (AskedRight copies) place.member.readonly reply.ReadOnly (Ok (by_entry n (Set e.pid place.number v))) refl (names_it n e (by_entry n (Set e.pid place.number v)) at refl refl)))))

  following_right : (n : ℕ) (word : List ℕ) → Right (following S copies n word)
  following_right n word =
      of_entry n _ (λ e at. fair_then Unfit (AskedRight copies) (read_member S e.pid word) _ (fair_or Unfit _ reply.NoMember refl)
      (λ place. of_if Right (is_reference place.member.type) (Ok (record { op = Ask (Follow e.pid place.number); entry = Some n; obtains = true })) (Err reply.NotRef)
      (names_it n e (record { op = Ask (Follow e.pid place.number); entry = Some n; obtains = true }) at refl refl) refl))

  whether_right : (n : ℕ) → Right (asking_whether copies n)
  whether_right n = of_entry n _ (λ e at. names_none copies (only (Ask (Exists e.pid))) refl)

  destroying_right : (session : Session) (n : ℕ) → Right (destroying session copies n)
  destroying_right session n = of_entry n _ (λ e at. fair_where Unfit (AskedRight copies) (is_read_only session) reply.ReadOnly (Ok (only (Destroy e.pid))) refl (names_none copies (only (Destroy e.pid)) refl))

-- what a data command asks
record Asks (S : Schema) (k : Kept) (s : SessionNo) (session : Session) (command : Command) : Type 0 where
  asked : Result Asked Reply
  words : asks_for S k s session command ≡ Some asked
  right : Fair Unfit (AskedRight (copies_of k s)) asked

asks_is : (S : Schema) (k : Kept) (s : SessionNo) (session : Session) (command : Command) (name : List ℕ) → data_session command ≡ Some name → Asks S k s session command
asks_is S k s session (command.Create word home values) name is = record { asked = creating S k.next session home values; words = refl; right = creating_right S (copies_of k s) k.next session home values }
asks_is S k s session (command.Make word home factory values) name is = record { asked = making S k.next session home factory values; words = refl; right = making_right S (copies_of k s) k.next session home factory values }
asks_is S k s session (command.Find word home key values) name is = record { asked = finding S home key values >>= λ op. Ok (obtaining op); words = refl; right = finding_right S (copies_of k s) home key values obtaining (λ op. refl) }
asks_is S k s session (command.FindRef word home key values) name is = record { asked = finding S home key values >>= λ op. Ok (only op); words = refl; right = finding_right S (copies_of k s) home key values only (λ op. refl) }
asks_is S k s session (command.Pid word pid) name is = record { asked = Ok (obtaining (Ask (FindPid pid))); words = refl; right = names_none (copies_of k s) (obtaining (Ask (FindPid pid))) refl }
asks_is S k s session (command.Short word home serial) name is = record { asked = shortening S home serial; words = refl; right = home_right S (copies_of k s) home (λ h. obtaining (Ask (FindShort h serial))) (λ h. refl) }
asks_is S k s session (command.Exists word n) name is = record { asked = asking_whether (copies_of k s) n; words = refl; right = whether_right S (copies_of k s) n }
asks_is S k s session (command.Get word n member) name is = record { asked = getting S (copies_of k s) n member; words = refl; right = getting_right S (copies_of k s) n member }
asks_is S k s session (command.Set word n member value) name is = record { asked = setting S session (copies_of k s) n member value; words = refl; right = setting_right S (copies_of k s) session n member value }
asks_is S k s session (command.Destroy word n) name is = record { asked = destroying session (copies_of k s) n; words = refl; right = destroying_right S (copies_of k s) session n }
asks_is S k s session (command.Follow word n member) name is = record { asked = following S (copies_of k s) n member; words = refl; right = following_right S (copies_of k s) n member }
asks_is S k s session (command.Count word home) name is = record { asked = asking_of_home S home (λ h. Ask (Count h)); words = refl; right = home_right S (copies_of k s) home (λ h. only (Ask (Count h))) (λ h. refl) }
asks_is S k s session (command.List word home) name is = record { asked = asking_of_home S home (λ h. Ask (ListOf h)); words = refl; right = home_right S (copies_of k s) home (λ h. only (Ask (ListOf h))) (λ h. refl) }
asks_is S k s session command name is = absurd (none_some is)

-- ---- how the session sees what it used

-- who acts is the owner
acts_owner : (session : Session) (n : OwnerNo) → acts_for session ≡ Some n → owner_of session ≡ Some n
acts_owner session n e = by session.kind session.association e
  where
    by : (kind : Kind) (association : Association) → acts_for (record { name = session.name; kind = kind; access = session.access; association = association }) ≡ Some n
        → owner_of (record { name = session.name; kind = kind; access = session.access; association = association }) ≡ Some n
    by (Basic m) association e = e
    by Transactional (Active m) e = e
    by Transactional NoTransaction e = absurd cc
    by Transactional (Suspended m) e = absurd cc
    by Transactional (Ending m) e = absurd cc

-- the entry would be attached in this view
abbrev Sits : Catalog → View → Entry → Type 0
Sits M v e = is_attached (with_stand (stand_in M e.pid v) e) ≡ true

sits_in : (M : Catalog) (owners : Owners) (s : SessionNo) (session : Session) (n : OwnerNo) (owner : Owner) (e : Entry) → owner_of session ≡ Some n → get owners n.0 ≡ Some owner → (has_changed owner e.pid.serial ≡ false → There M e.pid) → Sits M (view_in owners s session e.pid) e
sits_in M owners s session n owner e belongs there h =
    subst (λ (v : View). Sits M v e) (sym (ap (λ o. given o (unchanged_in s session) (λ n. if is_changed_by owners n e.pid then Own n else unchanged_in s session)) belongs ∙ ap (λ o. if given o false (λ owner. has_changed owner e.pid.serial) then Own n else unchanged_in s session) there))
    (by (has_changed owner e.pid.serial) refl (is_basic session))
  where
    copied : (o : Option (List PlainValue)) → is_some o ≡ true → is_attached (with_stand (given o Loose Copied) e) ≡ true
    copied None some = absurd cc
    copied (Some values) some = refl

    by : (b : Bool) → has_changed owner e.pid.serial ≡ b → (c : Bool) → Sits M (if b then Own n else (if c then InCopy s else Committed)) e
    by true is c = refl
    by false is false = refl
    by false is true = copied (values_at M e.pid) (values_there M e.pid (h is))

-- an entry that is used is attached then
used_at : (M : Catalog) (seen : Pid → View) (m : ℕ) (c : Copies) (e : Entry) → entry_numbered c m ≡ Some e → (is_attached e ≡ false → Sits M (seen e.pid) e) → attached_in (at_entry m (attached M seen) c) m ≡ true
used_at M seen m c e at sits =
    ap (λ o. given o false is_attached) (numbered_map (λ e. if e.number == m then attached M seen e else e) (keeps_if (λ e. e.number == m) (attached M seen) (keeps_attached M seen)) m c.entries ∙ ap (option_map (λ e. if e.number == m then attached M seen e else e)) at)
    ∙ ap (λ b. is_attached (if b then attached M seen e else e)) (eq-eqb e.number m (has_number m c.entries e at))
    ∙ by (is_attached e) refl
  where
    by : (a : Bool) → is_attached e ≡ a → is_attached (if a then e else with_stand (stand_in M e.pid (seen e.pid)) e) ≡ true
    by true is = is
    by false is = sits is

-- ---- the entry for an object that is obtained

-- where numbers rise, an entry is found by its number
by_its_number : (low last : ℕ) (test : Entry → Bool) (es : List Entry) (e : Entry) → NumbersRise low last es → find test es ≡ Some e → (low < e.number) × (find (λ x. x.number == e.number) es ≡ Some e)
by_its_number low last test [] e rise is = absurd (none_some is)
by_its_number low last test (x ∷ es) e rise is = by (test x) is (by_its_number x.number last test es e rise.2)
  where
    apart : (a b : ℕ) → a < b → (a == b) ≡ false
    apart a b less = grind (arith, nat_tests)

    by : (b : Bool) → cond b (Some x) (find test es) ≡ Some e → (find test es ≡ Some e → (x.number < e.number) × (find (λ x. x.number == e.number) es ≡ Some e)) → (low < e.number) × (cond (x.number == e.number) (Some x) (find (λ x. x.number == e.number) es) ≡ Some e)
    by true is rest =
        let same : x ≡ e = same_some is in
        (subst (λ (y : Entry). low < y.number) same rise.0, ap (λ b. cond b (Some x) (find (λ x. x.number == e.number) es)) (eq-eqb x.number e.number (ap (λ (y : Entry). y.number) same)) ∙ ap Some same)
    by false is rest =
        let later : (x.number < e.number) × (find (λ x. x.number == e.number) es ≡ Some e) = rest is in
        (omega (arith, rise.0, later.0), ap (λ b. cond b (Some x) (find (λ x. x.number == e.number) es)) (apart x.number e.number later.0) ∙ later.1)

none_above : (low last n : ℕ) (es : List Entry) (new : Entry) → NumbersRise low last es → last < n → new.number ≡ n → find (λ x. x.number == n) (es ++ new ∷ []) ≡ Some new
none_above low last n [] new rise above is = ap (λ b. cond b (Some new) None) (eq-eqb new.number n is)
none_above low last n (x ∷ es) new rise above is = ap (λ b. cond b (Some x) (find (λ x. x.number == n) (es ++ new ∷ []))) (apart x.number n rise.1 above) ∙ none_above x.number last n es new rise.2 above is
  where
    apart : (a b : ℕ) → a ≤ last → last < b → (a == b) ≡ false
    apart a b le less = grind (arith, nat_tests)

of_pid : (p : Pid) (es : List Entry) (e : Entry) → find (λ x. same_pid x.pid p) es ≡ Some e → e.pid ≡ p
of_pid p [] e is = absurd (none_some is)
of_pid p (x ∷ es) e is = by (same_pid x.pid p) refl is (of_pid p es e)
  where
    by : (b : Bool) → same_pid x.pid p ≡ b → cond b (Some x) (find (λ x. same_pid x.pid p) es) ≡ Some e → (find (λ x. same_pid x.pid p) es ≡ Some e → e.pid ≡ p) → e.pid ≡ p
    by true same is rest = ap (λ (y : Entry). y.pid) (sym (same_some is)) ∙ pid_sound x.pid p same
    by false same is rest = rest is

obtained_entry : (p : Pid) (c : Copies) → AreOrderly c → (e : Entry) × (entry_numbered (obtained p c) (number_for c p) ≡ Some e) × (e.pid ≡ p)
obtained_entry p c right = by (entry_for c p) refl
  where
    new : Entry
    new = record { number = c.last + 1; pid = p; count = 1; stand = Loose }

    by : (o : Option Entry) → entry_for c p ≡ o
        → (e : Entry) × (entry_numbered (given o (record { last = c.last + 1; entries = c.entries ++ new ∷ [] }) (λ e. at_entry e.number (with_count (e.count + 1)) c)) (given o (c.last + 1) (λ e. e.number)) ≡ Some e) × (e.pid ≡ p)
    by None is = (new, none_above 0 c.last (c.last + 1) c.entries new right.numbers (omega arith) refl, refl)
    by (Some x) is =
        let at : find (λ y. y.number == x.number) c.entries ≡ Some x = (by_its_number 0 c.last (λ y. same_pid y.pid p) c.entries x right.numbers is).1 in (
          (if x.number == x.number then with_count (x.count + 1) x else x),
          numbered_map (λ e. if e.number == x.number then with_count (x.count + 1) e else e) (keeps_if (λ e. e.number == x.number) (with_count (x.count + 1)) (keeps_count (x.count + 1))) x.number c.entries ∙ ap (option_map (λ e. if e.number == x.number then with_count (x.count + 1) e else e)) at,
          (keeps_if (λ e. e.number == x.number) (with_count (x.count + 1)) (keeps_count (x.count + 1))).pid x ∙ of_pid p c.entries x is,
        )

number_named : (M : Catalog) (seen : Pid → View) (named : Option ℕ) (c : Copies) (p : Pid) → number_for (with_named M seen named c) p ≡ number_for c p
number_named M seen None c p = refl
number_named M seen (Some m) c p = same_number (λ e. if e.number == m then attached M seen e else e) (keeps_if (λ e. e.number == m) (attached M seen) (keeps_attached M seen)) c p

-- ---- what a reply tells of the answer

given_success : (told : Reply) (n : ℕ) → is_given told n ≡ true → is_success told ≡ true
given_success (reply.Entry entry pid) n e = refl
given_success told n e = absurd cc

used_success : (command : Command) (told : Reply) (n : ℕ) → is_used command told n ≡ true → is_success told ≡ true
used_success command told n e = by (is_obtaining command) (is_given told n) refl (given (named_entry command) false (λ m. m == n)) (is_success told) refl e
  where
    by : (a b : Bool) → is_given told n ≡ b → (c d : Bool) → is_success told ≡ d → ((a && b) || (c && d)) ≡ true → d ≡ true
    by a true is c d success e = sym success ∙ given_success told n is
    by true false is true d success e = e
    by true false is false d success e = absurd cc
    by false false is true d success e = e
    by false false is false d success e = absurd cc

success_done : (S : Schema) (k : Kept) (copies : Copies) (asked : Asked) (a : PlainAnswer) → is_success (reply_to S k copies asked a) ≡ true → is_done a ≡ true
success_done S k copies asked Done e = refl
success_done S k copies asked (Found p) e = refl
success_done S k copies asked (Val v) e = refl
success_done S k copies asked (IsThere b) e = absurd cc
success_done S k copies asked (Number n) e = absurd cc
success_done S k copies asked (Listing n pids) e = absurd cc
success_done S k copies asked NotFound e = absurd cc
success_done S k copies asked (Gone p) e = absurd cc
success_done S k copies asked Nil e = absurd cc
success_done S k copies asked (Duplicate key) e = absurd cc
success_done S k copies asked TooLarge e = absurd cc
success_done S k copies asked (Busy n) e = absurd cc

given_found : (S : Schema) (k : Kept) (copies : Copies) (asked : Asked) (a : PlainAnswer) (m : ℕ) → is_given (reply_to S k copies asked a) m ≡ true → (p : Pid) × (a ≡ Found p) × (number_for copies p ≡ m)
given_found S k copies asked (Found p) m e = by asked.obtains e
  where
    by : (b : Bool) → is_given (reply_to S k copies (record { op = asked.op; entry = asked.entry; obtains = b }) (Found p)) m ≡ true → (q : Pid) × (Found p ≡ Found q) × (number_for copies q ≡ m)
    by true e = (p, refl, eqb-true (number_for copies p) m e)
    by false e = absurd cc
given_found S k copies asked Done m e = absurd cc
given_found S k copies asked (Val v) m e = absurd cc
given_found S k copies asked (IsThere b) m e = absurd cc
given_found S k copies asked (Number n) m e = absurd cc
given_found S k copies asked (Listing n pids) m e = absurd cc
given_found S k copies asked NotFound m e = absurd cc
given_found S k copies asked (Gone p) m e = absurd cc
given_found S k copies asked Nil m e = absurd cc
given_found S k copies asked (Duplicate key) m e = absurd cc
given_found S k copies asked TooLarge m e = absurd cc
given_found S k copies asked (Busy n) m e = absurd cc

-- a reply with an entry tells of what was found
entry_found : (S : Schema) (k : Kept) (copies : Copies) (asked : Asked) (a : PlainAnswer) (m : ℕ) (p : Pid) → reply_to S k copies asked a ≡ reply.Entry m p → (a ≡ Found p) × (number_for copies p ≡ m) × (asked.obtains ≡ true)
entry_found S k copies asked (Found q) m p e = by asked.obtains refl e
  where
    by : (b : Bool) → asked.obtains ≡ b → reply_to S k copies (record { op = asked.op; entry = asked.entry; obtains = b }) (Found q) ≡ reply.Entry m p → (Found q ≡ Found p) × (number_for copies p ≡ m) × (asked.obtains ≡ true)
    by true is e =
        let same : q ≡ p = cc in
        let number : number_for copies q ≡ m = cc in
        (ap Found same, ap (number_for copies) (sym same) ∙ number, is)
    by false is e = absurd cc
entry_found S k copies asked Done m p e = absurd cc
entry_found S k copies asked (Val v) m p e = absurd cc
entry_found S k copies asked (IsThere b) m p e = absurd cc
entry_found S k copies asked (Number n) m p e = absurd cc
entry_found S k copies asked (Listing n pids) m p e = absurd cc
entry_found S k copies asked NotFound m p e = absurd cc
entry_found S k copies asked (Gone q) m p e = absurd cc
entry_found S k copies asked Nil m p e = absurd cc
entry_found S k copies asked (Duplicate key) m p e = absurd cc
entry_found S k copies asked TooLarge m p e = absurd cc
entry_found S k copies asked (Busy n) m p e = absurd cc

named_is : (named : Option ℕ) (m : ℕ) → given named false (λ j. j == m) ≡ true → named ≡ Some m
named_is None m e = absurd cc
named_is (Some j) m e = ap Some (eqb-true j m e)

-- ---- a step that did what was asked for

module _ (S : Schema) (limits : Limits) (k : Kept) (paired : PairedIn k) (all : (s : ℕ) (c : Copies) → get k.copies s ≡ Some c → AreOrderly c) (command : Command) (s : SessionNo) (m : ℕ) where
  -- the session has the entry for the object
  abbrev HasFor : Copies → Pid → Type 0
  HasFor c p = (e : Entry) × (entry_numbered c m ≡ Some e) × (e.pid ≡ p)

  abbrev Gives : Pid → Decision → Type 0
  Gives p d = Known S k command d.effect d.reply → d.reply ≡ reply.Entry m p → HasFor (copies_of (moved k d.effect) s) p

  abbrev Attaches : Decision → Type 0
  Attaches d = Known S k command d.effect d.reply → is_used command d.reply m ≡ true → is_attached_at (moved k d.effect) s m ≡ true

  module _ (n : OwnerNo) (owner : Owner) (asked : Asked) (there : get k.owners n.0 ≡ Some owner) (right : AskedRight (copies_of k s) asked) where
    abbrev step : Step
    step = step_of S k.catalog owner (copies_of k s) asked

    abbrev after : Owners
    after = owners_after k n (step_of S k.catalog owner (copies_of k s) asked)

    abbrev seen : Pid → View
    seen = seen_in (owners_after k n (step_of S k.catalog owner (copies_of k s) asked)) k.sessions s

    -- the entries of the session, those of outdated bodies detached
    abbrev left : Copies
    left = in_session k.owners k.sessions (is_outdated n (step_of S k.catalog owner (copies_of k s) asked)) s.0 (copies_of k s)

    owner_after : get (owners_after k n (step_of S k.catalog owner (copies_of k s) asked)) n.0 ≡ Some (stepped (step_of S k.catalog owner (copies_of k s) asked) owner)
    owner_after = with_here k.owners n.0 (stepped step) ∙ ap (option_map (stepped step)) there

    module _ (session : Session) (open_in : get k.sessions s.0 ≡ Some session) (acts : acts_for session ≡ Some n) where
      sees : (pid : Pid) → seen_in (owners_after k n (step_of S k.catalog owner (copies_of k s) asked)) k.sessions s pid ≡ view_in (owners_after k n (step_of S k.catalog owner (copies_of k s) asked)) s session pid
      sees pid = ap (λ o. given o Committed (λ session. view_in after s session pid)) open_in

      seats : (e : Entry) → (has_changed (stepped (step_of S k.catalog owner (copies_of k s) asked) owner) e.pid.serial ≡ false → There k.catalog e.pid) → Sits k.catalog (seen_in (owners_after k n (step_of S k.catalog owner (copies_of k s) asked)) k.sessions s e.pid) e
      seats e h = subst (λ (v : View). Sits k.catalog v e) (sym (sees e.pid)) (sits_in k.catalog after s session n (stepped step owner) e (acts_owner session n acts) owner_after h)

      left_orderly : AreOrderly (in_session k.owners k.sessions (is_outdated n (step_of S k.catalog owner (copies_of k s) asked)) s.0 (copies_of k s))
      left_orderly =
          of_given AreOrderly (get k.sessions s.0) (copies_of k s) _ (of_session (get k.copies s.0) refl)
          (λ x at. orderly.detached_orderly (body_in k.owners (record { 0 = s.0 }) x) (is_outdated n step (record { 0 = s.0 }) x) (copies_of k s) (of_session (get k.copies s.0) refl))
        where
          of_session : (o : Option Copies) → get k.copies s.0 ≡ o → AreOrderly (unwrap_or o no_copies)
          of_session None is = record { numbers = tt; pids = refl; counts = tt }
          of_session (Some c) is = all s.0 c is

      left_number : (p : Pid) → number_for (in_session k.owners k.sessions (is_outdated n (step_of S k.catalog owner (copies_of k s) asked)) s.0 (copies_of k s)) p ≡ number_for (copies_of k s) p
      left_number p =
          of_given (λ (d : Copies). number_for d p ≡ number_for (copies_of k s) p) (get k.sessions s.0) (copies_of k s) _ refl
          (λ x at. same_number (λ e. if is_attached e && is_outdated n step (record { 0 = s.0 }) x (body_in k.owners (record { 0 = s.0 }) x e.pid) then with_stand Loose e else e)
          (keeps_if (λ e. is_attached e && is_outdated n step (record { 0 = s.0 }) x (body_in k.owners (record { 0 = s.0 }) x e.pid)) (with_stand Loose) (keeps_stand (λ e. Loose))) (copies_of k s) p)

      loosen : Entry → Entry
      loosen e = if is_attached e && is_outdated n (step_of S k.catalog owner (copies_of k s) asked) (record { 0 = s.0 }) session (body_in k.owners (record { 0 = s.0 }) session e.pid) then with_stand Loose e else e

      left_entry : (e : Entry) → entry_numbered (copies_of k s) m ≡ Some e → entry_numbered (in_session k.owners k.sessions (is_outdated n (step_of S k.catalog owner (copies_of k s) asked)) s.0 (copies_of k s)) m ≡ Some (loosen e)
      unfolding loosen
      left_entry e at =
          ap (λ o. entry_numbered (given o (copies_of k s) (λ session. detached_from (body_in k.owners (record { 0 = s.0 }) session) (is_outdated n step (record { 0 = s.0 }) session) (copies_of k s))) m) open_in
          ∙ numbered_map (λ e. if is_attached e && is_outdated n step (record { 0 = s.0 }) session (body_in k.owners (record { 0 = s.0 }) session e.pid) then with_stand Loose e else e)
          (keeps_if (λ e. is_attached e && is_outdated n step (record { 0 = s.0 }) session (body_in k.owners (record { 0 = s.0 }) session e.pid)) (with_stand Loose) (keeps_stand (λ e. Loose))) m (copies_of k s).entries
          ∙ ap (option_map (λ e. if is_attached e && is_outdated n step (record { 0 = s.0 }) session (body_in k.owners (record { 0 = s.0 }) session e.pid) then with_stand Loose e else e)) at

      loosen_pid : (e : Entry) → (loosen e).pid ≡ e.pid
      unfolding loosen
      loosen_pid e = by (is_attached e && is_outdated n step (record { 0 = s.0 }) session (body_in k.owners (record { 0 = s.0 }) session e.pid))
        where
          by : (b : Bool) → (if b then with_stand Loose e else e).pid ≡ e.pid
          by true = refl
          by false = refl

      -- of questions nothing is outdated
      question_stays : (e : Entry) → is_question asked.op ≡ true → is_attached e ≡ true → is_attached (loosen e) ≡ true
      unfolding loosen
      question_stays e asks is = by (is_attached e) (is_outdated n step (record { 0 = s.0 }) session (body_in k.owners (record { 0 = s.0 }) session e.pid)) none
        where
          and_none : (b : Bool) → (b && false) ≡ false
          and_none true = refl
          and_none false = refl

          of_question : (op : PlainOp) → is_question op ≡ true → is_outdated n (record { op = op; answer = step.answer; needs = step.needs; own = step.own }) (record { 0 = s.0 }) session (body_in k.owners (record { 0 = s.0 }) session e.pid) ≡ false
          of_question (Ask q) asks = by_answer step.answer
            where
              by_answer : (a : PlainAnswer) → is_outdated n (record { op = Ask q; answer = a; needs = step.needs; own = step.own }) (record { 0 = s.0 }) session (body_in k.owners (record { 0 = s.0 }) session e.pid) ≡ false
              by_answer Done = and_none (is_owner n (owner_of session))
              by_answer (Found p) = and_none (is_owner n (owner_of session))
              by_answer (Val v) = and_none (is_owner n (owner_of session))
              by_answer (IsThere b) = and_none (is_owner n (owner_of session))
              by_answer (Number i) = and_none (is_owner n (owner_of session))
              by_answer (Listing i pids) = and_none (is_owner n (owner_of session))
              by_answer NotFound = and_none (is_owner n (owner_of session))
              by_answer (Gone p) = and_none (is_owner n (owner_of session))
              by_answer Nil = and_none (is_owner n (owner_of session))
              by_answer (Duplicate key) = and_none (is_owner n (owner_of session))
              by_answer TooLarge = and_none (is_owner n (owner_of session))
              by_answer (Busy i) = and_none (is_owner n (owner_of session))
          of_question (Create serial object) asks = absurd cc
          of_question (Set p i v) asks = absurd cc
          of_question (Destroy p) asks = absurd cc

          none : is_outdated n (step_of S k.catalog owner (copies_of k s) asked) (record { 0 = s.0 }) session (body_in k.owners (record { 0 = s.0 }) session e.pid) ≡ false
          none = of_question step.op (ap is_question (step_is S k.catalog owner (copies_of k s) asked).1 ∙ asks)

          by : (a b : Bool) → b ≡ false → is_attached (if a && b then with_stand Loose e else e) ≡ true
          by true true none = absurd cc
          by true false none = is
          by false b none = is

      -- the entry that was named
      named_used : asked.entry ≡ Some m → is_done step.answer ≡ true → attached_in (with_named k.catalog seen asked.entry left) m ≡ true
      named_used named does =
          let one : (e : Entry) × (entry_numbered (copies_of k s) m ≡ Some e) × AskedOf asked.op e.pid = right m named in
          ap (λ o. attached_in (with_named k.catalog seen o left) m) named
          ∙ used_at k.catalog seen m left (loosen one.0) (left_entry one.0 one.1) (sits one.0 one.1 one.2)
        where
          sits : (e : Entry) → entry_numbered (copies_of k s) m ≡ Some e → AskedOf asked.op e.pid → is_attached (loosen e) ≡ false → Sits k.catalog (seen_in (owners_after k n (step_of S k.catalog owner (copies_of k s) asked)) k.sessions s (loosen e).pid) (loosen e)
          sits e at of loose = seats (loosen e) (λ unchanged. by (named_seats S k.catalog owner (copies_of k s) asked m e named at of does (ap (λ (p : Pid). has_changed (stepped step owner) p.serial) (sym (loosen_pid e)) ∙ unchanged)))
            where
              by : (There k.catalog e.pid) ⊎ ((is_attached e ≡ true) × (is_question asked.op ≡ true)) → There k.catalog (loosen e).pid
              by (inl there) = subst (There k.catalog) (sym (loosen_pid e)) there
              by (inr copy) = absurd (true_false (question_stays e copy.1 copy.0) loose)

      -- the entry for what was found
      found_used : (p : Pid) → step.answer ≡ Found p → asked.obtains ≡ true → number_for (copies_of k s) p ≡ m → attached_in (with_found k.catalog seen asked.obtains step.answer (with_named k.catalog seen asked.entry left)) m ≡ true
      found_used p is obtains number =
          let named : Copies = with_named k.catalog seen asked.entry left in
          let one : (e : Entry) × (entry_numbered (obtained p named) (number_for named p) ≡ Some e) × (e.pid ≡ p) = obtained_entry p named (orderly.named_orderly k.catalog seen asked.entry left left_orderly) in
          let same : number_for named p ≡ m = number_named k.catalog seen asked.entry left p ∙ left_number p ∙ number in
          (λ i. attached_in (with_found k.catalog seen (obtains i) (is i) named) (sym same i))
          ∙ used_at k.catalog seen (number_for named p) (obtained p named) one.0 one.1 (λ loose. seats one.0 (λ unchanged. subst (There k.catalog) (sym one.2) (found_seats S k.catalog owner (copies_of k s) asked p is (ap (λ (q : Pid). has_changed (stepped step owner) q.serial) (sym one.2) ∙ unchanged))))

      -- and for which object it is
      found_for : (p : Pid) → step.answer ≡ Found p → asked.obtains ≡ true → number_for (copies_of k s) p ≡ m → HasFor (with_found k.catalog seen asked.obtains step.answer (with_named k.catalog seen asked.entry left)) p
      found_for p is obtains number =
          let named : Copies = with_named k.catalog seen asked.entry left in
          let one : (e : Entry) × (entry_numbered (obtained p named) (number_for named p) ≡ Some e) × (e.pid ≡ p) = obtained_entry p named (orderly.named_orderly k.catalog seen asked.entry left left_orderly) in
          let same : number_for named p ≡ m = number_named k.catalog seen asked.entry left p ∙ left_number p ∙ number in
          let keeps : Keeps (λ e. if e.number == number_for named p then attached k.catalog seen e else e) = keeps_if (λ e. e.number == number_for named p) (attached k.catalog seen) (keeps_attached k.catalog seen) in (
            (if one.0.number == number_for named p then attached k.catalog seen one.0 else one.0),
            (λ i. entry_numbered (with_found k.catalog seen (obtains i) (is i) named) (sym same i))
                ∙ numbered_map (λ e. if e.number == number_for named p then attached k.catalog seen e else e) keeps (number_for named p) (obtained p named).entries
                ∙ ap (option_map (λ e. if e.number == number_for named p then attached k.catalog seen e else e)) one.1,
            keeps.pid one.0 ∙ one.2,
          )

    -- the session's entries after the step
    copies_then : (session : Session) → get k.sessions s.0 ≡ Some session → is_done step.answer ≡ true
        → copies_of (moved k (Steps n s (step_of S k.catalog owner (copies_of k s) asked) asked)) s ≡ with_found k.catalog seen asked.obtains step.answer (with_named k.catalog seen asked.entry left)
    copies_then session open_at does = here (some_is (get k.copies s.0) (sym (paired.same s.0) ∙ ap is_some open_at))
      where
        here : (c : Copies) × (get k.copies s.0 ≡ Some c)
            → copies_of (moved k (Steps n s (step_of S k.catalog owner (copies_of k s) asked) asked)) s
            ≡ with_found k.catalog (seen_in (owners_after k n (step_of S k.catalog owner (copies_of k s) asked)) k.sessions s) asked.obtains (step_of S k.catalog owner (copies_of k s) asked).answer (with_named k.catalog (seen_in (owners_after k n (step_of S k.catalog owner (copies_of k s) asked)) k.sessions s) asked.entry (in_session k.owners k.sessions (is_outdated n (step_of S k.catalog owner (copies_of k s) asked)) s.0 (copies_of k s)))
        here one =
            ap (λ o. unwrap_or o no_copies)
            (with_here (detached k.owners k.sessions (is_outdated n step) k.copies) s.0 (seated k.catalog seen asked step.answer)
            ∙ ap (option_map (seated k.catalog seen asked step.answer)) (get_each (in_session k.owners k.sessions (is_outdated n step)) k.copies s.0 ∙ ap (option_map (in_session k.owners k.sessions (is_outdated n step) s.0)) one.1))
            ∙ ap (λ (d : Copies). seated k.catalog seen asked step.answer (in_session k.owners k.sessions (is_outdated n step) s.0 d)) (sym (ap (λ o. unwrap_or o no_copies) one.1))
            ∙ ap (λ b. if b then with_found k.catalog seen asked.obtains step.answer (with_named k.catalog seen asked.entry left) else left) does

    -- the step gives the entry of what it found
    step_gives : (p : Pid) → Gives p (does (Steps n s (step_of S k.catalog owner (copies_of k s) asked) asked) (reply_to S k (copies_of k s) asked (step_of S k.catalog owner (copies_of k s) asked).answer))
    step_gives p known told =
        let found : (step.answer ≡ Found p) × (number_for (copies_of k s) p ≡ m) × (asked.obtains ≡ true) = entry_found S k (copies_of k s) asked step.answer m p told in
        let open_at : get k.sessions s.0 ≡ Some known.session = found_there _ k.sessions (s.0, known.session) known.named in
        subst (λ (c : Copies). HasFor c p) (sym (copies_then known.session open_at (ap is_done found.0))) (found_for known.session open_at known.acts p found.0 found.2 found.1)

    -- the step attaches what it used
    step_attaches : Attaches (does (Steps n s (step_of S k.catalog owner (copies_of k s) asked) asked) (reply_to S k (copies_of k s) asked (step_of S k.catalog owner (copies_of k s) asked).answer))
    step_attaches known used =
        ap (λ (c : Copies). attached_in c m) (copies_then known.session open_at does_it)
        ∙ by (one_true (is_obtaining command && is_given (reply_to S k (copies_of k s) asked step.answer) m) (given (named_entry command) false (λ j. j == m) && is_success (reply_to S k (copies_of k s) asked step.answer)) used)
      where
        open_at : get k.sessions s.0 ≡ Some known.session
        open_at = found_there _ k.sessions (s.0, known.session) known.named

        does_it : is_done (step_of S k.catalog owner (copies_of k s) asked).answer ≡ true
        does_it = success_done S k (copies_of k s) asked step.answer (used_success command (reply_to S k (copies_of k s) asked step.answer) m used)

        by : ((is_obtaining command && is_given (reply_to S k (copies_of k s) asked (step_of S k.catalog owner (copies_of k s) asked).answer) m) ≡ true) ⊎ ((given (named_entry command) false (λ j. j == m) && is_success (reply_to S k (copies_of k s) asked (step_of S k.catalog owner (copies_of k s) asked).answer)) ≡ true)
            → attached_in (with_found k.catalog (seen_in (owners_after k n (step_of S k.catalog owner (copies_of k s) asked)) k.sessions s) asked.obtains (step_of S k.catalog owner (copies_of k s) asked).answer (with_named k.catalog (seen_in (owners_after k n (step_of S k.catalog owner (copies_of k s) asked)) k.sessions s) asked.entry (in_session k.owners k.sessions (is_outdated n (step_of S k.catalog owner (copies_of k s) asked)) s.0 (copies_of k s)))) m ≡ true
        by (inl given_it) =
            let two = both_true (is_obtaining command) (is_given (reply_to S k (copies_of k s) asked step.answer) m) given_it in
            let found : (p : Pid) × (step.answer ≡ Found p) × (number_for (copies_of k s) p ≡ m) = given_found S k (copies_of k s) asked step.answer m two.1 in
            found_used known.session open_at known.acts found.0 found.1 (known.obtains ∙ two.0) found.2
        by (inr named_it) =
            let two = both_true (given (named_entry command) false (λ j. j == m)) (is_success (reply_to S k (copies_of k s) asked step.answer)) named_it in
            let named : asked.entry ≡ Some m = known.entry ∙ named_is (named_entry command) m two.0 in
            found_stays k.catalog seen asked.obtains step.answer (with_named k.catalog seen asked.entry left) m (named_used known.session open_at known.acts named does_it)

  within_right : (owner : Owner) (r : Result Asked Reply) → Fair Unfit (AskedRight (copies_of k s)) r → Fair Unfit (AskedRight (copies_of k s)) (r >>= within limits k.next owner (copies_of k s))
  within_right owner (Err refusal) fair = fair
  within_right owner (Ok asked) fair =
      fair_where Unfit (AskedRight (copies_of k s)) (changes_further owner asked.op && nat_le limits.changes (len owner.changes)) reply.Many _ refl
      (fair_where Unfit (AskedRight (copies_of k s)) (is_create asked.op && k.next == 2 ^ 64 - 1) reply.Serials _ refl
      (fair_where Unfit (AskedRight (copies_of k s)) (asked.obtains && nat_le limits.entries (length (copies_of k s).entries)) reply.Entries (Ok asked) refl fair))

  decided_attaches : (actor : Actor) → get k.owners actor.number.0 ≡ Some actor.owner → (r : Result Asked Reply) → Fair Unfit (AskedRight (copies_of k s)) r → Attaches (decided S k s actor r)
  decided_attaches actor there (Err refusal) fair = λ known used. absurd (true_false (used_success command refusal m used) fair)
  decided_attaches actor there (Ok asked) fair =
      of_given Attaches (blocker k.owners actor.number (step_of S k.catalog actor.owner (copies_of k s) asked).needs)
      (does (Steps actor.number s (step_of S k.catalog actor.owner (copies_of k s) asked) asked) (reply_to S k (copies_of k s) asked (step_of S k.catalog actor.owner (copies_of k s) asked).answer))
      (λ b. says (reply_to S k (copies_of k s) asked (Busy b)))
      (step_attaches actor.number actor.owner asked there fair)
      (λ b held known used. absurd (true_false (used_success command (reply_to S k (copies_of k s) asked (Busy b)) m used) refl))

  decided_gives : (p : Pid) (actor : Actor) → get k.owners actor.number.0 ≡ Some actor.owner → (r : Result Asked Reply) → Fair Unfit (AskedRight (copies_of k s)) r → Gives p (decided S k s actor r)
  decided_gives p actor there (Err refusal) fair = λ known told. absurd (true_false (ap is_success told) fair)
  decided_gives p actor there (Ok asked) fair =
      of_given (Gives p) (blocker k.owners actor.number (step_of S k.catalog actor.owner (copies_of k s) asked).needs)
      (does (Steps actor.number s (step_of S k.catalog actor.owner (copies_of k s) asked) asked) (reply_to S k (copies_of k s) asked (step_of S k.catalog actor.owner (copies_of k s) asked).answer))
      (λ b. says (reply_to S k (copies_of k s) asked (Busy b)))
      (step_gives actor.number actor.owner asked there fair p)
      (λ b held known told. absurd cc)

  data_gives : (p : Pid) (session : Session) (r : Result Asked Reply) → Fair Unfit (AskedRight (copies_of k s)) r → Gives p (data_command S limits k s session r)
  data_gives p session r fair =
      of_given (Gives p) (actor_in k.owners session) (says reply.NoTx) (λ actor. decided S k s actor (r >>= within limits k.next actor.owner (copies_of k s))) (λ known told. absurd cc)
      (λ actor at. decided_gives p actor (actor_there S limits k session actor at) (r >>= within limits k.next actor.owner (copies_of k s)) (within_right actor.owner r fair))

  data_attaches : (session : Session) (r : Result Asked Reply) → Fair Unfit (AskedRight (copies_of k s)) r → Attaches (data_command S limits k s session r)
  data_attaches session r fair =
      of_given Attaches (actor_in k.owners session) (says reply.NoTx) (λ actor. decided S k s actor (r >>= within limits k.next actor.owner (copies_of k s)))
      (λ known used. absurd (true_false (used_success command reply.NoTx m used) refl))
      (λ actor at. decided_attaches actor (actor_there S limits k session actor at) (r >>= within limits k.next actor.owner (copies_of k s)) (within_right actor.owner r fair))

pub used_attached : UsedAreAttached
used_attached S limits M next lines command s m is used =
    let k : Kept = (run S limits (first M next) lines).kept in
    let asks : Asks S (run S limits (first M next) lines).kept s is.session command = asks_is S (run S limits (first M next) lines).kept s is.session command is.name is.in_session in
    subst (Attaches S limits (run S limits (first M next) lines).kept (run_paired S limits M next lines) (λ t c there. orderly.entries_are_orderly S limits M next lines t c there) command s m)
    (sym (decision_asks S limits (run S limits (first M next) lines).kept s is.session asks.asked is.name is.named command is.in_session asks.words))
    (data_attaches S limits (run S limits (first M next) lines).kept (run_paired S limits M next lines) (λ t c there. orderly.entries_are_orderly S limits M next lines t c there) command s m is.session asks.asked asks.right)
    (decision_seen S limits (run S limits (first M next) lines).kept command) used

pub given_for : GivenAreOfObject
given_for S limits M next lines command s m p is told =
    let asks : Asks S (run S limits (first M next) lines).kept s is.session command = asks_is S (run S limits (first M next) lines).kept s is.session command is.name is.in_session in
    subst (Gives S limits (run S limits (first M next) lines).kept (run_paired S limits M next lines) (λ t c there. orderly.entries_are_orderly S limits M next lines t c there) command s m p)
    (sym (decision_asks S limits (run S limits (first M next) lines).kept s is.session asks.asked is.name is.named command is.in_session asks.words))
    (data_gives S limits (run S limits (first M next) lines).kept (run_paired S limits M next lines) (λ t c there. orderly.entries_are_orderly S limits M next lines t c there) command s m p is.session asks.asked asks.right)
    (decision_seen S limits (run S limits (first M next) lines).kept command) told
