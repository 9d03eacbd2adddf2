-- Entries are attached only in open sessions, and only by commands that use them.
use Rattle.std.proofs.Common.{◌≡◌, ℕ, Bool, true, false, List, [], ◌∷◌, Option, Some, None, refl, sym, ap, ◌∙◌, subst, inl, inr}
use Rattle.std.specs.Prelude.{◌⊎◌, ◌||◌, is_some, unwrap_or, if◌then◌else◌}
use Rattle.std.specs.Option.{option_map}
use Rattle.std.specs.Ordering.{nat_cmp}
use Rattle.std.specs.FinMap.{get, insert, remove, get-empty}
use Rattle.std.proofs.lemmas.Bool.{eq-eqb}
use Rattle.pss_base.specs.declared.owner.OwnerNo.{OwnerNo}
use Rattle.pss_base.specs.declared.session.SessionNo.{SessionNo}
use Rattle.type_layout.specs.declared.schema.Schema.{Schema}
use Rattle.type_layout.specs.Schemas.{given}
use Rattle.pss_machine.specs.declared.limits.Limits.{Limits}
use Rattle.pss_machine.specs.declared.command.Command.{Command}
use Rattle.pss_machine.specs.declared.reply.Reply.{Reply}
use Rattle.pss_machine.specs.declared.session.Kind.{Kind}
use Rattle.pss_machine.specs.declared.session.Kind.TheVariants.{Basic, Transactional}
use Rattle.pss_machine.specs.declared.session.Association.{Association}
use Rattle.pss_machine.specs.declared.session.Association.TheVariants.{NoTransaction, Active, Suspended, Ending}
use Rattle.pss_machine.specs.Maps.{each, with_at}
use Rattle.pss_machine.specs.Owners.{Owners, net}
use Rattle.pss_machine.specs.Sessions.{Session, Sessions, is_basic, open_in, acts_for, with_association, without_transaction}
use Rattle.pss_machine.specs.Copies.{Copies, AllCopies, no_copies, Body, body_in, detached_from, detached}
use Rattle.pss_machine.specs.Kept.{Kept, copies_of}
use Rattle.pss_machine.specs.Effects.{Effect, Stays, OpensBasic, OpensTransactional, ClosesBasic, ClosesTransactional, Begins, Associates, Ends, Holds, Steps, Commits, Flushes, RollsBack}
use Rattle.pss_machine.specs.Deciding.{decision}
use Rattle.pss_machine.specs.Moving.{seated, seen_in, owners_after, is_outdated, is_in, is_session, is_settled, settled, moved}
use Rattle.pss_machine.specs.Run.{Said, Silent, Says, Wrong, Machine, first, turn, run}
use Rattle.pss_machine.specs.Attaching.{attached_in, is_open, OnlyOpenHaveAttached}
use Rattle.pss_machine.proofs.Cases.{of_given}
use Rattle.pss_machine.proofs.Maps.{get_each, same_or_apart, insert_here, insert_apart, remove_here, remove_apart, with_here, with_apart}
use Rattle.pss_machine.proofs.Found.{found_there}
use Rattle.pss_machine.proofs.Attached.{AttachesNone, none_detached, all_detached}
use Rattle.pss_machine.proofs.Acting.{Known, decision_seen}
use Rattle.pss_machine.proofs.Logic.{none_some, same_some, true_false}

-- ---- all sessions

-- the entry of a session with a number is attached
abbrev pub seated_at : AllCopies → ℕ → ℕ → Bool
seated_at all s n = attached_in (unwrap_or (get all s) no_copies) n

pub none_there : (n : ℕ) → attached_in no_copies n ≡ true → ⊥
none_there n e = cc

-- where an entry of the session is attached, it was before
abbrev pub NoneMore : AllCopies → AllCopies → ℕ → Type 0
NoneMore old new s = (n : ℕ) → seated_at new s n ≡ true → seated_at old s n ≡ true

each_none : (f : ℕ → Copies → Copies) → ((s : ℕ) (c : Copies) → AttachesNone c (f s c)) → (all : AllCopies) (s : ℕ) → NoneMore all (each f all) s
each_none f h all s n e = by (get all s) (ap (λ o. attached_in (unwrap_or o no_copies) n) (sym (get_each f all s)) ∙ e)
  where
    by : (o : Option Copies) → attached_in (unwrap_or (option_map (f s) o) no_copies) n ≡ true → attached_in (unwrap_or o no_copies) n ≡ true
    by None e = e
    by (Some c) e = h s c n e

module _ (owners : Owners) (sessions : Sessions) (test : SessionNo → Session → Body → Bool) where
  abbrev pub in_session : ℕ → Copies → Copies
  in_session s copies = given (get sessions s) copies (λ session. detached_from (body_in owners (record { 0 = s }) session) (test (record { 0 = s }) session) copies)

  pub detached_none : (all : AllCopies) (s : ℕ) → NoneMore all (detached owners sessions test all) s
  detached_none all s =
      each_none in_session
      (λ s c. of_given (AttachesNone c) (get sessions s) c (λ session. detached_from (body_in owners (record { 0 = s }) session) (test (record { 0 = s }) session) c) (λ n e. e)
      (λ session there. none_detached (body_in owners (record { 0 = s }) session) (test (record { 0 = s }) session) c)) all s

  -- where all bodies of a session pass the test, none of its entries stays attached
  pub left_none : (all : AllCopies) (s : ℕ) (session : Session) → get sessions s ≡ Some session → ((x : Body) → test (record { 0 = s }) session x ≡ true) → (n : ℕ) → seated_at (detached owners sessions test all) s n ≡ false
  left_none all s session there h n = ap (λ o. attached_in (unwrap_or o no_copies) n) (get_each in_session all s) ∙ by (get all s) (get sessions s) there
    where
      by : (o : Option Copies) (p : Option Session) → p ≡ Some session
          → attached_in (unwrap_or (option_map (λ copies. given p copies (λ session. detached_from (body_in owners (record { 0 = s }) session) (test (record { 0 = s }) session) copies)) o) no_copies) n ≡ false
      by None p is = refl
      by (Some c) None is = absurd (none_some is)
      by (Some c) (Some other) is =
          let same : session ≡ other = sym (same_some is) in
          all_detached (body_in owners (record { 0 = s }) other) (test (record { 0 = s }) other) (subst (λ (x : Session). (y : Body) → test (record { 0 = s }) x y ≡ true) same h) c n

-- ---- open sessions

record OpenAt (sessions : Sessions) (s : ℕ) : Type 0 where
  session : Session
  there : get sessions s ≡ Some session
  goes_on : is_open session ≡ true

abbrev Sitting : Sessions → AllCopies → Type 0
Sitting sessions all = (s n : ℕ) → seated_at all s n ≡ true → OpenAt sessions s

sit_less : (sessions : Sessions) (all less : AllCopies) → ((s : ℕ) → NoneMore all less s) → Sitting sessions all → Sitting sessions less
sit_less sessions all less h sit s n e = sit s n (h s n e)

sit_opened : (sessions : Sessions) (all : AllCopies) (i : ℕ) (x : Session) → Sitting sessions all → Sitting (insert sessions i x) (insert all i no_copies)
sit_opened sessions all i x sit s n e = by (same_or_apart s i)
  where
    by : ((s ≡ i) ⊎ (s ≡ i → ⊥)) → OpenAt (insert sessions i x) s
    by (inl same) = absurd (none_there n (sym (ap (λ o. attached_in (unwrap_or o no_copies) n) (ap (get (insert all i no_copies)) same ∙ insert_here all i no_copies)) ∙ e))
    by (inr apart) =
        let old : OpenAt sessions s = sit s n (sym (ap (λ o. attached_in (unwrap_or o no_copies) n) (insert_apart all i no_copies s apart)) ∙ e) in
        record { session = old.session; there = insert_apart sessions i x s apart ∙ old.there; goes_on = old.goes_on }

sit_closed : (sessions : Sessions) (all : AllCopies) (i : ℕ) → Sitting sessions all → Sitting (remove sessions i) (remove all i)
sit_closed sessions all i sit s n e = by (same_or_apart s i)
  where
    by : ((s ≡ i) ⊎ (s ≡ i → ⊥)) → OpenAt (remove sessions i) s
    by (inl same) = absurd (none_there n (sym (ap (λ o. attached_in (unwrap_or o no_copies) n) (ap (get (remove all i)) same ∙ remove_here all i)) ∙ e))
    by (inr apart) =
        let old : OpenAt sessions s = sit s n (sym (ap (λ o. attached_in (unwrap_or o no_copies) n) (remove_apart all i s apart)) ∙ e) in
        record { session = old.session; there = remove_apart sessions i s apart ∙ old.there; goes_on = old.goes_on }

-- a session that is associated otherwise, where its entries are detached or it stays open
sit_associated : (sessions : Sessions) (all less : AllCopies) (i : ℕ) (association : Association) → ((s : ℕ) → NoneMore all less s)
    → ((x : Session) (n : ℕ) → get sessions i ≡ Some x → seated_at less i n ≡ true → is_some (open_in association) ≡ true) → Sitting sessions all → Sitting (with_at sessions i (with_association association)) less
sit_associated sessions all less i association none h sit s n e = by (same_or_apart s i) (sit s n (none s n e))
  where
    or_true : (b : Bool) → (b || true) ≡ true
    or_true true = refl
    or_true false = refl

    by : ((s ≡ i) ⊎ (s ≡ i → ⊥)) → OpenAt sessions s → OpenAt (with_at sessions i (with_association association)) s
    by (inl same) old =
        let there : get sessions i ≡ Some old.session = ap (get sessions) (sym same) ∙ old.there in
        let opened : is_some (open_in association) ≡ true = h old.session n there (ap (λ s. seated_at less s n) (sym same) ∙ e) in
        record {
          session = with_association association old.session;
          there = ap (get (with_at sessions i (with_association association))) same ∙ with_here sessions i (with_association association) ∙ ap (option_map (with_association association)) there;
          goes_on = ap (λ b. is_basic old.session || b) opened ∙ or_true (is_basic old.session);
        }
    by (inr apart) old = record { session = old.session; there = with_apart sessions i (with_association association) s apart ∙ old.there; goes_on = old.goes_on }

sit_held : (k : Kept) (s : SessionNo) (copies : Copies) → AttachesNone (copies_of k s) copies → Sitting k.sessions k.copies → Sitting k.sessions (insert k.copies s.0 copies)
sit_held k s copies none sit = sit_less k.sessions k.copies (insert k.copies s.0 copies) (λ t n e. by t n (same_or_apart t s.0) e) sit
  where
    by : (t n : ℕ) → ((t ≡ s.0) ⊎ (t ≡ s.0 → ⊥)) → seated_at (insert k.copies s.0 copies) t n ≡ true → seated_at k.copies t n ≡ true
    by t n (inl same) e =
        ap (λ t. seated_at k.copies t n) same ∙ none n (sym (ap (λ o. attached_in (unwrap_or o no_copies) n) (ap (get (insert k.copies s.0 copies)) same ∙ insert_here k.copies s.0 copies)) ∙ e)
    by t n (inr apart) e = sym (ap (λ o. attached_in (unwrap_or o no_copies) n) (insert_apart k.copies s.0 copies t apart)) ∙ e

-- who acts is open
acts_open : (session : Session) (n : OwnerNo) → acts_for session ≡ Some n → is_open session ≡ true
acts_open session n e = by session.kind session.association e
  where
    by : (kind : Kind) (association : Association) → acts_for (record { name = session.name; kind = kind; access = session.access; association = association }) ≡ Some n
        → is_open (record { name = session.name; kind = kind; access = session.access; association = association }) ≡ true
    by (Basic m) association e = refl
    by Transactional (Active m) e = refl
    by Transactional NoTransaction e = absurd cc
    by Transactional (Suspended m) e = absurd cc
    by Transactional (Ending m) e = absurd cc

sit_stepped : (k : Kept) (s : SessionNo) (session : Session) (left : AllCopies) (seat : Copies → Copies) → get k.sessions s.0 ≡ Some session → is_open session ≡ true → ((t : ℕ) → NoneMore k.copies left t)
    → Sitting k.sessions k.copies → Sitting k.sessions (with_at left s.0 seat)
sit_stepped k s session left seat there opened none sit t n e = by (same_or_apart t s.0)
  where
    by : ((t ≡ s.0) ⊎ (t ≡ s.0 → ⊥)) → OpenAt k.sessions t
    by (inl same) = record { session = session; there = ap (get k.sessions) same ∙ there; goes_on = opened }
    by (inr apart) = sit t n (none t n (sym (ap (λ o. attached_in (unwrap_or o no_copies) n) (with_apart left s.0 seat t apart)) ∙ e))

-- a transaction goes: its sessions' entries are detached, and other sessions stay as they were
sit_without : (owners : Owners) (sessions : Sessions) (all : AllCopies) (n : OwnerNo) → Sitting sessions all
    → Sitting (each (λ s session. without_transaction n session) sessions) (detached owners sessions (λ s session body. is_in n session) all)
sit_without owners sessions all n sit s m e = by old (is_in n old.session) refl
  where
    old : OpenAt sessions s
    old = sit s m (detached_none owners sessions (λ s session body. is_in n session) all s m e)

    by : (old : OpenAt sessions s) (b : Bool) → is_in n old.session ≡ b → OpenAt (each (λ s session. without_transaction n session) sessions) s
    by old true is = absurd (true_false e (left_none owners sessions (λ s session body. is_in n session) all s old.session old.there (λ x. is) m))
    by old false is = record {
      session = without_transaction n old.session;
      there = get_each (λ s session. without_transaction n session) sessions s ∙ ap (option_map (without_transaction n)) old.there;
      goes_on = ap (λ b. is_open (with_association (if b then NoTransaction else old.session.association) old.session)) is ∙ old.goes_on;
    }

abbrev SittingIn : Kept → Type 0
SittingIn k = Sitting k.sessions k.copies

settled_sits : (k : Kept) (n : OwnerNo) → SittingIn k → SittingIn (settled k n)
settled_sits k n sit =
    of_given SittingIn (get k.owners n.0) k _ sit
    (λ owner there. sit_less k.sessions k.copies (detached k.owners k.sessions (is_settled n (net k.catalog owner)) k.copies) (detached_none k.owners k.sessions (is_settled n (net k.catalog owner)) k.copies) sit)

moved_sits : (S : Schema) (k : Kept) (command : Command) (effect : Effect) (reply : Reply) → Known S k command effect reply → SittingIn k → SittingIn (moved k effect)
moved_sits S k command Stays reply known sit = sit
moved_sits S k command (OpensBasic name access) reply known sit = sit_opened k.sessions k.copies k.next_session _ sit
moved_sits S k command (OpensTransactional name access) reply known sit = sit_opened k.sessions k.copies k.next_session _ sit
moved_sits S k command (ClosesBasic s n) reply known sit = sit_closed k.sessions k.copies s.0 sit
moved_sits S k command (ClosesTransactional s) reply known sit = sit_closed k.sessions k.copies s.0 sit
moved_sits S k command (Begins name level) reply known sit = sit
moved_sits S k command (Associates s association) reply known sit = sit_associated k.sessions k.copies k.copies s.0 association (λ s n e. e) (λ x n there e. known.1) sit
moved_sits S k command (Ends s n failed) reply known sit =
    sit_associated k.sessions k.copies (detached k.owners k.sessions (λ t session body. is_session s t) k.copies) s.0 (Ending n) (detached_none k.owners k.sessions (λ t session body. is_session s t) k.copies)
    (λ x m there e. absurd (true_false e (left_none k.owners k.sessions (λ t session body. is_session s t) k.copies s.0 x there (λ y. eq-eqb s.0 s.0 refl) m))) sit
moved_sits S k command (Holds s copies) reply known sit = sit_held k s copies known.1.attached sit
moved_sits S k command (Steps n s step asked) reply known sit =
    sit_stepped k s known.session (detached k.owners k.sessions (is_outdated n step) k.copies) (seated k.catalog (seen_in (owners_after k n step) k.sessions s) asked step.answer)
    (found_there _ k.sessions (s.0, known.session) known.named) (acts_open known.session n known.acts) (detached_none k.owners k.sessions (is_outdated n step) k.copies) sit
moved_sits S k command (Commits n) reply known sit = sit_without (settled k n).owners (settled k n).sessions (settled k n).copies n (settled_sits k n sit)
moved_sits S k command (Flushes n) reply known sit = settled_sits k n sit
moved_sits S k command (RollsBack n) reply known sit = sit_without k.owners k.sessions k.copies n sit

module _ (S : Schema) (limits : Limits) where
  turn_sits : (q : Machine) (x : Said) → SittingIn q.kept → SittingIn (turn S limits q x).kept
  turn_sits q Silent sit = sit
  turn_sits q (Wrong column) sit = sit
  turn_sits q (Says command) sit = moved_sits S q.kept command (decision S limits q.kept command).effect (decision S limits q.kept command).reply (decision_seen S limits q.kept command) sit

  run_sits : (q : Machine) (lines : List Said) → SittingIn q.kept → SittingIn (run S limits q lines).kept
  run_sits q [] sit = sit
  run_sits q (x ∷ lines) sit = run_sits (turn S limits q x) lines (turn_sits q x sit)

pub only_open : OnlyOpenHaveAttached
only_open S limits M next lines s n e =
    let at : OpenAt (run S limits (first M next) lines).kept.sessions s.0 =
    run_sits S limits (first M next) lines (λ s n e. absurd (none_there n (sym (ap (λ o. attached_in (unwrap_or o no_copies) n) (get-empty {X = Copies} nat_cmp s)) ∙ e))) s.0 n e in
    record { session = at.session; there = at.there; goes_on = at.goes_on }
