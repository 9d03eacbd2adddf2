-- What commits come to.
use Rattle.std.proofs.Common.{ℕ, ◌≡◌, List, Option, Some, None, Bool, true, false, refl, sym, ap, ◌∙◌, subst}
use Rattle.std.specs.Prelude.{not, find, if◌then◌else◌}
use Rattle.std.specs.Option.{option_map}
use Rattle.std.specs.FinMap.{get, entries}
use Rattle.pss_base.specs.declared.owner.OwnerNo.{OwnerNo}
use Rattle.pss_base.specs.declared.session.SessionNo.{SessionNo}
use Rattle.type_layout.specs.declared.schema.Schema.{Schema}
use Rattle.type_layout.specs.Schemas.{given}
use Rattle.pss_machine.specs.declared.limits.Limits.{Limits}
use Rattle.pss_machine.specs.declared.command.Command.{Command}
use Rattle.pss_machine.specs.declared.command.Command.TheVariants as command
use Rattle.pss_machine.specs.declared.reply.Reply.{Reply}
use Rattle.pss_machine.specs.declared.reply.Reply.TheVariants as reply
use Rattle.pss_machine.specs.declared.session.Kind.{Kind}
use Rattle.pss_machine.specs.declared.session.Kind.TheVariants.{Basic, Transactional}
use Rattle.pss_machine.specs.Owners.{Owner, is_basic}
use Rattle.pss_machine.specs.Sessions.{Session, is_owner, owner_of, open_in, first_open}
use Rattle.pss_machine.specs.Kept.{Kept, is_transaction, transaction_named}
use Rattle.pss_machine.specs.Effects.{Effect, Decision, Commits, Flushes, RollsBack, does, says}
use Rattle.pss_machine.specs.Deciding.{decision, is_over_full, is_marked, unless_full, committing, flushing}
use Rattle.pss_machine.specs.Moving.{moved, without_transaction_of}
use Rattle.pss_machine.proofs.Found.{found_there}
use Rattle.pss_machine.proofs.Logic.{none_some, same_some, true_false}
use Rattle.pss_session.specs.Meaning.{Meaning}
use Rattle.pss_session.specs.Meaning as standing
use Rattle.connector_parts.specs.declared.parts.Parts.{Parts}
use Rattle.pss_session.specs.declared.register.Found.{Found}
use Rattle.connector_parts.specs.Stands.{Stands, IsAt, StayAs, Comes}
use Rattle.connector_parts.specs.Found.{IsFound}
use Rattle.connector_parts.proofs.Decisions.{in_state, for_found, only_told, comes}
use Rattle.connector_parts.proofs.Bounds.{own_at}
use Rattle.commit_calls.specs.Ready.{MayMakeReady}
use Rattle.commit_calls.specs.Commits.{Follows}

-- ---- full, or not

pub unless_is : (S : Schema) (limits : Limits) (k : Kept) (n : OwnerNo) (owner : Owner) (e : Effect) (b : Bool) → get k.owners n.0 ≡ Some owner → is_over_full S limits k.catalog owner ≡ b → unless_full S limits k n e ≡ (if b then says reply.Full else does e reply.Done)
unless_is S limits k n owner e b there is =
    ap (λ (o : Option Owner). given o (says reply.Done) (λ owner. if is_over_full S limits k.catalog owner then says reply.Full else does e reply.Done)) there
    ∙ ap (λ (b : Bool). if b then says reply.Full else does e reply.Done) is

pub is_not : (a b c : Bool) → a ≡ not b → a ≡ not c → b ≡ c
is_not true true true p q = refl
is_not true false false p q = refl
is_not true false true p q = absurd (true_false p q)
is_not true true false p q = absurd (true_false q p)
is_not false true true p q = refl
is_not false false false p q = refl
is_not false false true p q = absurd (true_false p refl)
is_not false true false p q = absurd (true_false q refl)

module _ (c d : Parts) (k : Kept) (n : OwnerNo) (owner : Owner) (there : get k.owners n.0 ≡ Some owner) (e : Effect) (stay : StayAs c d) where
  -- the objects would weigh too much
  pub full_follows : false ≡ not (is_over_full c.schema c.limits k.catalog owner) → Stands d k → Follows c k (unless_full c.schema c.limits k n e) reply.Full d
  full_follows over stands =
      let is = unless_is c.schema c.limits k n owner e true there (is_not false (is_over_full c.schema c.limits k.catalog owner) true over refl) in
      record { reply_is = sym (ap (λ (x : Decision). x.reply) is); stay = stay; stands = subst (λ (x : Decision). Stands d (moved k x.effect)) (sym is) stands }

  -- they do not
  pub done_follows : true ≡ not (is_over_full c.schema c.limits k.catalog owner) → Stands d (moved k e) → Follows c k (unless_full c.schema c.limits k n e) reply.Done d
  done_follows under stands =
      let is = unless_is c.schema c.limits k n owner e false there (is_not true (is_over_full c.schema c.limits k.catalog owner) false under refl) in
      record { reply_is = sym (ap (λ (x : Decision). x.reply) is); stay = stay; stands = subst (λ (x : Decision). Stands d (moved k x.effect)) (sym is) stands }

-- what follows of a decision comes of its command
pub follows_comes : (c d : Parts) (k : Kept) (x : Command) (z : Decision) (r : Reply) → decision c.schema c.limits k x ≡ z → Follows c k z r d → Comes c k x r d
follows_comes c d k x z r is f = record { reply_is = f.reply_is ∙ sym (ap (λ (y : Decision). y.reply) is); stay = f.stay; stands = subst (λ (y : Decision). Stands d (moved k y.effect)) (sym is) f.stands }

-- ---- sessions that are still open

pub record Opened (k : Kept) (n : OwnerNo) (s : SessionNo) : Type 0 where
  pub session : Session
  pub there : get k.sessions s.0 ≡ Some session
  pub is : first_open k.sessions n ≡ Some session

-- the number of the first one is that of the first one
pub opened_is : (m : Meaning) (k : Kept) (n : OwnerNo) (s : SessionNo) → m.sessions ≡ k.sessions → Some s ≡ standing.first_open m n → Opened k n s
opened_is m k n s same is = by (find (λ e. is_owner n (open_in e.1.association)) (entries k.sessions)) refl (is ∙ ap (λ z. option_map {U = SessionNo} (λ e. record { 0 = e.0 }) (find (λ e. is_owner n (open_in e.1.association)) (entries z))) same)
  where
    by : (o : Option (ℕ × Session)) → find (λ e. is_owner n (open_in e.1.association)) (entries k.sessions) ≡ o → Some s ≡ option_map {U = SessionNo} (λ e. record { 0 = e.0 }) o → Opened k n s
    by None at e = absurd (none_some (sym e))
    by (Some e) at same =
        let number : s.0 ≡ e.0 = ap (λ (q : SessionNo). q.0) (same_some same) in
        record { session = e.1; there = ap (get k.sessions) number ∙ found_there (λ e. is_owner n (open_in e.1.association)) k.sessions e at; is = ap (option_map (λ e. e.1)) at }

-- where none has a number, none is open
pub none_opened : (m : Meaning) (k : Kept) (n : OwnerNo) → m.sessions ≡ k.sessions → None ≡ standing.first_open m n → first_open k.sessions n ≡ None
none_opened m k n same is = by (find (λ e. is_owner n (open_in e.1.association)) (entries k.sessions)) refl (is ∙ ap (λ z. option_map {U = SessionNo} (λ e. record { 0 = e.0 }) (find (λ e. is_owner n (open_in e.1.association)) (entries z))) same)
  where
    by : (o : Option (ℕ × Session)) → find (λ e. is_owner n (open_in e.1.association)) (entries k.sessions) ≡ o → None ≡ option_map {U = SessionNo} (λ e. record { 0 = e.0 }) o → option_map (λ (e : ℕ × Session). e.1) (find (λ e. is_owner n (open_in e.1.association)) (entries k.sessions)) ≡ None
    by None at e = ap (option_map (λ e. e.1)) at
    by (Some e) at same = absurd (none_some same)

-- ---- the commands

-- a transaction that is there
pub record Acts (k : Kept) (n : OwnerNo) : Type 0 where
  pub owner : Owner
  pub there : get k.owners n.0 ≡ Some owner
  pub level : is_basic owner.level ≡ false

pub acts_of : (k : Kept) (n : OwnerNo) → is_transaction k.owners n.0 ≡ true → Acts k n
acts_of k n tx = by (get k.owners n.0) refl tx
  where
    level_of : (b : Bool) → not b ≡ true → b ≡ false
    level_of true e = absurd (true_false e refl)
    level_of false e = refl

    by : (o : Option Owner) → get k.owners n.0 ≡ o → given o false (λ owner. not (is_basic owner.level)) ≡ true → Acts k n
    by None at e = absurd (true_false e refl)
    by (Some owner) at e = record { owner = owner; there = at; level = level_of (is_basic owner.level) e }

module _ (c : Parts) (k : Kept) (at : IsAt c k) (name : List ℕ) where
  module _ (n : OwnerNo) (named : Some n ≡ transaction_named k name) where
    pub committing_is : decision c.schema c.limits k (command.Commit name) ≡ committing c.schema c.limits k n
    committing_is = for_found k name n named (committing c.schema c.limits k)

    pub open_is : (session : Session) → first_open k.sessions n ≡ Some session → decision c.schema c.limits k (command.Commit name) ≡ says (reply.StillOpen session.name)
    open_is session opened =
        committing_is ∙ ap (λ (o : Option Session). given o (if is_marked k n then does (RollsBack n) reply.RolledBack else unless_full c.schema c.limits k n (Commits n)) (λ session. says (reply.StillOpen session.name))) opened

    pub still_open : (session : Session) → first_open k.sessions n ≡ Some session → Comes c k (command.Commit name) (reply.StillOpen session.name) c
    still_open session opened = only_told c k at (command.Commit name) (reply.StillOpen session.name) (open_is session opened)

    pub closed_is : first_open k.sessions n ≡ None → (b : Bool) → is_marked k n ≡ b → decision c.schema c.limits k (command.Commit name) ≡ (if b then does (RollsBack n) reply.RolledBack else unless_full c.schema c.limits k n (Commits n))
    closed_is closed b is =
        committing_is
        ∙ ap (λ (o : Option Session). given o (if is_marked k n then does (RollsBack n) reply.RolledBack else unless_full c.schema c.limits k n (Commits n)) (λ session. says (reply.StillOpen session.name))) closed
        ∙ ap (λ (b : Bool). if b then does (RollsBack n) reply.RolledBack else unless_full c.schema c.limits k n (Commits n)) is

    pub rolled_back : (d : Parts) → StayAs c d → first_open k.sessions n ≡ None → is_marked k n ≡ true → Stands d (without_transaction_of k n) → Comes c k (command.Commit name) reply.RolledBack d
    rolled_back d stay closed marked stands = comes c d k (command.Commit name) (RollsBack n) reply.RolledBack (closed_is closed true marked) stay stands

  module _ (found : Found) (is : IsFound k name found) where
    pub flush_of_other : found.standing.kind ≡ Transactional → Comes c k (command.Flush name) reply.Kind c
    flush_of_other kind = only_told c k at (command.Flush name) reply.Kind (in_state k name found is (λ s session. flushing c.schema c.limits k session) Transactional found.standing.association kind refl)

    pub basic_is : (n : OwnerNo) → found.standing.kind ≡ Basic n → decision c.schema c.limits k (command.Flush name) ≡ unless_full c.schema c.limits k n (Flushes n)
    basic_is n kind = in_state k name found is (λ s session. flushing c.schema c.limits k session) (Basic n) found.standing.association kind refl

    -- the owner of the session is there
    abbrev pub flush_ready : (n : OwnerNo) → found.standing.kind ≡ Basic n → MayMakeReady c n
    flush_ready n kind =
        let o = (own_at c k at).each found.number.0 is.session n is.there (ap (λ (q : Kind). owner_of (record { name = is.session.name; kind = q; access = is.session.access; association = is.session.association })) (sym is.kind_is ∙ kind)) in
        record { kept = k; at = at; owner = o.owner; there = o.there }

-- a transaction that is found is there
abbrev pub commit_ready : (c : Parts) (k : Kept) → IsAt c k → (n : OwnerNo) → is_transaction k.owners n.0 ≡ true → MayMakeReady c n
commit_ready c k at n tx = (let acts = acts_of k n tx in record { kept = k; at = at; owner = acts.owner; there = acts.there })
