-- Sessions that start, are suspended, or end their part.
use Rattle.std.proofs.Common.{ℕ, ◌≡◌, ◌==◌, Bool, true, false, not, List, Option, Some, None, IsSome, refl, sym, ap, ◌∙◌, subst, inl, inr}
use Rattle.std.specs.Prelude.{◌⊎◌, IsSomeAnd, if◌then◌else◌}
use Rattle.std.specs.FinMap.{get}
use Rattle.std.proofs.lemmas.Bool.{eqb-true}
use Rattle.pss_base.specs.declared.owner.OwnerNo.{OwnerNo}
use Rattle.pss_base.specs.declared.session.SessionNo.{SessionNo}
use Rattle.type_layout.specs.Schemas.{given}
use Rattle.pss_machine.specs.declared.command.Command.TheVariants as command
use Rattle.pss_machine.specs.declared.reply.Reply.TheVariants as reply
use Rattle.pss_machine.specs.declared.session.Association.{Association}
use Rattle.pss_machine.specs.declared.session.Association.TheVariants.{NoTransaction, Active, Suspended, Ending}
use Rattle.pss_machine.specs.declared.session.Kind.{Kind}
use Rattle.pss_machine.specs.declared.session.Kind.TheVariants.{Basic, Transactional}
use Rattle.pss_machine.specs.Sessions.{Session, Sessions, active_in, open_in, transaction_of, owner_of}
use Rattle.pss_machine.specs.Kept.{Kept, name_of, transaction_named}
use Rattle.pss_machine.specs.Effects.{Decision, Associates, Ends, does, says}
use Rattle.pss_machine.specs.Deciding.{decision, starting, suspending, ending, associated, for_transaction}
use Rattle.pss_machine.specs.Moving.{moved, ended}
use Rattle.pss_session.specs.Meaning.{session_at, MayStart}
use Rattle.owner_titles.proofs.Tables.{passes}
use Rattle.owner_accounts.specs.Steps.{IsOwner}
use Rattle.pss_copies.specs.declared.parts.Parts.{Parts as Attending}
use Rattle.pss_copies.specs.Seats.{Attends}
use Rattle.connector_parts.specs.declared.parts.Parts.{Parts}
use Rattle.pss_session.specs.declared.register.Found.{Found}
use Rattle.connector_parts.specs.Stands.{Stands, IsAt, StayAs, Comes}
use Rattle.connector_parts.specs.Found.{IsFound}
use Rattle.connector_parts.proofs.Decisions.{with_state, in_found, in_state, for_found, for_none, only_told, comes}
use Rattle.connector_parts.proofs.Bounds.{own_at}
use Rattle.session_calls.specs.Starts.{held_by}
use Rattle.session_calls.specs.Endings.{MayEnd}
use Rattle.session_calls.proofs.Moves.{with_attended, stays_as, sessions_move, in_attended}

-- ---- by the transaction of the association

held_or : (t : Bool) (m : OwnerNo) (d : Decision) (f : OwnerNo → Decision) → (if t then d else f m) ≡ given (if t then None else Some m) d f
held_or true m d f = refl
held_or false m d f = refl

started : (k : Kept) (s : SessionNo) (session : Session) (n : OwnerNo) (a : Association) → starting k s (with_state session Transactional a) n ≡ given (held_by n a) (does (Associates s (Active n)) reply.Done) (associated k)
started k s session n NoTransaction = refl
started k s session n (Active m) = refl
started k s session n (Suspended m) = held_or (m.0 == n.0) m (does (Associates s (Active n)) reply.Done) (associated k)
started k s session n (Ending m) = refl

suspended : (s : SessionNo) (session : Session) (a : Association) → suspending s (with_state session Transactional a) ≡ given (active_in a) (says reply.NoTx) (λ n. does (Associates s (Suspended n)) reply.Done)
suspended s session NoTransaction = refl
suspended s session (Active m) = refl
suspended s session (Suspended m) = refl
suspended s session (Ending m) = refl

part_done : (s : SessionNo) (session : Session) (ok : Bool) (a : Association) → ending s (with_state session Transactional a) ok ≡ given (open_in a) (says reply.NoTx) (λ n. does (Ends s n (not ok)) reply.Done)
part_done s session ok NoTransaction = refl
part_done s session ok (Active m) = refl
part_done s session ok (Suspended m) = refl
part_done s session ok (Ending m) = refl

open_is_in : (a : Association) (n : OwnerNo) → open_in a ≡ Some n → transaction_of a ≡ Some n
open_is_in NoTransaction n e = absurd (cc)
open_is_in (Active m) n e = e
open_is_in (Suspended m) n e = e
open_is_in (Ending m) n e = absurd (cc)

free_to_start : (n : OwnerNo) (a : Association) → held_by n a ≡ None → (a ≡ NoTransaction) ⊎ (a ≡ Suspended n)
free_to_start n NoTransaction e = inl refl
free_to_start n (Active m) e = absurd (cc)
free_to_start n (Suspended m) e = by (m.0 == n.0) refl e
  where
    by : (t : Bool) → (m.0 == n.0) ≡ t → (if t then None else Some m) ≡ None → (Suspended m ≡ NoTransaction) ⊎ (Suspended m ≡ Suspended n)
    by true is e = inr (ap (λ (i : ℕ). Suspended (record { 0 = i })) (eqb-true m.0 n.0 is))
    by false is e = absurd (cc)
free_to_start n (Ending m) e = absurd (cc)

-- ---- start, suspend

module _ (c : Parts) (k : Kept) (at : IsAt c k) (name : List ℕ) (found : Found) (is : IsFound k name found) (tx : found.standing.kind ≡ Transactional) where
  pub may_start : (n : OwnerNo) → held_by n found.standing.association ≡ None → IsSomeAnd (session_at c.attended.sessions found.number) (MayStart n)
  may_start n free =
      subst (λ (o : Option Session). IsSomeAnd o (MayStart n)) (sym (in_attended c k at.stands name found is))
      (sym is.kind_is ∙ tx, free_to_start n is.session.association (ap (held_by n) (sym is.association_is) ∙ free))

  pub may_be : (f : Association → Option OwnerNo) (n : OwnerNo) → f found.standing.association ≡ Some n → IsSomeAnd (session_at c.attended.sessions found.number) (λ x. IsSome (f x.association))
  may_be f n with_it =
      subst (λ (o : Option Session). IsSomeAnd o (λ x. IsSome (f x.association))) (sym (in_attended c k at.stands name found is))
      (subst (λ (o : Option OwnerNo). IsSome o) (sym (ap f (sym is.association_is) ∙ with_it)) refl)

  starting_as : (t : List ℕ) (n : OwnerNo) → Some n ≡ transaction_named k t → (o : Option OwnerNo) → held_by n found.standing.association ≡ o
      → decision c.schema c.limits k (command.Start name t) ≡ given o (does (Associates found.number (Active n)) reply.Done) (associated k)
  starting_as t n named o held =
      in_state k name found is (λ s session. for_transaction k t (starting k s session)) Transactional found.standing.association tx refl
      ∙ for_found k t n named (starting k found.number (with_state is.session Transactional found.standing.association))
      ∙ started k found.number is.session n found.standing.association
      ∙ ap (λ (x : Option OwnerNo). given x (does (Associates found.number (Active n)) reply.Done) (associated k)) held

  pub start_done : (t : List ℕ) (n : OwnerNo) → Some n ≡ transaction_named k t → held_by n found.standing.association ≡ None → (a : Attending) → Attends (moved k (Associates found.number (Active n))) a → Comes c k (command.Start name t) reply.Done (with_attended c a)
  start_done t n named held a attends =
      comes c (with_attended c a) k (command.Start name t) (Associates found.number (Active n)) reply.Done (starting_as t n named None held) (stays_as c a)
      (sessions_move c k at.stands a (moved k (Associates found.number (Active n))).sessions k.copies attends)

  pub start_held : (t : List ℕ) (n : OwnerNo) → Some n ≡ transaction_named k t → (m : OwnerNo) → held_by n found.standing.association ≡ Some m → Comes c k (command.Start name t) (reply.Assoc (name_of k m)) c
  start_held t n named m held = only_told c k at (command.Start name t) (reply.Assoc (name_of k m)) (starting_as t n named (Some m) held)

  suspending_as : (o : Option OwnerNo) → active_in found.standing.association ≡ o → decision c.schema c.limits k (command.Suspend name) ≡ given o (says reply.NoTx) (λ n. does (Associates found.number (Suspended n)) reply.Done)
  suspending_as o active =
      in_state k name found is suspending Transactional found.standing.association tx refl
      ∙ suspended found.number is.session found.standing.association
      ∙ ap (λ (x : Option OwnerNo). given x (says reply.NoTx) (λ n. does (Associates found.number (Suspended n)) reply.Done)) active

  pub suspend_done : (n : OwnerNo) → active_in found.standing.association ≡ Some n → (a : Attending) → Attends (moved k (Associates found.number (Suspended n))) a → Comes c k (command.Suspend name) reply.Done (with_attended c a)
  suspend_done n active a attends =
      comes c (with_attended c a) k (command.Suspend name) (Associates found.number (Suspended n)) reply.Done (suspending_as (Some n) active) (stays_as c a)
      (sessions_move c k at.stands a (moved k (Associates found.number (Suspended n))).sessions k.copies attends)

  pub suspend_not : active_in found.standing.association ≡ None → Comes c k (command.Suspend name) reply.NoTx c
  suspend_not active = only_told c k at (command.Suspend name) reply.NoTx (suspending_as None active)

  ending_as : (ok : Bool) (o : Option OwnerNo) → open_in found.standing.association ≡ o → decision c.schema c.limits k (command.End name ok) ≡ given o (says reply.NoTx) (λ n. does (Ends found.number n (not ok)) reply.Done)
  ending_as ok o open_with =
      in_state k name found is (λ s session. ending s session ok) Transactional found.standing.association tx refl
      ∙ part_done found.number is.session ok found.standing.association
      ∙ ap (λ (x : Option OwnerNo). given x (says reply.NoTx) (λ n. does (Ends found.number n (not ok)) reply.Done)) open_with

  pub end_done : (ok : Bool) (n : OwnerNo) → open_in found.standing.association ≡ Some n → (d : Parts) → StayAs c d → Stands d (ended k found.number n (not ok)) → Comes c k (command.End name ok) reply.Done d
  end_done ok n open_with d stay stands = comes c d k (command.End name ok) (Ends found.number n (not ok)) reply.Done (ending_as ok (Some n) open_with) stay stands

  pub end_not : (ok : Bool) → open_in found.standing.association ≡ None → Comes c k (command.End name ok) reply.NoTx c
  end_not ok open_with = only_told c k at (command.End name ok) reply.NoTx (ending_as ok None open_with)

  pub may_end : (n : OwnerNo) → open_in found.standing.association ≡ Some n → MayEnd c found.number n
  may_end n open_with = record {
    kept = k;
    at = at;
    session = is.session;
    there = is.there;
    kind = sym is.kind_is ∙ tx;
    open_with = ap open_in (sym is.association_is) ∙ open_with;
  }

-- ---- the session is basic, or there is no transaction

module _ (c : Parts) (k : Kept) (at : IsAt c k) (name : List ℕ) (found : Found) (is : IsFound k name found) where
  pub start_none : (t : List ℕ) → None ≡ transaction_named k t → Comes c k (command.Start name t) reply.NoTransaction c
  start_none t none =
      only_told c k at (command.Start name t) reply.NoTransaction
      (in_found k name found is (λ s session. for_transaction k t (starting k s session)) ∙ for_none k t none (starting k found.number is.session))

  pub start_basic : (t : List ℕ) (n m : OwnerNo) → Some n ≡ transaction_named k t → found.standing.kind ≡ Basic m → Comes c k (command.Start name t) reply.Kind c
  start_basic t n m named basic =
      only_told c k at (command.Start name t) reply.Kind
      (in_state k name found is (λ s session. for_transaction k t (starting k s session)) (Basic m) found.standing.association basic refl ∙ for_found k t n named (starting k found.number (with_state is.session (Basic m) found.standing.association)))

  pub suspend_basic : (m : OwnerNo) → found.standing.kind ≡ Basic m → Comes c k (command.Suspend name) reply.Kind c
  suspend_basic m basic = only_told c k at (command.Suspend name) reply.Kind (in_state k name found is suspending (Basic m) found.standing.association basic refl)

  pub end_basic : (ok : Bool) (m : OwnerNo) → found.standing.kind ≡ Basic m → Comes c k (command.End name ok) reply.Kind c
  end_basic ok m basic = only_told c k at (command.End name ok) reply.Kind (in_state k name found is (λ s session. ending s session ok) (Basic m) found.standing.association basic refl)

-- ---- a part that ends

module _ (c : Parts) (s : SessionNo) (n : OwnerNo) (may : MayEnd c s n) where
  pub end_there : session_at c.attended.sessions s ≡ Some may.session
  end_there = ap (λ (all : Sessions). get all s.0) may.at.stands.attended.sessions ∙ may.there

  pub end_requires : IsSomeAnd (session_at c.attended.sessions s) (λ x. IsSome (open_in x.association))
  end_requires =
      subst (λ (o : Option Session). IsSomeAnd o (λ x. IsSome (open_in x.association))) (sym end_there)
      (subst (λ (o : Option OwnerNo). IsSome o) (sym may.open_with) refl)

  -- what is said of the part that ends
  pub end_says : (P : OwnerNo → Type 0) → IsSomeAnd (session_at c.attended.sessions s) (λ x. IsSomeAnd (open_in x.association) P) → P n
  end_says P h = passes P (open_in may.session.association) n may.open_with (passes (λ (x : Session). IsSomeAnd (open_in x.association) P) (session_at c.attended.sessions s) may.session end_there h)

  pub mark_requires : IsOwner c.schema c.accounts n
  mark_requires =
      let of : owner_of may.session ≡ Some n = ap (λ (kind : Kind). owner_of (with_state may.session kind may.session.association)) may.kind ∙ open_is_in may.session.association n may.open_with in
      let o = (own_at c may.kept may.at).each s.0 may.session n may.there of in
      record { limits = c.limits; kept = may.kept; reached = may.at.reached; are = may.at.stands.accounts; owner = o.owner; there = o.there }
