-- Sessions that are closed, and transactions that are rolled back.
use Rattle.std.proofs.Common.{ℕ, ◌≡◌, List, Option, Some, None, IsSome, refl, sym, ap, ◌∙◌, subst, inl, inr}
use Rattle.std.specs.Prelude.{◌⊎◌, true}
use Rattle.std.specs.FinMap.{get, remove}
use Rattle.pss_base.specs.declared.owner.OwnerNo.{OwnerNo}
use Rattle.pss_base.specs.declared.session.SessionNo.{SessionNo}
use Rattle.type_layout.specs.declared.schema.Schema.{Schema}
use Rattle.type_layout.specs.Schemas.{given}
use Rattle.pss_machine.specs.declared.command.Command.TheVariants as command
use Rattle.pss_machine.specs.declared.reply.Reply.TheVariants as reply
use Rattle.pss_machine.specs.declared.session.Association.{Association}
use Rattle.pss_machine.specs.declared.session.Association.TheVariants.{NoTransaction, Active, Suspended, Ending}
use Rattle.pss_machine.specs.declared.session.Kind.{Kind}
use Rattle.pss_machine.specs.declared.session.Kind.TheVariants.{Basic, Transactional}
use Rattle.pss_machine.specs.Owners.{Owner, is_basic}
use Rattle.pss_machine.specs.Sessions.{Session, Sessions, transaction_of, owner_of, is_basic as is_basic_session}
use Rattle.pss_machine.specs.Kept.{Kept, name_of, transaction_named}
use Rattle.pss_machine.specs.Effects.{RollsBack, does}
use Rattle.pss_machine.specs.Deciding.{decision, closing, associated}
use Rattle.pss_machine.specs.Moving.{moved, without_session, without_owner, without_transaction_of}
use Rattle.pss_machine.proofs.Logic.{none_some, same_some}
use Rattle.pss_machine.proofs.Maps.{same_or_apart, remove_here, remove_apart}
use Rattle.pss_session.specs.Meaning.{session_at}
use Rattle.owner_accounts.specs.declared.accounts.Accounts.{Accounts}
use Rattle.owner_accounts.specs.Accounts.{AreAccounts}
use Rattle.pss_copies.specs.Seats.{Attends}
use Rattle.pss_copies.specs.Ruled.{AreOwned}
use Rattle.pss_copies.specs.Stepped.{OwnsNone}
use Rattle.connector_parts.specs.declared.parts.Parts.{Parts}
use Rattle.pss_session.specs.declared.register.Found.{Found}
use Rattle.connector_parts.specs.Stands.{Stands, IsAt, StayAs, Comes}
use Rattle.connector_parts.specs.Found.{IsFound}
use Rattle.connector_parts.proofs.Decisions.{with_state, in_state, for_found, for_none, only_told, comes}
use Rattle.connector_parts.proofs.Bounds.{own_at}
use Rattle.connector_parts.proofs.Goings.{accounts_alike}
use Rattle.connector_parts.proofs.Named.{some_is}
use Rattle.session_calls.specs.Closings.{closes, MayClose}

-- ---- whose owner goes

of_basic : (x : Session) (n : OwnerNo) → x.kind ≡ Basic n → owner_of x ≡ Some n
of_basic x n kind = ap (λ (q : Kind). owner_of (with_state x q x.association)) kind

basic_is : (x : Session) (n : OwnerNo) → x.kind ≡ Basic n → is_basic_session x ≡ true
basic_is x n kind = ap (λ (q : Kind). is_basic_session (with_state x q x.association)) kind

kind_of : (x : Session) (n : OwnerNo) → owner_of x ≡ Some n → is_basic_session x ≡ true → x.kind ≡ Basic n
kind_of x n of basic = by x.kind of basic
  where
    by : (kind : Kind) → owner_of (with_state x kind x.association) ≡ Some n → is_basic_session (with_state x kind x.association) ≡ true → kind ≡ Basic n
    by (Basic m) of basic = ap Basic (same_some of)
    by Transactional of basic = absurd (cc)

-- where a basic session has gone, no other belongs to its owner
none_left : (k : Kept) (s : SessionNo) (session : Session) (n : OwnerNo) → AreOwned k.owners k.sessions k.next_owner → get k.sessions s.0 ≡ Some session → session.kind ≡ Basic n → OwnsNone (without_session k s) n
none_left k s session n own there kind t x left of = by (same_or_apart t s.0)
  where
    at : (t ≡ s.0 → ⊥) → get k.sessions t ≡ Some x
    at apart = sym (remove_apart k.sessions s.0 t apart) ∙ left

    by : ((t ≡ s.0) ⊎ (t ≡ s.0 → ⊥)) → ⊥
    by (inl is) = none_some (sym (ap (get (remove k.sessions s.0)) is ∙ remove_here k.sessions s.0) ∙ left)
    by (inr apart) =
        let one = own.each s.0 session n there (of_basic session n kind) in
        let other = own.each t x n (at apart) of in
        let same : other.owner ≡ one.owner = same_some (sym other.there ∙ one.there) in
        let basic : is_basic_session x ≡ true = sym other.kind ∙ ap (λ (z : Owner). is_basic z.level) same ∙ one.kind ∙ basic_is session n kind in
        apart (own.apart t s.0 x session n (at apart) there (kind_of x n of basic) kind)

-- ---- close

closed_by : (s : SessionNo) (kind : Kind) (k : Kept) (session : Session) (a : Association) → closing k s (with_state session kind a) ≡ given (transaction_of a) (does (closes s kind) reply.Done) (associated k)
closed_by s (Basic n) k session NoTransaction = refl
closed_by s Transactional k session NoTransaction = refl
closed_by s kind k session (Active n) = refl
closed_by s kind k session (Suspended n) = refl
closed_by s kind k session (Ending n) = refl

module _ (c : Parts) (k : Kept) (at : IsAt c k) (name : List ℕ) (found : Found) (is : IsFound k name found) where
  closing_as : (o : Option OwnerNo) → transaction_of found.standing.association ≡ o → decision c.schema c.limits k (command.Close name) ≡ given o (does (closes found.number found.standing.kind) reply.Done) (associated k)
  closing_as o in_it =
      in_state k name found is (closing k) found.standing.kind found.standing.association refl refl
      ∙ closed_by found.number found.standing.kind k is.session found.standing.association
      ∙ ap (λ (x : Option OwnerNo). given x (does (closes found.number found.standing.kind) reply.Done) (associated k)) in_it

  pub close_done : transaction_of found.standing.association ≡ None → (d : Parts) → StayAs c d → Stands d (moved k (closes found.number found.standing.kind)) → Comes c k (command.Close name) reply.Done d
  close_done in_it d stay stands = comes c d k (command.Close name) (closes found.number found.standing.kind) reply.Done (closing_as None in_it) stay stands

  pub close_held : (n : OwnerNo) → transaction_of found.standing.association ≡ Some n → Comes c k (command.Close name) (reply.Assoc (name_of k n)) c
  close_held n in_it = only_told c k at (command.Close name) (reply.Assoc (name_of k n)) (closing_as (Some n) in_it)

  pub may_close : MayClose c found.number found.standing.kind
  may_close = record { kept = k; at = at; session = is.session; there = is.there; kind_is = is.kind_is }

pub close_requires : (c : Parts) (s : SessionNo) (kind : Kind) (may : MayClose c s kind) → IsSome (session_at c.attended.sessions s)
close_requires c s kind may = some_is (session_at c.attended.sessions s) may.session (ap (λ (all : Sessions). get all s.0) may.at.stands.attended.sessions ∙ may.there)

module _ (c d : Parts) (stay : StayAs c d) (k : Kept) (at : IsAt c k) (s : SessionNo) (x : Session) (there : get k.sessions s.0 ≡ Some x) (kind : Kind) (kind_is : kind ≡ x.kind) where
  pub basic_closes : (n : OwnerNo) → kind ≡ Basic n → ((S : Schema) (j : Kept) → AreAccounts S c.accounts j → AreAccounts S d.accounts (without_owner j n)) → Attends (without_session k s) d.attended
      → ((j : Kept) (m : OwnerNo) → OwnsNone j m → Attends j d.attended → Attends (without_owner j m) d.attended) → Stands d (moved k (closes s kind))
  basic_closes n basic leaves attends goes =
      subst (λ (q : Kind). Stands d (moved k (closes s q))) (sym basic)
      (record {
        accounts = subst (λ (S : Schema). AreAccounts S d.accounts (moved k (closes s (Basic n)))) (sym stay.schema) (leaves c.schema (without_session k s) (accounts_alike c.schema c.accounts k (without_session k s) at.stands.accounts refl refl refl refl refl refl refl));
        attended = goes (without_session k s) n (none_left k s x n (own_at c k at) there (sym kind_is ∙ basic)) attends;
      })

  pub other_closes : kind ≡ Transactional → d.accounts ≡ c.accounts → Attends (without_session k s) d.attended → Stands d (moved k (closes s kind))
  other_closes other same attends =
      subst (λ (q : Kind). Stands d (moved k (closes s q))) (sym other)
      (record {
        accounts = subst (λ (S : Schema). AreAccounts S d.accounts (without_session k s)) (sym stay.schema)
            (subst (λ (a : Accounts). AreAccounts c.schema a (without_session k s)) (sym same) (accounts_alike c.schema c.accounts k (without_session k s) at.stands.accounts refl refl refl refl refl refl refl));
        attended = attends;
      })

-- ---- rollback

module _ (c : Parts) (k : Kept) (at : IsAt c k) (t : List ℕ) where
  pub rollback_done : (n : OwnerNo) → Some n ≡ transaction_named k t → (d : Parts) → StayAs c d → Stands d (without_transaction_of k n) → Comes c k (command.Rollback t) reply.Done d
  rollback_done n named d stay stands = comes c d k (command.Rollback t) (RollsBack n) reply.Done (for_found k t n named (λ m. does (RollsBack m) reply.Done)) stay stands

  pub rollback_none : None ≡ transaction_named k t → Comes c k (command.Rollback t) reply.NoTransaction c
  rollback_none none = only_told c k at (command.Rollback t) reply.NoTransaction (for_none k t none (λ m. does (RollsBack m) reply.Done))
