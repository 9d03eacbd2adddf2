-- Sessions that are opened, and transactions that are begun.
use Rattle.std.proofs.Common.{ℕ, ◌≡◌, ◌<◌, ◌||◌, List, Option, Some, None, Bool, true, false, refl, sym, ap, ◌∙◌, subst, arith}
use Rattle.std.specs.Prelude.{is_some, nat_le, if◌then◌else◌}
use Rattle.pss_base.specs.declared.owner.OwnerNo.{OwnerNo}
use Rattle.pss_machine.specs.declared.level.Level.TheVariants as level
use Rattle.pss_machine.specs.declared.limits.Limits.{Limits}
use Rattle.pss_machine.specs.declared.session.Access.{Access}
use Rattle.pss_machine.specs.declared.session.Kind.TheVariants as kind
use Rattle.pss_machine.specs.declared.command.Command.TheVariants as command
use Rattle.pss_machine.specs.declared.reply.Reply.TheVariants as reply
use Rattle.pss_machine.specs.Owners.{is_basic}
use Rattle.pss_machine.specs.Sessions.{session_named}
use Rattle.pss_machine.specs.Kept.{Kept, is_in_use, transaction_named, transaction_count}
use Rattle.pss_machine.specs.Deciding.{beginning, level_of}
use Rattle.pss_machine.specs.Effects.{Begins, OpensBasic, does, says}
use Rattle.pss_machine.specs.Moving.{moved, with_owner, with_session}
use Rattle.owner_accounts.specs.Accounts.{AreAccounts}
use Rattle.pss_copies.specs.Seats.{Attends}
use Rattle.pss_copies.proofs.Associated.{comes_attends}
use Rattle.connector_parts.specs.declared.parts.Parts.{Parts}
use Rattle.connector_parts.specs.Stands.{Stands, IsAt, Comes}
use Rattle.connector_parts.proofs.Decisions.{comes}
use Rattle.connector_parts.proofs.Bounds.{own_at}
use Rattle.connector_parts.proofs.Goings.{accounts_alike}

-- nobody has a name that is not in use
pub unused : (k : Kept) (name : List ℕ) → is_in_use k name ≡ false → (session_named k.sessions name ≡ None) × (transaction_named k name ≡ None)
unused k name free = (none (session_named k.sessions name) (left _ _ free), none (transaction_named k name) (right _ _ free))
  where
    left : (a b : Bool) → (a || b) ≡ false → a ≡ false
    left true b e = absurd (cc)
    left false b e = refl

    right : (a b : Bool) → (a || b) ≡ false → b ≡ false
    right true b e = absurd (cc)
    right false b e = e

    none : {A : Type 0} (o : Option A) → is_some o ≡ false → o ≡ None
    none None e = refl
    none (Some x) e = absurd (cc)

pub is_level : (serializable : Bool) → is_basic (level_of serializable) ≡ false
is_level true = refl
is_level false = refl

-- a transaction is begun
pub begun : (limits : Limits) (k : Kept) (name : List ℕ) (s : Bool) → is_in_use k name ≡ false → nat_le limits.transactions (transaction_count k) ≡ false → beginning limits k name s ≡ does (Begins name (level_of s)) reply.Done
begun limits k name s free few =
    ap (λ (b : Bool). if b then says reply.Exists else if nat_le limits.transactions (transaction_count k) then says reply.Transactions else does (Begins name (level_of s)) reply.Done) free
    ∙ ap (λ (b : Bool). if b then says reply.Transactions else does (Begins name (level_of s)) reply.Done) few

module _ (c d : Parts) (k : Kept) (at : IsAt c k) (schema : d.schema ≡ c.schema) where
  -- a basic session, whose owner came first
  pub basic_opens : (name : List ℕ) (access : Access) (n : OwnerNo) → n.0 ≡ k.next_owner → AreAccounts c.schema d.accounts (with_owner k name level.Basic)
      → (Attends (with_owner k name level.Basic) c.attended → Attends (with_session (with_owner k name level.Basic) name (kind.Basic n) access) d.attended) → Stands d (moved k (OpensBasic name access))
  basic_opens name access n number accounts opens =
      let same : n ≡ record { 0 = k.next_owner } = ap (λ (m : ℕ). record { 0 = m }) number in
      let attends = subst (λ (m : OwnerNo). Attends (with_session (with_owner k name level.Basic) name (kind.Basic m) access) d.attended) same (opens (comes_attends k c.attended name level.Basic (own_at c k at) at.stands.attended)) in
      record {
        accounts = subst (λ S. AreAccounts S d.accounts (moved k (OpensBasic name access))) (sym schema) (accounts_alike c.schema d.accounts (with_owner k name level.Basic) (moved k (OpensBasic name access)) accounts refl refl refl refl refl refl refl);
        attended = record { sessions = attends.sessions; next = attends.next; seats = attends.seats };
      }

pub not_le : (a b : ℕ) → a < b → nat_le b a ≡ false
not_le a b less = grind (arith, less)

-- a transaction comes
pub begins : (c d : Parts) (k : Kept) → IsAt c k → d.schema ≡ c.schema → d.limits ≡ c.limits → d.attended ≡ c.attended → (name : List ℕ) (s : Bool) → is_in_use k name ≡ false → nat_le c.limits.transactions (transaction_count k) ≡ false
    → AreAccounts c.schema d.accounts (with_owner k name (level_of s)) → Comes c k (command.Begin name s) reply.Done d
begins c d k at schema limits attended name s free few accounts =
    comes c d k (command.Begin name s) (Begins name (level_of s)) reply.Done (begun c.limits k name s free few) (record { schema = schema; limits = limits })
    (record {
      accounts = subst (λ S. AreAccounts S d.accounts (with_owner k name (level_of s))) (sym schema) accounts;
      attended = subst (Attends (with_owner k name (level_of s))) (sym attended) (comes_attends k c.attended name (level_of s) (own_at c k at) at.stands.attended);
    })
