-- Sessions, and the owners that they act for.
use Rattle.std.specs.Prelude.{ℕ, List, find, Option, Some, None, Bool, true, false, ◌==◌, if◌then◌else◌}
use Rattle.std.specs.Option.{option_map}
use Rattle.std.specs.Ordering.{nat_cmp}
use Rattle.std.specs.FinMap.{FinMap, entries}
use Rattle.std.specs.Str.{bytes_eq}
use Rattle.pss_base.specs.declared.owner.OwnerNo.{OwnerNo}
use Rattle.type_layout.specs.Schemas.{given}
use Rattle.pss_machine.specs.declared.session.Kind.{Kind}
use Rattle.pss_machine.specs.declared.session.Kind.TheVariants.{Basic, Transactional}
use Rattle.pss_machine.specs.declared.session.Access.{Access}
use Rattle.pss_machine.specs.declared.session.Access.TheVariants.{ReadOnly, ReadWrite}
use Rattle.pss_machine.specs.declared.session.Association.{Association}
use Rattle.pss_machine.specs.declared.session.Association.TheVariants.{NoTransaction, Active, Suspended, Ending}
use Rattle.pss_machine.specs.declared.session.StateName.{StateName}
use Rattle.pss_machine.specs.declared.session.StateName.TheVariants as state

pub record Session : Type 0 where
  pub name : List ℕ
  pub kind : Kind
  pub access : Access
  pub association : Association

-- the sessions by number, which is the order in which they were opened
abbrev pub Sessions : Type 0
Sessions = FinMap nat_cmp Session

abbrev pub is_basic : Session → Bool
is_basic session = of_kind session.kind
  where
    of_kind : Kind → Bool
    of_kind (Basic n) = true
    of_kind Transactional = false

abbrev pub is_read_only : Session → Bool
is_read_only session = of_access session.access
  where
    of_access : Access → Bool
    of_access ReadOnly = true
    of_access ReadWrite = false

-- the transaction of an association
abbrev pub transaction_of : Association → Option OwnerNo
transaction_of NoTransaction = None
transaction_of (Active n) = Some n
transaction_of (Suspended n) = Some n
transaction_of (Ending n) = Some n

-- the transaction that data commands are done for
abbrev pub active_in : Association → Option OwnerNo
active_in NoTransaction = None
active_in (Active n) = Some n
active_in (Suspended n) = None
active_in (Ending n) = None

-- the transaction whose commit waits for the session's end
abbrev pub open_in : Association → Option OwnerNo
open_in NoTransaction = None
open_in (Active n) = Some n
open_in (Suspended n) = Some n
open_in (Ending n) = None

abbrev pub state_of : Association → StateName
state_of NoTransaction = state.NoTransaction
state_of (Active n) = state.Active
state_of (Suspended n) = state.Suspended
state_of (Ending n) = state.Ending

-- the owner that a session belongs to: itself where it is basic, else its transaction
abbrev pub owner_of : Session → Option OwnerNo
owner_of session = by_kind session.kind
  where
    by_kind : Kind → Option OwnerNo
    by_kind (Basic n) = Some n
    by_kind Transactional = transaction_of session.association

-- the owner that its data commands are done for, where they may be
abbrev pub acts_for : Session → Option OwnerNo
acts_for session = by_kind session.kind
  where
    by_kind : Kind → Option OwnerNo
    by_kind (Basic n) = Some n
    by_kind Transactional = active_in session.association

-- it is this owner
abbrev pub is_owner : OwnerNo → Option OwnerNo → Bool
is_owner n found = given found false (λ m. m.0 == n.0)

-- the least session that is active or suspended with a transaction
abbrev pub first_open : Sessions → OwnerNo → Option Session
first_open sessions n = option_map (λ e. e.1) (find (λ e. is_owner n (open_in e.1.association)) (entries sessions))

-- the session of a name, behind its number
abbrev pub session_named : Sessions → List ℕ → Option (ℕ × Session)
session_named sessions name = find (λ e. bytes_eq e.1.name name) (entries sessions)

abbrev pub with_association : Association → Session → Session
with_association association session = record { name = session.name; kind = session.kind; access = session.access; association = association }

-- a session after a transaction is gone
abbrev pub without_transaction : OwnerNo → Session → Session
without_transaction n session = with_association (if is_owner n (transaction_of session.association) then NoTransaction else session.association) session
