-- How sessions are stored.
use Rattle.std.specs.Prelude.{ℕ, suc, zero, ◌≡◌, List, Option, Some, None, refl}
use Rattle.std.specs.Coded.{Coded, code_by, coded×, coded_ℕ, coded_list, coded_option}
use Rattle.pss_machine.specs.declared.session.Kind.{Kind}
use Rattle.pss_machine.specs.declared.session.Kind.TheVariants.{Basic, Transactional}
use Rattle.pss_machine.specs.declared.session.Access.{Access}
use Rattle.pss_machine.specs.declared.session.Access.TheVariants.{ReadOnly, ReadWrite}
use Rattle.pss_machine.specs.declared.session.Association.{Association}
use Rattle.pss_machine.specs.declared.session.Association.TheVariants.{NoTransaction, Active, Suspended, Ending}
use Rattle.pss_machine.specs.Sessions.{Session}

abbrev pub owner_in : Kind → Option ℕ
owner_in (Basic n) = Some n.0
owner_in Transactional = None

abbrev pub kind_of : Option ℕ → Kind
kind_of (Some n) = Basic (record { 0 = n })
kind_of None = Transactional

pub kind_again : (kind : Kind) → kind_of (owner_in kind) ≡ kind
kind_again (Basic n) = refl
kind_again Transactional = refl

abbrev pub access_number : Access → ℕ
access_number ReadOnly = 0
access_number ReadWrite = 1

abbrev pub access_numbered : ℕ → Access
access_numbered zero = ReadOnly
access_numbered (suc n) = ReadWrite

pub access_again : (access : Access) → access_numbered (access_number access) ≡ access
access_again ReadOnly = refl
access_again ReadWrite = refl

-- an association as the number of its state and its transaction
abbrev pub association_parts : Association → ℕ × ℕ
association_parts NoTransaction = (0, 0)
association_parts (Active n) = (1, n.0)
association_parts (Suspended n) = (2, n.0)
association_parts (Ending n) = (3, n.0)

abbrev pub of_state : ℕ → ℕ → Association
of_state zero n = NoTransaction
of_state (suc zero) n = Active (record { 0 = n })
of_state (suc (suc zero)) n = Suspended (record { 0 = n })
of_state (suc (suc (suc k))) n = Ending (record { 0 = n })

pub association_again : (a : Association) → of_state (association_parts a).0 (association_parts a).1 ≡ a
association_again NoTransaction = refl
association_again (Active n) = refl
association_again (Suspended n) = refl
association_again (Ending n) = refl

abbrev pub kind_code : Coded Kind
kind_code = code_by (Option ℕ) (coded_option coded_ℕ) owner_in kind_of kind_again

abbrev pub access_code : Coded Access
access_code = code_by ℕ coded_ℕ access_number access_numbered access_again

abbrev pub association_code : Coded Association
association_code = code_by (ℕ × ℕ) (coded× coded_ℕ coded_ℕ) association_parts (λ q. of_state q.0 q.1) association_again

-- a session is stored as the tuple of its parts
abbrev pub session_code : Coded Session
session_code =
    code_by
    (List ℕ × (Kind × (Access × Association)))
    (coded× (coded_list coded_ℕ) (coded× kind_code (coded× access_code association_code)))
    (λ s. (s.name, (s.kind, (s.access, s.association))))
    (λ q. record { name = q.0; kind = q.1.0; access = q.1.1.0; association = q.1.1.1 })
    (λ _. refl)
