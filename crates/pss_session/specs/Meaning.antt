-- Which sessions there are, and what calls make of them.
use Rattle.std.specs.Prelude.{ℕ, ◌≡◌, ◌⊎◌, ◌+◌, ◌&&◌, ◌||◌, List, find, Option, Bool, false, is_some, refl}
use Rattle.std.specs.Option.{option_map}
use Rattle.std.specs.Coded.{Coded, code_by, coded×, coded_ℕ}
use Rattle.std.specs.FinMap as map
use Rattle.std.specs.FinMap.{get, entries, insert, remove}
use Rattle.pss_base.specs.declared.pid.Pid.{Pid}
use Rattle.pss_base.specs.declared.session.SessionNo.{SessionNo}
use Rattle.pss_base.specs.declared.owner.OwnerNo.{OwnerNo}
use Rattle.type_layout.specs.Schemas.{given}
use Rattle.pss_machine.specs.declared.session.Kind.{Kind}
use Rattle.pss_machine.specs.declared.session.Kind.TheVariants.{Transactional}
use Rattle.pss_machine.specs.declared.session.Access.{Access}
use Rattle.pss_machine.specs.declared.session.Association.{Association}
use Rattle.pss_machine.specs.declared.session.Association.TheVariants.{NoTransaction, Suspended}
use Rattle.pss_machine.specs.declared.session.View.{View}
use Rattle.pss_machine.specs.declared.session.View.TheVariants.{Committed, Kept}
use Rattle.pss_machine.specs.Maps.{each, with_at}
use Rattle.pss_machine.specs.Same.{same_pid}
use Rattle.pss_machine.specs.Copies.{same_view}
use Rattle.pss_machine.specs.Sessions.{Session, Sessions, is_owner, open_in, owner_of, transaction_of, session_named, with_association, without_transaction}
use Rattle.incarnations.specs.declared.names.Slot.{Slot}
use Rattle.incarnations.specs.declared.names.Entry.{Entry}
use Rattle.incarnations.specs.Meaning.{Meaning as Copies}
use Rattle.pss_session.specs.Codes.{session_code}

-- the sessions by number, and the number of the next one
pub record Meaning : Type 0 where
  pub sessions : Sessions
  pub next : ℕ

abbrev pub meaning_code : Coded Meaning
meaning_code = code_by (Sessions × ℕ) (coded× (map.code coded_ℕ session_code) coded_ℕ) (λ m. (m.sessions, m.next)) (λ q. record { sessions = q.0; next = q.1 }) (λ _. refl)

-- nobody is there yet
abbrev pub no_sessions : Meaning
no_sessions = record { sessions = map.empty; next = 1 }

-- ---- what is found

abbrev pub session_at : Meaning → SessionNo → Option Session
session_at m s = get m.sessions s.0

-- the number of the session of a name
abbrev pub number_named : Meaning → List ℕ → Option SessionNo
number_named m name = option_map (λ e. record { 0 = e.0 }) (session_named m.sessions name)

-- the number of the least session that is active or suspended with the transaction
abbrev pub first_open : Meaning → OwnerNo → Option SessionNo
first_open m n = option_map (λ e. record { 0 = e.0 }) (find (λ e. is_owner n (open_in e.1.association)) (entries m.sessions))

-- ---- sessions that come and go

-- a session that is in no transaction
abbrev pub new_session : List ℕ → Kind → Access → Session
new_session name kind access = record { name = name; kind = kind; access = access; association = NoTransaction }

abbrev pub opened : Meaning → List ℕ → Kind → Access → Meaning
opened m name kind access = record { sessions = insert m.sessions m.next (new_session name kind access); next = m.next + 1 }

abbrev pub closed : Meaning → SessionNo → Meaning
closed m s = record { sessions = remove m.sessions s.0; next = m.next }

-- ---- associations

-- a session has another association
abbrev pub associated : Meaning → SessionNo → Association → Meaning
associated m s association = record { sessions = with_at m.sessions s.0 (with_association association); next = m.next }

-- it may start in the transaction: it is in none, or suspended with this one
abbrev pub MayStart : OwnerNo → Session → Type 0
MayStart n session = (session.kind ≡ Transactional) × ((session.association ≡ NoTransaction) ⊎ (session.association ≡ Suspended n))

-- a transaction is gone, and no session is in it
abbrev pub finished : Meaning → OwnerNo → Meaning
finished m n = record { sessions = each (λ s session. without_transaction n session) m.sessions; next = m.next }

-- ---- entries

-- the copies have exactly the sessions that there are
abbrev pub HaveSessions : Meaning → Copies → Type 0
HaveSessions m copies = (s : SessionNo) → is_some (get copies.lasts s) ≡ is_some (session_at m s)

-- it is in this transaction
abbrev pub is_in : OwnerNo → Session → Bool
is_in n session = is_owner n (transaction_of session.association)

-- it belongs to this owner: it is that basic session, or in that transaction
abbrev pub belongs_to : OwnerNo → Session → Bool
belongs_to n session = is_owner n (owner_of session)

-- an entry of a session that passes a test
abbrev pub of_sessions : (Session → Bool) → Meaning → Slot → Entry → Bool
of_sessions test m x e = given (session_at m x.session) false test

-- a view in which an owner's change is not seen: the committed one, or the session's own copy
abbrev pub is_unchanged : SessionNo → View → Bool
is_unchanged s view = same_view Committed view || same_view (Kept s) view

-- an entry for the object that stands on such a view of it
abbrev pub on_unchanged : Pid → Slot → Entry → Bool
on_unchanged pid x e = same_pid pid e.pid && given e.view false (is_unchanged x.session)
