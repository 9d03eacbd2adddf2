-- Sessions that are found.
use Rattle.std.specs.Prelude.{ℕ, ◌≡◌, List, Some}
use Rattle.std.specs.FinMap.{get}
use Rattle.pss_machine.specs.Sessions.{Session, session_named}
use Rattle.pss_machine.specs.Kept.{Kept}
use Rattle.pss_session.specs.declared.register.Found.{Found}

-- it is the session of the name
pub record IsFound (k : Kept) (name : List ℕ) (found : Found) : Type 0 where
  pub session : Session
  pub named : session_named k.sessions name ≡ Some (found.number.0, session)
  pub there : get k.sessions found.number.0 ≡ Some session
  pub kind_is : found.standing.kind ≡ session.kind
  pub access_is : found.standing.access ≡ session.access
  pub association_is : found.standing.association ≡ session.association
