-- Sessions that data commands are done in, and for whom.
use Rattle.std.specs.Prelude.{ℕ, ◌≡◌, List, Some, Result, true}
use Rattle.std.specs.FinMap.{get}
use Rattle.pss_base.specs.declared.session.SessionNo.{SessionNo}
use Rattle.pss_machine.specs.declared.reply.Reply.{Reply}
use Rattle.pss_machine.specs.Owners.{Owner, is_basic}
use Rattle.pss_machine.specs.Sessions.{Session, session_named, owner_of, acts_for, is_basic as is_basic_session}
use Rattle.pss_machine.specs.Kept.{Kept, actor_in}
use Rattle.pss_machine.specs.Asking.{Asked}
use Rattle.pss_machine.specs.Attaching.{is_open}
use Rattle.pss_machine.specs.Effects.{says}
use Rattle.pss_machine.specs.Stepping.{data_command}
use Rattle.pss_machine.specs.Deciding.{in_session}
use Rattle.connector_parts.specs.declared.parts.Parts.{Parts}
use Rattle.pss_session.specs.declared.register.Found.{Found}
use Rattle.data_calls.specs.declared.acting.Acting.{Acting}

-- a session that was found acts for the owner
pub record ActsFor (session : Session) (found : Found) (acting : Acting) : Type 0 where
  pub number : acting.session ≡ found.number
  pub access_is : acting.access ≡ found.standing.access
  pub acts : acts_for session ≡ Some acting.owner
  pub basic_is : is_basic_session session ≡ acting.basic

-- the session is there, and acts for this owner
pub record IsActing (k : Kept) (acting : Acting) : Type 0 where
  pub session : Session
  pub there : get k.sessions acting.session.0 ≡ Some session
  pub access_is : session.access ≡ acting.access
  pub owner : Owner
  pub owner_there : get k.owners acting.owner.0 ≡ Some owner
  pub acts_is : acts_for session ≡ Some acting.owner
  pub acts : actor_in k.owners session ≡ Some (record { number = acting.owner; owner = owner })
  pub of : owner_of session ≡ Some acting.owner
  pub basic_is : is_basic_session session ≡ acting.basic
  pub level : is_basic owner.level ≡ acting.basic
  pub goes_on : is_open session ≡ true

-- and has this name
pub record IsNamed (k : Kept) (name : List ℕ) (acting : Acting) : Type 0 where
  pub is : IsActing k acting
  pub named : session_named k.sessions name ≡ Some (acting.session.0, is.session)

-- each data command in a session of the name has this reply, whatever is asked
abbrev pub IsIdle : Parts → Kept → List ℕ → Reply → Type 0
IsIdle c k name reply =
    (asked : SessionNo → Session → Result Asked Reply) → in_session k name (λ s session. data_command c.schema c.limits k s session (asked s session)) ≡ says reply
