-- Sessions that may end their part of a transaction.
use Rattle.std.specs.Prelude.{◌≡◌, Some}
use Rattle.std.specs.FinMap.{get}
use Rattle.pss_base.specs.declared.owner.OwnerNo.{OwnerNo}
use Rattle.pss_base.specs.declared.session.SessionNo.{SessionNo}
use Rattle.pss_machine.specs.declared.session.Kind.TheVariants.{Transactional}
use Rattle.pss_machine.specs.Sessions.{Session, open_in}
use Rattle.pss_machine.specs.Kept.{Kept}
use Rattle.connector_parts.specs.declared.parts.Parts.{Parts}
use Rattle.connector_parts.specs.Stands.{IsAt}

-- the session is active or suspended with the transaction
pub record MayEnd (c : Parts) (s : SessionNo) (n : OwnerNo) : Type 0 where
  pub kept : Kept
  pub at : IsAt c kept
  pub session : Session
  pub there : get kept.sessions s.0 ≡ Some session
  pub kind : session.kind ≡ Transactional
  pub open_with : open_in session.association ≡ Some n
