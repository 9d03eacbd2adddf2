-- Sessions that may be closed.
use Rattle.std.specs.Prelude.{◌≡◌, Some}
use Rattle.std.specs.FinMap.{get}
use Rattle.pss_base.specs.declared.session.SessionNo.{SessionNo}
use Rattle.pss_machine.specs.declared.session.Kind.{Kind}
use Rattle.pss_machine.specs.declared.session.Kind.TheVariants.{Basic, Transactional}
use Rattle.pss_machine.specs.Sessions.{Session}
use Rattle.pss_machine.specs.Kept.{Kept}
use Rattle.pss_machine.specs.Effects.{Effect, ClosesBasic, ClosesTransactional}
use Rattle.connector_parts.specs.declared.parts.Parts.{Parts}
use Rattle.connector_parts.specs.Stands.{IsAt}

-- a session of this kind goes
abbrev pub closes : SessionNo → Kind → Effect
closes s (Basic n) = ClosesBasic s n
closes s Transactional = ClosesTransactional s

-- the session is there
pub record MayClose (c : Parts) (s : SessionNo) (kind : Kind) : Type 0 where
  pub kept : Kept
  pub at : IsAt c kept
  pub session : Session
  pub there : get kept.sessions s.0 ≡ Some session
  pub kind_is : kind ≡ session.kind
