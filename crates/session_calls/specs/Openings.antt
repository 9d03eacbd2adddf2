-- Sessions that may be opened.
use Rattle.std.specs.Prelude.{ℕ, ◌≡◌, List, None}
use Rattle.pss_machine.specs.Kept.{Kept}
use Rattle.pss_machine.specs.Sessions.{session_named}
use Rattle.connector_parts.specs.declared.parts.Parts.{Parts}
use Rattle.connector_parts.specs.Stands.{IsAt}

-- no session has the name
pub record MayOpen (c : Parts) (name : List ℕ) : Type 0 where
  pub kept : Kept
  pub at : IsAt c kept
  pub free : session_named kept.sessions name ≡ None
