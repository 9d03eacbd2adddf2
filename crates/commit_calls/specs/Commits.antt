-- Commits, and what comes of them.
use Rattle.std.specs.Prelude.{◌≡◌, ◌<◌, ◌≤◌, ◌-◌, ◌^◌, Some, None, true}
use Rattle.std.specs.FinMap.{get}
use Rattle.pss_base.specs.declared.owner.OwnerNo.{OwnerNo}
use Rattle.pss_base.specs.declared.session.SessionNo.{SessionNo}
use Rattle.pss_machine.specs.declared.reply.Reply.{Reply}
use Rattle.pss_machine.specs.Sessions.{Session, first_open}
use Rattle.pss_machine.specs.Kept.{Kept, is_transaction}
use Rattle.pss_machine.specs.Effects.{Decision}
use Rattle.pss_machine.specs.Moving.{moved}
use Rattle.pss_recovery.specs.declared.parts.Parts.{Parts as Store}
use Rattle.pss_copies.specs.Ruled.{AreOwned}
use Rattle.connector_parts.specs.declared.parts.Parts.{Parts}
use Rattle.connector_parts.specs.Stands.{Stands, StayAs}
use Rattle.commit_calls.specs.declared.ready.Ready.{Ready}
use Rattle.commit_calls.specs.Ready.{IsReady}

-- a transaction with which no session is active or suspended
pub record MayCommit (k : Kept) (n : OwnerNo) : Type 0 where
  pub own : AreOwned k.owners k.sessions k.next_owner
  pub transaction : is_transaction k.owners n.0 ≡ true
  pub closed : first_open k.sessions n ≡ None

-- what is ready may be committed
pub record MayApply (c : Parts) (n : OwnerNo) (ready : Ready) : Type 0 where
  pub kept : Kept
  pub stands : Stands c kept
  pub is : IsReady c kept n ready
  pub commits : kept.commits < 2 ^ 64 - 1

-- the session is there
pub record IsCalled (c : Parts) (s : SessionNo) : Type 0 where
  pub session : Session
  pub there : get c.attended.sessions.sessions s.0 ≡ Some session

-- the reply and what the parts stand for are those of the decision
pub record Follows (old : Parts) (k : Kept) (d : Decision) (reply : Reply) (new : Parts) : Type 0 where
  pub reply_is : reply ≡ d.reply
  pub stay : StayAs old new
  pub stands : Stands new (moved k d.effect)

-- the store has no next serial that was not given
abbrev pub IsBehind : Parts → Store → Type 0
IsBehind parts store = store.next ≤ parts.accounts.next
