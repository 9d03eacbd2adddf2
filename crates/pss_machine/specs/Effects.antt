-- What a command comes to: its effect on what is kept, and its reply.
use Rattle.std.specs.Prelude.{ℕ, List, Bool}
use Rattle.pss_base.specs.declared.owner.OwnerNo.{OwnerNo}
use Rattle.pss_base.specs.declared.session.SessionNo.{SessionNo}
use Rattle.pss_machine.specs.declared.level.Level.{Level}
use Rattle.pss_machine.specs.declared.session.Association.{Association}
use Rattle.pss_machine.specs.declared.session.Access.{Access}
use Rattle.pss_machine.specs.declared.reply.Reply.{Reply}
use Rattle.pss_machine.specs.Owners.{Step}
use Rattle.pss_machine.specs.Copies.{Copies}
use Rattle.pss_machine.specs.Asking.{Asked}

pub data Effect : Type 0 where
  -- all stays
  Stays : Effect
  -- a session comes, and with a basic one its owner
  OpensBasic : (name : List ℕ) → (access : Access) → Effect
  OpensTransactional : (name : List ℕ) → (access : Access) → Effect
  -- a session goes, and with a basic one its owner
  ClosesBasic : (s : SessionNo) → (n : OwnerNo) → Effect
  ClosesTransactional : (s : SessionNo) → Effect
  -- a transaction comes
  Begins : (name : List ℕ) → (level : Level) → Effect
  -- a session becomes active or suspended
  Associates : (s : SessionNo) → (association : Association) → Effect
  -- a session's part of a transaction is done; where it failed, the transaction is marked
  Ends : (s : SessionNo) → (n : OwnerNo) → (failed : Bool) → Effect
  -- the entries of a session change
  Holds : (s : SessionNo) → (copies : Copies) → Effect
  -- an owner takes a step in a session
  Steps : (n : OwnerNo) → (s : SessionNo) → (step : Step) → (asked : Asked) → Effect
  -- what a transaction changed is committed, and it goes
  Commits : (n : OwnerNo) → Effect
  -- what a basic session changed is committed, and it stays
  Flushes : (n : OwnerNo) → Effect
  -- a transaction goes without its changes
  RollsBack : (n : OwnerNo) → Effect

pub record Decision : Type 0 where
  pub effect : Effect
  pub reply : Reply

abbrev pub does : Effect → Reply → Decision
does effect reply = record { effect = effect; reply = reply }

-- nothing but a reply
abbrev pub says : Reply → Decision
says reply = record { effect = Stays; reply = reply }
