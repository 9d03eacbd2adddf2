-- What sessions have of entries, as the machine tells it.
use Rattle.std.specs.Prelude.{ℕ, ◌≡◌, Option, Some, None, is_some}
use Rattle.std.specs.Option.{option_map}
use Rattle.std.specs.FinMap.{get}
use Rattle.pss_base.specs.declared.pid.Pid.{Pid}
use Rattle.pss_base.specs.declared.session.SessionNo.{SessionNo}
use Rattle.type_layout.specs.Schemas.{given}
use Rattle.pss_machine.specs.declared.session.View.{View}
use Rattle.pss_machine.specs.declared.session.View.TheVariants.{Committed, Own, Kept}
use Rattle.pss_machine.specs.Copies.{Stand, Loose, Shared, Copied, Entry as PlainEntry, Copies, AllCopies, entry_numbered}
use Rattle.incarnations.specs.declared.names.Entry.{Entry}
use Rattle.incarnations.specs.Meaning.{Meaning, body, entry_at}

-- what an entry for an object stands on: a body that others may share, or its session's own copy with the values there
abbrev pub stand_told : Meaning → Pid → Option View → Stand
stand_told m pid None = Loose
stand_told m pid (Some Committed) = Shared
stand_told m pid (Some (Own n)) = Shared
stand_told m pid (Some (Kept s)) = given (get m.bodies (body pid (Kept s))) Loose Copied

abbrev pub entry_told : Meaning → ℕ → Entry → PlainEntry
entry_told m n e = record { number = n; pid = e.pid; count = e.count; stand = stand_told m e.pid e.view }

-- the entries of one session, each under its number
pub record IsTold (m : Meaning) (s : SessionNo) (copies : Copies) : Type 0 where
  pub last : get m.lasts s ≡ Some copies.last
  pub entries : (n : ℕ) → entry_numbered copies n ≡ option_map (entry_told m n) (entry_at m s n)

-- the entries of all sessions
pub record AreTold (m : Meaning) (all : AllCopies) : Type 0 where
  pub same : (s : SessionNo) → is_some (get all s.0) ≡ is_some (get m.lasts s)
  pub each : (s : SessionNo) (copies : Copies) → get all s.0 ≡ Some copies → IsTold m s copies
