-- How sessions see objects, whatever becomes of sessions and owners.
use Rattle.std.proofs.Common.{◌≡◌, true, Option, Some, None, refl, sym, ap, ◌∙◌}
use Rattle.std.specs.Prelude.{if◌then◌else◌}
use Rattle.std.specs.FinMap.{get}
use Rattle.pss_base.specs.declared.pid.Pid.{Pid}
use Rattle.pss_base.specs.declared.owner.OwnerNo.{OwnerNo}
use Rattle.pss_base.specs.declared.session.SessionNo.{SessionNo}
use Rattle.type_layout.specs.Schemas.{given}
use Rattle.pss_machine.specs.declared.session.View.{View}
use Rattle.pss_machine.specs.declared.session.View.TheVariants.{Committed, Own, Kept}
use Rattle.pss_machine.specs.Owners.{Owners}
use Rattle.pss_machine.specs.Sessions.{Session, Sessions, is_basic, owner_of}
use Rattle.pss_machine.specs.Copies.{view_in, unchanged_in, is_changed_by}
use Rattle.pss_machine.specs.Attaching.{is_open}
use Rattle.pss_copies.specs.Seats.{IsSeat}

-- sessions that are alike see objects alike
pub same_view_in : (owners : Owners) (s : SessionNo) (x y : Session) (pid : Pid) → owner_of x ≡ owner_of y → is_basic x ≡ is_basic y → view_in owners s x pid ≡ view_in owners s y pid
same_view_in owners s x y pid of basic =
    ap (λ o. given o (unchanged_in s x) (λ n. if is_changed_by owners n pid then Own n else unchanged_in s x)) of
    ∙ ap (λ b. given (owner_of y) (if b then Kept s else Committed) (λ n. if is_changed_by owners n pid then Own n else (if b then Kept s else Committed))) basic

-- the seat of an entry, with other sessions in which its session is alike
pub seat_moves : (owners : Owners) (old new : Sessions) (s : SessionNo) (pid : Pid) (v : View) (seat : IsSeat owners old s pid v) (y : Session) → get new s.0 ≡ Some y → is_open y ≡ true → owner_of seat.session ≡ owner_of y → is_basic seat.session ≡ is_basic y
    → IsSeat owners new s pid v
seat_moves owners old new s pid v seat y there goes_on of basic = record { session = y; there = there; goes_on = goes_on; seen = seat.seen ∙ same_view_in owners s seat.session y pid of basic }

-- where the session stays as it is
pub seat_stays : (owners : Owners) (old new : Sessions) (s : SessionNo) (pid : Pid) (v : View) → get new s.0 ≡ get old s.0 → IsSeat owners old s pid v → IsSeat owners new s pid v
seat_stays owners old new s pid v same seat = record { session = seat.session; there = same ∙ seat.there; goes_on = seat.goes_on; seen = seat.seen }

-- with other owners, where it is not otherwise whether the session's owner has changed the object
pub seat_owned : (old new : Owners) (sessions : Sessions) (s : SessionNo) (pid : Pid) (v : View) (seat : IsSeat old sessions s pid v) → ((n : OwnerNo) → owner_of seat.session ≡ Some n → is_changed_by new n pid ≡ is_changed_by old n pid) → IsSeat new sessions s pid v
seat_owned old new sessions s pid v seat same = record { session = seat.session; there = seat.there; goes_on = seat.goes_on; seen = seat.seen ∙ by (owner_of seat.session) refl }
  where
    by : (o : Option OwnerNo) → owner_of seat.session ≡ o
        → given o (unchanged_in s seat.session) (λ n. if is_changed_by old n pid then Own n else unchanged_in s seat.session) ≡ given o (unchanged_in s seat.session) (λ n. if is_changed_by new n pid then Own n else unchanged_in s seat.session)
    by None is = refl
    by (Some n) is = ap (λ b. if b then Own n else unchanged_in s seat.session) (sym (same n is))
