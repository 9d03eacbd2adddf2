-- What holds of entries and bodies.
use Rattle.std.specs.Prelude.{ℕ, ◌≡◌, ◌<◌, ◌≤◌, List, [], ◌∷◌, Some, Bool, IsTrue}
use Rattle.std.specs.List.{list_any}
use Rattle.std.specs.FinMap.{get}
use Rattle.type_layout.specs.Sound.{are_distinct}
use Rattle.pss_machine.specs.Same.{same_pid}
use Rattle.pss_machine.specs.Copies.{Entry, Copies, Body, same_body, bodies, body_count}
use Rattle.pss_machine.specs.Owning.{InEveryRun}

-- ---- bodies

-- each name is that of a body, no two bodies have one name, and none is without entries
pub record BodiesAreRight (all : List Body) : Type 0 where
  pub each : (x : Body) → list_any (same_body x) (bodies all) ≡ list_any (same_body x) all
  pub distinct : IsTrue (are_distinct same_body (bodies all))
  pub entries : (x : Body) → IsTrue (list_any (same_body x) (bodies all)) → 0 < body_count all x

abbrev pub BodiesAreAlwaysRight : Type 0
BodiesAreAlwaysRight = (all : List Body) → BodiesAreRight all

-- ---- entries

-- numbers above a first one and at most a last one, each above the one before it
abbrev pub NumbersRise : ℕ → ℕ → List Entry → Type 0
NumbersRise low last [] = Unit {0}
NumbersRise low last (e ∷ es) = (low < e.number) × (e.number ≤ last) × NumbersRise e.number last es

-- they are for one object
abbrev pub same_object : Entry → Entry → Bool
same_object x y = same_pid x.pid y.pid

-- each counts at least one
abbrev pub CountsAreSome : List Entry → Type 0
CountsAreSome [] = Unit {0}
CountsAreSome (e ∷ es) = (0 < e.count) × CountsAreSome es

-- the entries of a session
pub record AreOrderly (copies : Copies) : Type 0 where
  pub numbers : NumbersRise 0 copies.last copies.entries
  pub pids : IsTrue (are_distinct same_object copies.entries)
  pub counts : CountsAreSome copies.entries

abbrev pub EntriesAreOrderly : Type 0
EntriesAreOrderly = InEveryRun (λ q. (s : ℕ) (copies : Copies) → get q.kept.copies s ≡ Some copies → AreOrderly copies)
