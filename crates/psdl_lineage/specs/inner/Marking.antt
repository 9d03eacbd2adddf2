-- Marks of numbers by stamps.
use Rattle.std.specs.Prelude.{ℕ, ◌≤◌, ◌<◌, List, map, Bool, ◌==◌}
use Rattle.std.specs.List.{All}

abbrev pub marks_of : ℕ → List ℕ → List Bool
marks_of present stamps = map (λ s. s == present) stamps

-- no stamp is of later
pub record AreStamped (present : ℕ) (stamps : List ℕ) : Type 0 where
  pub later : 0 < present
  pub past : All (λ s. s ≤ present) stamps
