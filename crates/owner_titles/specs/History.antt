-- The commits that there were.
use Rattle.std.specs.Prelude.{ℕ, ◌+◌, List, [], ◌∷◌, ◌++◌}
use Rattle.pss_machine.specs.Moving.{last_64}

-- how many there were, and the texts of the last 64 of them, oldest first
pub record History : Type 0 where
  pub commits : ℕ
  pub recent : List (List ℕ)

abbrev pub no_commits : History
no_commits = record { commits = 0; recent = [] }

-- one more
abbrev pub told : History → List ℕ → History
told h text = record { commits = h.commits + 1; recent = last_64 (h.recent ++ text ∷ []) }
