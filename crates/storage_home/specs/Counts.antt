-- How many objects each home has of its own.
use Rattle.std.specs.Prelude.{ℕ, ◌+◌, ◌≡◌, List, ◌==◌, if◌then◌else◌}
use Rattle.std.specs.List.{sum_by}
use Rattle.type_layout.specs.declared.home.HomeNo.{HomeNo}
use Rattle.type_layout.specs.Schemas.{given, nth}

-- the number that is kept for a home
abbrev pub number_at : List ℕ → ℕ → ℕ
number_at counts home = given (nth counts home) 0 (λ n. n)

-- the numbers of these homes together
abbrev pub number_of : List ℕ → List HomeNo → ℕ
number_of counts homes = sum_by (λ h. number_at counts h.0) homes

-- the number of a home is one higher, and all others are as they were
abbrev pub IsRaised : List ℕ → List ℕ → ℕ → Type 0
IsRaised low high home = (to : ℕ) → number_at high to ≡ number_at low to + (if home == to then 1 else 0)
