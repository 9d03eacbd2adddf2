-- Serials in a row.
use Rattle.std.specs.Prelude.{ℕ, zero, suc, ◌==◌, ◌||◌, Bool, false}

-- a serial is one of so many in a row, from the first one on
abbrev pub is_in_row : ℕ → ℕ → ℕ → Bool
is_in_row first zero q = false
is_in_row first (suc count) q = (first == q) || is_in_row (suc first) count q
