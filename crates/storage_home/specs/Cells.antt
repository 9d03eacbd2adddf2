-- The places of a chunk: which have rows, and what stands in them.
use Rattle.std.specs.Prelude.{ℕ, zero, suc, ◌≡◌, ◌+◌, ◌/◌, ◌%◌, List, [], ◌∷◌, Option, Some, None, Bool, true, cond, get_or, ◌==◌}
use Rattle.storage_home.specs.declared.rows.Row.{Row}

-- a bit of a number, from the lowest
unfoldable pub has_bit : ℕ → ℕ → Bool
has_bit zero bits = bits % 2 == 1
has_bit (suc place) bits = has_bit place (bits / 2)

-- how many bits are set below a place
unfoldable pub ones_below : ℕ → ℕ → ℕ
ones_below zero bits = 0
ones_below (suc place) bits = bits % 2 + ones_below place (bits / 2)

-- so many places in their order: where a bit is set the next row, and else none
unfoldable pub cells_of : ℕ → ℕ → List Row → List (Option Row)
cells_of zero bits rows = []
cells_of (suc n) bits [] = None ∷ cells_of n (bits / 2) []
cells_of (suc n) bits (row ∷ rows) = cond (bits % 2 == 1) (Some row ∷ cells_of n (bits / 2) rows) (None ∷ cells_of n (bits / 2) (row ∷ rows))

-- the row with its serial reserved, and its object as it is
abbrev pub with_reservation : Row → Row
with_reservation row = record { object = row.object; is_reserved = true }

-- in this place stands another row, or none, and all others stay
abbrev pub TurnsCell : List (Option Row) → List (Option Row) → ℕ → Option Row → Type 0
TurnsCell old new place row = (q : ℕ) → get_or new q None ≡ cond (place == q) row (get_or old q None)
