-- The slots of pages under the serials of the objects in them.
use Rattle.std.specs.Prelude.{ℕ, suc, List, [], ◌∷◌, None, Some}
use Rattle.std.specs.declared.option.Option.{Option}

-- what is found in a table: of two for one serial the first counts
pub record Slots : Type 0 where
  pub entries : List (ℕ × ℕ)

-- cells in a row, the first of which stands for this serial
abbrev pub in_cells : ℕ → List (Option ℕ) → List (ℕ × ℕ)
in_cells serial [] = []
in_cells serial (None ∷ cells) = in_cells (suc serial) cells
in_cells serial (Some slot ∷ cells) = (serial, slot) ∷ in_cells (suc serial) cells

-- the first of two slots that is there
abbrev pub first_of : Option ℕ → Option ℕ → Option ℕ
first_of None other = other
first_of (Some slot) other = Some slot
