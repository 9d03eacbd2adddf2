-- Places that are left while pages and the next root are laid.
use Rattle.std.specs.Prelude.{ℕ, ◌≡◌, ◌⊎◌, ◌+◌, ◌<◌, ◌≤◌, List, [], ◌∷◌, ⊤}
use Rattle.page_format.specs.Places.{area_start, slot_end, slot_start}
use Rattle.page_format.specs.declared.new_page.NewPage.{NewPage}

-- a place is in none of the slots of these pages
abbrev pub IsApart : List NewPage → ℕ → Type 0
IsApart [] i = ⊤
IsApart (page ∷ pages) i = ((i < slot_start page.slot) ⊎ (slot_end page.slot ≤ i)) × IsApart pages i

-- a place in none of these slots, and not in this root area behind its gate
pub record IsLeft (area : ℕ) (pages : List NewPage) (i : ℕ) : Type 0 where
  pub root_ : (i ≤ area_start area) ⊎ (area_start area + 131072 ≤ i)
  pub pages_ : IsApart pages i

-- the pages stand one behind the other, from this slot on
abbrev pub IsRun : ℕ → List NewPage → Type 0
IsRun slot [] = ⊤
IsRun slot (page ∷ pages) = (page.slot ≡ slot) × IsRun (slot + 1) pages
