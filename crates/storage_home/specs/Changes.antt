-- Changes in the order of their serials.
use Rattle.std.specs.Prelude.{ℕ, ◌+◌, ◌≤◌, List, [], ◌∷◌}
use Rattle.storage_home.specs.declared.change.Change.{Change}

-- the serials rise, from this one on
abbrev pub Rises : ℕ → List Change → Type 0
Rises least [] = Unit {0}
Rises least (c ∷ cs) = (least ≤ c.put.serial) × Rises (c.put.serial + 1) cs

-- the least serial that may follow, where this one was the least
abbrev pub least_next : ℕ → List Change → ℕ
least_next least [] = least
least_next least (c ∷ cs) = least_next (c.put.serial + 1) cs
