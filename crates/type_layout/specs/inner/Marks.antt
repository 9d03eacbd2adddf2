-- Marks on declarations.
use Rattle.std.specs.Prelude.{ℕ, ◌-◌, ◌≡◌, ◌⊎◌, Bool, false, nat_lt, ◌||◌}
use Rattle.std.proofs.Common.{get_or}
use Rattle.type_layout.specs.declared.factory_marks.Marks.{Marks}

-- what is in front of the first is marked, and what is behind it has a mark or none
abbrev pub is_marked : Marks → ℕ → Bool
is_marked m n = nat_lt n m.first || get_or m.behind.items (n - m.first) false

-- one more may be marked, and no other
abbrev pub IsMarkedToo : (ℕ → Bool) → (ℕ → Bool) → ℕ → Type 0
IsMarkedToo old new number = (n : ℕ) → (new n ≡ old n) ⊎ (n ≡ number)
