-- The serials of a home by blocks of 64 neighbours.
use Rattle.std.specs.Prelude.{ℕ, ◌≡◌, ◌<◌, ◌≤◌, ◌/◌, ◌%◌, List, [], ◌∷◌, Option, None, Some, IsSome, Bool, true, false, cond, ◌==◌, ◌||◌, ◌⊎◌, nat_lt}
use Rattle.std.specs.Ordering.{nat_cmp}
use Rattle.std.specs.Map.{lookup}
use Rattle.std.specs.BTreeMap.{is_at}
use Rattle.type_layout.specs.Schemas.{given}
use Rattle.storage_home.specs.declared.extents.Block.{Block}
use Rattle.storage_home.specs.Cells.{has_bit}

-- a place is marked in a word or not, and all others are as they were
abbrev pub TurnsBit : ℕ → ℕ → ℕ → Bool → Type 0
TurnsBit old new place b = (q : ℕ) → q < 64 → has_bit q new ≡ cond (place == q) b (has_bit q old)

-- the least place from this one on that is marked, or that there is none
abbrev pub IsLeastBit : ℕ → ℕ → Option ℕ → Type 0
IsLeastBit bits from None = (q : ℕ) → from ≤ q → q < 64 → has_bit q bits ≡ false
IsLeastBit bits from (Some p) = (from ≤ p) × (p < 64) × (has_bit p bits ≡ true) × ((q : ℕ) → from ≤ q → q < p → has_bit q bits ≡ false)

-- serials are numbers below 2^64, so that a block has a number below this one
unfoldable pub is_number : ℕ → Bool
is_number n = nat_lt n 288230376151711744

abbrev pub Blocks : Type 0
Blocks = List (ℕ × Block)

-- the block of a number
abbrev pub block_at : ℕ → Blocks → Option Block
block_at n es = cond (is_number n) (lookup (is_at (nat_cmp n)) es) None

abbrev pub holds_in : Option Block → ℕ → Bool
holds_in block place = given block false (λ b. has_bit place b.held)

-- what is there is entered
abbrev pub enters_in : Option Block → ℕ → Bool
enters_in block place = given block false (λ b. has_bit place b.entered || has_bit place b.held)

-- the least serial of a block, from a place on, whose object is there, or that there is none
abbrev pub IsLeastIn : ℕ → Block → ℕ → Option ℕ → Type 0
IsLeastIn n b from None = is_number n ≡ true → IsLeastBit b.held from None
IsLeastIn n b from (Some s) = (is_number n ≡ true) × (s / 64 ≡ n) × IsLeastBit b.held from (Some (s % 64))

-- that of the first block that has one
abbrev pub IsFirstHeld : Blocks → Option ℕ → Type 0
IsFirstHeld [] next = next ≡ None
IsFirstHeld (e ∷ es) next = (IsSome next × IsLeastIn e.0 e.1 0 next) ⊎ (IsLeastIn e.0 e.1 0 None × IsFirstHeld es next)
