-- The slots that were tested so far.
use Rattle.std.specs.Prelude.{ℕ, ◌≡◌, ◌<◌, List, length, Bool, true, false, slice_index, slice_index_or}
use Rattle.page_format.specs.Roots.{IsWrongSlot}

-- none of the first k slots is wrong, and the flags say which they are
pub record AreTested (slots : List ℕ) (len k : ℕ) (named : List Bool) : Type 0 where
  pub size : length named ≡ 16384
  pub right : (j : ℕ) → j < k → IsWrongSlot (slice_index slots) len j → ⊥
  pub marked : (j : ℕ) → j < k → slice_index_or named (slice_index slots j) false ≡ true
  pub only : (s : ℕ) → slice_index_or named s false ≡ true → (j : ℕ) × (j < k) × (slice_index slots j ≡ s)
