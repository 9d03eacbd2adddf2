-- Slots whose flags are not set.
use Rattle.std.specs.Prelude.{ℕ, ◌≡◌, ◌+◌, ◌<◌, Bool, false, List, length, slice_index, slice_index_or, take}
use Rattle.page_format.specs.inner.Marks.{count_marked}

-- these are the least slots whose flags are not set, so many
pub record AreLeastUnmarked (marks : List Bool) (count : ℕ) (free : List ℕ) : Type 0 where
  pub count_ : length free ≡ count
  pub below : (k : ℕ) → k < length free → slice_index free k < 16384
  pub unmarked : (k : ℕ) → k < length free → slice_index_or marks (slice_index free k) false ≡ false
  pub rising : (j k : ℕ) → j < k → k < length free → slice_index free j < slice_index free k
  pub least : (s k : ℕ) → slice_index_or marks s false ≡ false → k < length free → s < slice_index free k → (j : ℕ) × (j < length free) × (slice_index free j ≡ s)

-- these are the slots below one whose flags are not set
pub record AreUnmarkedBelow (marks : List Bool) (s : ℕ) (free : List ℕ) : Type 0 where
  pub count_ : length free + count_marked (take s marks) ≡ s
  pub below : (k : ℕ) → k < length free → slice_index free k < s
  pub unmarked : (k : ℕ) → k < length free → slice_index_or marks (slice_index free k) false ≡ false
  pub rising : (j k : ℕ) → j < k → k < length free → slice_index free j < slice_index free k
  pub all : (q : ℕ) → q < s → slice_index_or marks q false ≡ false → (j : ℕ) × (j < length free) × (slice_index free j ≡ q)
