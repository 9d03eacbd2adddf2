-- How many nodes are below each, and the places that they take up, while these are found.
use Rattle.std.specs.Prelude.{ℕ, zero, suc, ◌+◌, ◌-◌, ◌≡◌, ◌<◌, ◌≤◌, ◌==◌, if◌then◌else◌}

-- the sizes of those directly below b, among so many from number k on
abbrev pub kids : (ℕ → ℕ) → (ℕ → ℕ) → ℕ → ℕ → ℕ → ℕ
kids p s b k zero = 0
kids p s b k (suc m) = (if p k == b then s k else 0) + kids p s b (k + 1) m

-- the sizes up to a number
abbrev pub upto : (ℕ → ℕ) → ℕ → ℕ
upto s zero = s 0
upto s (suc m) = s (suc m) + upto s m

-- all above m have given their size to the one that they are below
pub record Counted (n : ℕ) (p s : ℕ → ℕ) (m : ℕ) : Type 0 where
  pub total : upto s m ≡ n + 1
  pub sizes : (b : ℕ) → b ≤ n → s b ≡ 1 + kids p s b (m + 1) (n - m)

-- those below h have their places; `en` is where the next one below each goes
pub record Placing (n : ℕ) (p s : ℕ → ℕ) (h : ℕ) (pl en : ℕ → ℕ) : Type 0 where
  pub first : pl 0 ≡ 0
  pub ends : (b : ℕ) → b < h → en b + kids p s b h (n + 1 - h) ≡ pl b + s b
  pub starts : (b : ℕ) → b < h → pl b < en b
  pub bound : (b : ℕ) → b < h → pl b + s b ≤ n + 1
  pub inside : (k : ℕ) → 0 < k → k < h → (pl (p k) < pl k) × (pl k + s k ≤ en (p k))
  pub apart : (j k : ℕ) → 0 < j → j < k → k < h → p j ≡ p k → pl j + s j ≤ pl k
  pub filled : (b q : ℕ) → b < h → pl b < q → q < en b → (k : ℕ) × (0 < k) × (k < h) × (p k ≡ b) × (pl k ≤ q) × (q < pl k + s k)
