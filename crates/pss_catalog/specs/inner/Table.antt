-- Places of numbered nodes, of which each is below one with a lower number, and all are below 0.
use Rattle.std.specs.Prelude.{ℕ, ◌+◌, ◌-◌, ◌≡◌, ◌<◌, ◌≤◌}

-- n nodes besides 0, each below a lower one
abbrev pub AreLower : ℕ → (ℕ → ℕ) → Type 0
AreLower n p = (k : ℕ) → 0 < k → k ≤ n → p k < k

-- from node to node upwards one comes to another
pub data Up (p : ℕ → ℕ) : ℕ → ℕ → Type 0 where
  here : (k : ℕ) → Up p k k
  up : (k a : ℕ) → 0 < k → Up p (p k) a → Up p k a

-- a node directly below another, among whose places this one is
pub record Child (n : ℕ) (p pl en : ℕ → ℕ) (b q : ℕ) : Type 0 where
  pub number : ℕ
  pub positive : 0 < number
  pub within : number ≤ n
  pub below : p number ≡ b
  pub begins : pl number ≤ q
  pub stops : q < en number

-- each node has its place and the end of what is below it: those below it fill the places between
pub record IsPlaced (n : ℕ) (p pl en : ℕ → ℕ) : Type 0 where
  pub first : pl 0 ≡ 0
  pub whole : en 0 ≡ n + 1
  pub proper : (k : ℕ) → k ≤ n → pl k < en k
  pub inside : (k : ℕ) → 0 < k → k ≤ n → (pl (p k) < pl k) × (en k ≤ en (p k))
  pub apart : (j k : ℕ) → 0 < j → j < k → k ≤ n → p j ≡ p k → en j ≤ pl k
  pub filled : (b q : ℕ) → b ≤ n → pl b < q → q < en b → Child n p pl en b q

-- in the order of places stands each node with a lower number than h
abbrev pub IsOrdered : ℕ → (ℕ → ℕ) → (ℕ → ℕ) → Type 0
IsOrdered h pl od = (k : ℕ) → 0 < k → k < h → od (pl k - 1) ≡ k

-- the node that is above this one, or is it, and is directly below 0
abbrev pub IsTop : (ℕ → ℕ) → ℕ → ℕ → Type 0
IsTop p k r = (0 < r) × (r ≤ k) × Up p k r × (p r ≡ 0)
