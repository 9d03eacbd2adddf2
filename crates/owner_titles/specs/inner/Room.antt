-- Room for the last commits.
use Rattle.std.specs.Prelude.{◌≤◌, ◌-◌, List, length, drop}
use Rattle.std.specs.declared.collections.VecDeque.{VecDeque}
use Rattle.std.specs.VecDeque.{deque_capacity}

-- the last 64
abbrev pub newest : {A : Type 0} → List A → List A
newest commits = drop (length commits - 64) commits

-- there is room for 64, and no more are there
pub record HasRoom {A Z : Type 0} (commits : VecDeque A Z) : Type 0 where
  pub few : length commits.items ≤ 64
  pub room : 64 ≤ deque_capacity commits
