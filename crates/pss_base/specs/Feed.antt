-- What a source in memory has, and what one read of it does.
use Rattle.std.specs.Prelude.{ℕ, ◌==◌, List, length, drop, min, Bool, if◌then◌else◌}
use Rattle.std.specs.List.{list_any}
use Rattle.pss_base.specs.Causes.{one_more, counted}

-- the bytes to come, how many a read gives at most, which calls fail, how many came so far, and how many of them failed
pub record Feed : Type 0 where
  pub left : List ℕ
  pub piece : ℕ
  pub failing : List ℕ
  pub calls : ℕ
  pub faults : ℕ

-- a number stands in a list
abbrev pub is_listed : ℕ → List ℕ → Bool
is_listed n numbers = list_any (λ m. m == n) numbers

-- how many bytes a read into so much room gives
abbrev pub given : Feed → ℕ → ℕ
given feed room = min (min room (length feed.left)) feed.piece

-- the feed after a read into so much room
abbrev pub after_read : Feed → ℕ → Feed
after_read feed room = record {
  left = if is_listed feed.calls feed.failing then feed.left else drop (given feed room) feed.left;
  piece = feed.piece;
  failing = feed.failing;
  calls = one_more feed.calls;
  faults = counted (is_listed feed.calls feed.failing) feed.faults;
}
