-- The calls behind the last sync.
use Rattle.std.specs.Prelude.{ℕ, ◌≡◌, ◌≤◌, List, length, take, drop, All}
use Rattle.pss_disk.specs.Moments.{settled}
use Rattle.pss_disk.specs.Tape.{after_all, start}
use Rattle.pss_disk.specs.declared.call.Call.{Call}
use Rattle.pss_disk.specs.declared.call.Call.TheVariants.{Quiet, Spoke, Wrote, Tore, Synced}

-- a call that is no sync
abbrev pub IsNoSync : Call → Type 0
IsNoSync Quiet = Unit {0}
IsNoSync (Spoke bytes) = Unit {0}
IsNoSync (Wrote at bytes) = Unit {0}
IsNoSync (Tore at bytes) = Unit {0}
IsNoSync Synced = ⊥

-- after so many of the calls nothing is pending, and no sync comes behind them
pub record IsLastSync (calls : List Call) (count : ℕ) : Type 0 where
  pub within : count ≤ length calls
  pub clear : (first : List ℕ) → (after_all (start first) (take count calls)).disk ≡ settled (after_all (start first) (take count calls)).content
  pub behind : All IsNoSync (drop count calls)
