use Rattle.std.proofs.Common.{◌≡◌, length}
use Rattle.psdl_standings.specs.inner.Measured.{AreLevels}
use Rattle.psdl_standings.proofs.levels.levels_of.Given as goal

abbrev pub invariant-loop-number : goal.invariant-loop-number
invariant-loop-number l = record { many : length l.levels.items ≡ l.number; are : AreLevels l.types l.levels.items }
