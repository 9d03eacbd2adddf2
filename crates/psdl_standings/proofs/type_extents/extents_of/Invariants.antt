use Rattle.std.proofs.Common.{◌≡◌, length}
use Rattle.psdl_standings.specs.inner.Measured.{AreExtents}
use Rattle.psdl_standings.proofs.type_extents.extents_of.Given as goal

abbrev pub invariant-loop-number : goal.invariant-loop-number
invariant-loop-number l = record { many : length l.extents.items ≡ l.number; are : AreExtents l.types l.extents.items }
