use Rattle.std.proofs.Common.{◌≡◌, ◌+◌, length}
use Rattle.std.specs.Io.KnownBytes.{prepend_known, Consumes}
use Rattle.pss_base.proofs.whole.read_all.Given as goal

abbrev pub invariant-pieces : goal.invariant-pieces
invariant-pieces g l = record {
  taken : Consumes (g.C.Source.left l.fn.src) (prepend_known l.ahead (g.C.Source.left l.src)) l.bytes;
  room : length l.bytes + l.room ≡ l.limit;
  cause : g.C.Source.faults l.src ≡ g.C.Source.faults l.fn.src;
}

abbrev pub decreases-pieces : goal.decreases-pieces
decreases-pieces g l = l.room
