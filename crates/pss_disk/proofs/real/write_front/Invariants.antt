use Rattle.std.proofs.Common.{◌≤◌, length, take}
use Rattle.std.specs.Io.KnownBytes.{Appends}
use Rattle.pss_disk.proofs.real.write_front.Given as goal

abbrev pub invariant-loop : goal.invariant-loop
invariant-loop g l = (l.count ≤ length l.bytes) × Appends (g.O.Write.contents l.fn.out) (g.O.Write.contents l.out) (take l.count l.bytes)
