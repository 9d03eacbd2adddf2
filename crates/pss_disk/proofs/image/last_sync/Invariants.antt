use Rattle.std.proofs.Common.{take}
use Rattle.pss_disk.specs.inner.Crash.{IsLastSync}
use Rattle.pss_disk.proofs.image.last_sync.Given as goal

abbrev pub invariant-loop-number : goal.invariant-loop-number
invariant-loop-number l = IsLastSync (take l.number l.calls) l.last
