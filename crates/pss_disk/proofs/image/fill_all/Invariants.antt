use Rattle.std.proofs.Common.{take}
use Rattle.pss_disk.specs.Tape.{IsFilled, after_all, start}
use Rattle.pss_disk.proofs.image.fill_all.Given as goal

abbrev pub invariant-loop-call : goal.invariant-loop-call
invariant-loop-call l = IsFilled l.octet (after_all (start l.fn.image.items) (take l.call-index l.calls)).disk l.image.items
