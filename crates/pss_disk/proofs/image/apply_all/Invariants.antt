use Rattle.std.proofs.Common.{◌≡◌, take}
use Rattle.pss_disk.specs.Tape.{after_all, start}
use Rattle.pss_disk.proofs.image.apply_all.Given as goal

abbrev pub invariant-loop-call : goal.invariant-loop-call
invariant-loop-call l = l.content.items ≡ (after_all (start l.fn.content.items) (take l.call-index l.calls)).content
