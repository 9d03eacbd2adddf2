use Rattle.std.proofs.Common.{◌+◌, take}
use Rattle.page_format.specs.inner.Settling.{AreSettled}
use Rattle.page_format.proofs.settling.are_settled.Given as goal

abbrev pub invariant-loop-put : goal.invariant-loop-put
invariant-loop-put l = AreSettled (take l.put-index l.changes) (l.last + 1) (take l.put-index l.changes)
