use Rattle.std.proofs.Common.{take}
use Rattle.storage_home.specs.inner.Queues.{IsQueue}
use Rattle.storage_home.proofs.listing.fronts.Given as goal

abbrev pub invariant-loop-heir : goal.invariant-loop-heir
invariant-loop-heir l = IsQueue l.extents (take l.heir-index l.heirs) 0 l.queue.entries
