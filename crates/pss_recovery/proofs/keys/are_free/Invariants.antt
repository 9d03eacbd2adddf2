use Rattle.std.proofs.Common.{take}
use Rattle.storage_home.specs.Kept.{Keeping}
use Rattle.pss_recovery.specs.inner.Held.{NoneHeld}
use Rattle.pss_recovery.proofs.keys.are_free.Given as goal

abbrev pub invariant-loop-pair : goal.invariant-loop-pair
invariant-loop-pair l = Keeping l.homes (λ S M. NoneHeld S M (take l.pair-index l.keys))
