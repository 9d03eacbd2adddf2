use Rattle.std.proofs.Common.{◌↔◌, drop}
use Rattle.storage_home.specs.Kept.{Keeping}
use Rattle.pss_recovery.specs.inner.Claims.{Agrees, AreOpen, Keys}
use Rattle.pss_recovery.proofs.apart.are_open.Given as goal

abbrev pub invariant-loop-pair : goal.invariant-loop-pair
invariant-loop-pair l = Keeping l.homes (λ S M. (gone taken : Keys) → Agrees l.released gone → Agrees l.claimed taken → AreOpen S M gone taken (drop l.pair-index l.pairs) ↔ AreOpen S M gone taken l.pairs)
