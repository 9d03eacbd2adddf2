use Rattle.std.proofs.Common.{◌↔◌, drop}
use Rattle.storage_home.specs.Kept.{Keeping}
use Rattle.pss_recovery.specs.inner.Claims.{Agrees, ComeApart, Keys, no_keys}
use Rattle.pss_recovery.proofs.apart.come_apart.Given as goal

abbrev pub invariant-loop-change : goal.invariant-loop-change
invariant-loop-change l = (taken : Keys) × Agrees l.claimed taken × Keeping l.homes (λ S M. (gone : Keys) → Agrees l.released gone → ComeApart S M gone taken (drop l.change-index l.changes) ↔ ComeApart S M gone no_keys l.changes)
