use Rattle.std.proofs.Common.{subst}
use Rattle.incarnations.specs.Rings.{AreCopyRings}
use Rattle.incarnations.proofs.Seen.{sound_rings}
use Rattle.incarnations.proofs.incarnations.Incarnations.rings.Goals as goal

pub returns-clause-copies : goal.returns-clause-copies
returns-clause-copies c = subst (λ m. AreCopyRings m c.self.inside.stock.pool) c.self.view_is (sound_rings c.self.inside.stock c.self.invariant)
