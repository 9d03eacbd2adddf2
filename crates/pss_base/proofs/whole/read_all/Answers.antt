use Rattle.std.proofs.Common.{rules}
use Rattle.pss_base.proofs.Taking.{over_limit}
use Rattle.pss_base.proofs.whole.read_all.Goals as goal

pub returns-then-count-room-clause-err : goal.returns-then-count-room-clause-err
returns-then-count-room-clause-err g c =
    over_limit _ _ _ c.pieces.bytes _ c.refill.new.self c.pieces.room _ c.pieces.invariant.taken c.in-Ok.ensures.kept (search rules) (search rules) c.pieces.invariant.room
