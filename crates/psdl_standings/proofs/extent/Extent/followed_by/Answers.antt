use Rattle.std.proofs.Common.{arith}
use Rattle.psdl_standings.proofs.Extents.{followed_by_places}
use Rattle.psdl_standings.proofs.extent.Extent.followed_by.Goals as goal

pub returns : goal.returns
returns c = followed_by_places c.loop-place.both c.args.self c.args.others (λ k h. c.loop-place.invariant.so_far k (omega (arith, h, c.loop-place-test.false)))
