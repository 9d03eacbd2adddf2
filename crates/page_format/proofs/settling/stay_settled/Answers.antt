use Rattle.page_format.proofs.Settled.{settled_one}
use Rattle.page_format.proofs.settling.stay_settled.Goals as goal

pub returns-then-are : goal.returns-then-are
returns-then-are c = λ puts so_far is. settled_one puts c.args.put.now c.args.last (c.is_next.ensures.left is) (c.is_next.ensures.above is) (c.is_next.ensures.storable is) (so_far c.if-are.true)
