use Rattle.owner_view.proofs.Ordered.{ordered}
use Rattle.owner_view.proofs.states.in_order.Goals as goal

pub returns : goal.returns
returns c = ordered c.args.states.now c.in_ok-serials.serials.items c.sort_unstable.new.self.items c.in_ok-serials.ensures.all c.in_ok-serials.ensures.apart c.sort_unstable.ensures.permutation c.sort_unstable.ensures.sorted
