use Rattle.link_pool.proofs.Settled.{rings_hold, no_cells}
use Rattle.link_pool.proofs.pool.Pool.new.Goals as goal

pub returns-clause-rings : goal.returns-clause-rings
returns-clause-rings g c = rings_hold c.new.result 0 (no_cells c.new.result c.new.ensures.empty)
