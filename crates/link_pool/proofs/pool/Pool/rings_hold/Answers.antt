use Rattle.std.proofs.Common.{subst, arith}
use Rattle.link_pool.specs.Meaning.{AreRings, IsCountable}
use Rattle.link_pool.proofs.Settled.{rings_hold}
use Rattle.link_pool.proofs.Bounds.{counted}
use Rattle.link_pool.proofs.pool.Pool.rings_hold.Goals as goal

pub returns-clause-rings : goal.returns-clause-rings
returns-clause-rings g c = subst AreRings c.self.view_is (rings_hold c.self.inside.cells c.self.inside.promised c.self.invariant.sound)

pub returns-clause-counted : goal.returns-clause-counted
returns-clause-counted g c = subst IsCountable c.self.view_is (counted c.self.inside.cells (omega (arith, c.capacity.ensures.slots)) c.self.inside.promised)
