use Rattle.std.proofs.Common.{refl, ap, ◌∙◌}
use Rattle.lock_table.proofs.Added.{own_among, ready_same, ready_alike}
use Rattle.lock_table.specs.inner.Links.{col_at}
use Rattle.lock_table.proofs.grants.make_rings.Goals as goal

pub returns-in_err-col-clause-ready : goal.returns-in_err-col-clause-ready
returns-in_err-col-clause-ready c = c.make_column.ensures.ready c.args.locks.now (own_among c.args.locks.now c.args.owner c.requires.some c.requires.own) c.make_places.ensures.ready

pub returns-in_err-reserve-clause-ready : goal.returns-in_err-reserve-clause-ready
returns-in_err-reserve-clause-ready c =
    ready_same c.make_column.new.links _ c.in_err-reserve.ensures.err refl refl refl c.args.locks.now (c.make_column.ensures.ready c.args.locks.now (own_among c.args.locks.now c.args.owner c.requires.some c.requires.own) c.make_places.ensures.ready)

pub returns-clause-ready : goal.returns-clause-ready
returns-clause-ready c =
    ready_alike c.make_column.new.links _ (ap (λ p. p.nodes) c.in_ok-reserve.ensures.ok) (ap (λ p. p.rows) c.in_ok-reserve.ensures.ok) (ap (λ p. p.cols) c.in_ok-reserve.ensures.ok) refl refl refl c.in_ok-reserve.ensures.rings c.args.locks.now
    (c.make_column.ensures.ready c.args.locks.now (own_among c.args.locks.now c.args.owner c.requires.some c.requires.own) c.make_places.ensures.ready)

pub returns-clause-rings : goal.returns-clause-rings
returns-clause-rings c lock among = (c.make_column.ensures.grows.places lock.resource (c.in_ok-make_places.ensures.ok lock among), ap (col_at c.make_column.new.links) (c.requires.own lock among) ∙ c.in_ok-col.ensures.ok)
