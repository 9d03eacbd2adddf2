use Rattle.std.proofs.Common.{ap}
use Rattle.std.specs.Option.{option_map}
use Rattle.link_pool.proofs.Settled.{rings_hold}
use Rattle.link_pool.proofs.Told.{seat_found, seat_told}
use Rattle.link_pool.proofs.Whole.{unlinked_whole, unlinked_told}
use Rattle.link_pool.proofs.pool.Pool.unlink_uncounted.Goals as goal

pub take_out-item-requires-clause-node : goal.take_out-item-requires-clause-node
take_out-item-requires-clause-node g c = seat_found c.self.inside.cells c.self.inside.promised c.args.self.now c.self.view_is c.args.node c.requires

pub invariant_of-self : goal.invariant_of-self
invariant_of-self g c =
    let t = c.take_out-item.ensures in
    unlinked_whole c.self.inside.cells c.take_out-item.new.cells c.self.inside.promised c.self.invariant t.capacity c.args.node c.take_out-item.result t.seat t.rows t.cols t.len

pub returns-clause-item : goal.returns-clause-item
returns-clause-item g c = ap (option_map (λ seat. seat.item)) (seat_told c.self.inside.cells c.self.inside.promised c.args.self.now c.self.view_is c.args.node c.take_out-item.result c.take_out-item.ensures.seat)

pub returns-clause-unlinked : goal.returns-clause-unlinked
returns-clause-unlinked g c =
    let t = c.take_out-item.ensures in
    unlinked_told c.self.inside.cells c.take_out-item.new.cells c.self.inside.promised c.self.invariant t.capacity c.args.node c.take_out-item.result t.seat t.rows t.cols t.len c.args.self.now c.self.view_is

pub returns-clause-rings : goal.returns-clause-rings
returns-clause-rings g c =
    let t = c.take_out-item.ensures in
    let w = unlinked_whole c.self.inside.cells c.take_out-item.new.cells c.self.inside.promised c.self.invariant t.capacity c.args.node c.take_out-item.result t.seat t.rows t.cols t.len in
    rings_hold c.take_out-item.new.cells c.self.inside.promised w.sound
