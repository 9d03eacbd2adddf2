use Rattle.std.proofs.Common.{◌≡◌, ◌+◌, ap, subst, arith}
use Rattle.slab.specs.Slab.{slab_len}
use Rattle.link_pool.specs.Meaning.{AreRings}
use Rattle.link_pool.proofs.Sound.{on_err, sum_is}
use Rattle.link_pool.proofs.Settled.{rings_hold}
use Rattle.link_pool.proofs.Whole.{room_whole, room_meaning, kept_meaning}
use Rattle.link_pool.proofs.pool.Pool.make_cell.Goals as goal

pub returns-in_err-promised-clause-rings : goal.returns-in_err-promised-clause-rings
returns-in_err-promised-clause-rings g c = subst AreRings c.self.view_is (rings_hold c.self.inside.cells c.self.inside.promised c.self.invariant.sound)

pub invariant_of-self : goal.invariant_of-self
invariant_of-self g c = room_whole c.self.inside.cells c.reserve.new.self c.self.inside.promised c.self.inside.promised c.self.invariant c.reserve.ensures.rest_kept (omega arith) (omega (arith, c.reserve.ensures.capacity, c.self.invariant.backed))

pub returns-in_err-reserve-clause-err : goal.returns-in_err-reserve-clause-err
returns-in_err-reserve-clause-err g c = on_err c.from_residual-in_err-reserve.result (kept_meaning c.self.inside.cells c.reserve.new.self c.self.inside.promised c.args.self.now c.self.view_is c.reserve.ensures.rest_kept)

pub returns-in_err-reserve-clause-rings : goal.returns-in_err-reserve-clause-rings
returns-in_err-reserve-clause-rings g c = let w = invariant_of-self g c in rings_hold c.reserve.new.self c.self.inside.promised w.sound

pub invariant_of-self-2 : goal.invariant_of-self-2
invariant_of-self-2 g c =
    let sum : c.in_ok-promised.promised ≡ c.self.inside.promised + 1 = sum_is _ c.checked_add.ensures c.in_ok-promised.ensures.ok_part in
    room_whole c.self.inside.cells c.reserve.new.self c.self.inside.promised c.in_ok-promised.promised c.self.invariant c.reserve.ensures.rest_kept (omega (arith, sum))
    (omega (arith, sum, c.in_ok-reserve.ensures.room, c.len.ensures, ap slab_len c.reserve.ensures.rest_kept, c.self.invariant.within))

pub returns-clause-ok : goal.returns-clause-ok
returns-clause-ok g c =
    let sum : c.in_ok-promised.promised ≡ c.self.inside.promised + 1 = sum_is _ c.checked_add.ensures c.in_ok-promised.ensures.ok_part in
    room_meaning c.self.inside.cells c.reserve.new.self c.self.inside.promised c.in_ok-promised.promised (c.args.self.now.room + 1) c.args.self.now c.self.view_is c.reserve.ensures.rest_kept (omega (arith, sum, c.self.invariant.within, ap (λ m. m.room) c.self.view_is))

pub returns-clause-rings : goal.returns-clause-rings
returns-clause-rings g c = let w = invariant_of-self-2 g c in rings_hold c.reserve.new.self c.in_ok-promised.promised w.sound
