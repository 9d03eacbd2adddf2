use Rattle.std.proofs.Common.{ℕ, ◌<◌, ◌≡◌, ◌+◌, ◌-◌, arith}
use Rattle.owner_view.specs.States.{told_state}
use Rattle.owner_view.specs.Weights.{reckoned}
use Rattle.owner_view.proofs.Summing.{part_of_sum, turn}
use Rattle.owner_view.proofs.Weighing.{from_total}
use Rattle.owner_view.proofs.weight.total_reckoned.Goals as goal

pub loop-place-init : goal.loop-place-init
loop-place-init g c =
    let es = c.args.view.now.overlay.now.states in
    let S = c.args.view.now.schema.now in (
      λ v. from_total S v.catalog es c.count-place.result c.total-total.result (omega (arith, c.count-place.ensures.count)) (c.total-total.ensures S v.catalog v.shown) (omega arith),
      (let count = c.count-place.ensures.count in omega (arith, count)),
    )

-- the place behind
behind : (place : ℕ) → 0 < place → place ≡ place - 1 + 1
behind place some = omega (arith, some)

pub moved-total-requires-clause-sized : goal.moved-total-requires-clause-sized
moved-total-requires-clause-sized g c = c.slot_in-serial.ensures.sized c.args.view.now.schema.now c.requires.sized

pub moved-total-requires-clause-part : goal.moved-total-requires-clause-part
moved-total-requires-clause-part g c v =
    let es = c.args.view.now.overlay.now.states in
    part_of_sum es c.count-place.ensures.apart (c.loop-place.place - 1) c.slot_in-serial.result.0 (told_state c.slot_in-serial.result.1) c.slot_in-serial.ensures.slot (reckoned c.args.view.now.schema.now) v.catalog c.loop-place.place c.loop-place.total (behind c.loop-place.place c.loop-place-test.true) (c.loop-place.invariant.0 v)

pub loop-place-preserved : goal.loop-place-preserved
loop-place-preserved g c =
    let es = c.args.view.now.overlay.now.states in (
      λ v. turn es c.count-place.ensures.apart (c.loop-place.place - 1) c.slot_in-serial.result.0 (told_state c.slot_in-serial.result.1) c.slot_in-serial.ensures.slot (reckoned c.args.view.now.schema.now) v.catalog c.loop-place.place c.loop-place.total (behind c.loop-place.place c.loop-place-test.true) (c.loop-place.invariant.0 v) c.moved-total.result (c.moved-total.ensures.moves v),
      (let some = c.loop-place-test.true in let so = c.loop-place.invariant.1 in let more = c.moved-total.ensures.small in omega (arith, some, so, more)),
    )
