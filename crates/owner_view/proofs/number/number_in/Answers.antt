use Rattle.std.proofs.Common.{ℕ, ◌<◌, ◌≡◌, ◌+◌, ◌-◌, ◌^◌, length, drop, sym, ap, ◌∙◌, arith}
use Rattle.std.specs.FinMap.{entries}
use Rattle.storage_home.specs.Kept.{is_of}
use Rattle.owner_view.specs.Overlay.{changes_in}
use Rattle.owner_view.specs.States.{told_state}
use Rattle.owner_view.specs.Views.{one_where, seen_with}
use Rattle.owner_view.proofs.Numbers.{summed, fewer_pass}
use Rattle.owner_view.proofs.Summing.{sum_with, begins, part_of_sum, turn}
use Rattle.owner_view.proofs.number.number_in.Goals as goal

pub loop-place-init : goal.loop-place-init
loop-place-init g c =
    let es = c.args.view.now.overlay.now.states in
    let S = c.args.view.now.schema.now in
    let test = is_of S c.args.home in
    let v = c.requires in
    let number = c.number-number.ensures S v.catalog v.shown in
    let few : length (entries v.catalog) < 2 ^ 60 = g.met.C.Committed.few c.args.view.now.committed.now S v.catalog v.shown in
    let count = c.count-place.ensures.count in (
      λ v. c.number-number.ensures S v.catalog v.shown ∙ sym (summed test v.catalog) ∙ begins (one_where test) v.catalog es c.count-place.result (omega (arith, c.count-place.ensures.count)),
      omega (arith, count, number, few, fewer_pass test (entries v.catalog)),
    )

-- the place behind
behind : (place : ℕ) → 0 < place → place ≡ place - 1 + 1
behind place some = omega (arith, some)

pub moved-number-requires-clause-part : goal.moved-number-requires-clause-part
moved-number-requires-clause-part g c v =
    let es = c.args.view.now.overlay.now.states in
    part_of_sum es c.count-place.ensures.apart (c.loop-place.place - 1) c.slot_in-serial.result.0 (told_state c.slot_in-serial.result.1) c.slot_in-serial.ensures.slot (one_where (is_of c.args.view.now.schema.now c.args.home)) v.catalog c.loop-place.place c.loop-place.number (behind c.loop-place.place c.loop-place-test.true) (c.loop-place.invariant.0 v)

pub moved-number-requires-clause-small : goal.moved-number-requires-clause-small
moved-number-requires-clause-small g c = (let so = c.loop-place.invariant.1 in let few = c.count-place.ensures.few in let count = c.count-place.ensures.count in omega (arith, so, few, count))

pub loop-place-preserved : goal.loop-place-preserved
loop-place-preserved g c =
    let es = c.args.view.now.overlay.now.states in (
      λ v. turn es c.count-place.ensures.apart (c.loop-place.place - 1) c.slot_in-serial.result.0 (told_state c.slot_in-serial.result.1) c.slot_in-serial.ensures.slot (one_where (is_of c.args.view.now.schema.now c.args.home)) v.catalog c.loop-place.place c.loop-place.number (behind c.loop-place.place c.loop-place-test.true) (c.loop-place.invariant.0 v) c.moved-number.result (c.moved-number.ensures.moves v),
      (let some = c.loop-place-test.true in let so = c.loop-place.invariant.1 in let more = c.moved-number.ensures.small in omega (arith, some, so, more)),
    )

pub returns : goal.returns
returns g c v =
    let es = c.args.view.now.overlay.now.states in
    let test = is_of c.args.view.now.schema.now c.args.home in
    let end : c.loop-place.place ≡ 0 = (let done = c.loop-place-test.false in omega (arith, done)) in
    c.loop-place.invariant.0 v ∙ ap (λ (n : ℕ). sum_with (one_where test) v.catalog (drop n es)) end ∙ summed test (seen_with v.catalog (changes_in c.args.view.now.overlay.now))
