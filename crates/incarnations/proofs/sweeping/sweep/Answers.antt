use Rattle.std.proofs.Common.{sym, ◌∙◌, subst, arith}
use Rattle.std.specs.FinMap.{get}
use Rattle.incarnations.specs.Stock.{chosen_by, IsPassed}
use Rattle.recent_table.proofs.Maps.{no_value}
use Rattle.incarnations.proofs.Sets.{some}
use Rattle.incarnations.proofs.Freed.{entry_found, spot_found, nobody_attached, loosened_absent}
use Rattle.incarnations.proofs.Swept.{home_col, swept_none, some_next, next_there, swept_more, swept_all}
use Rattle.incarnations.proofs.sweeping.sweep.Goals as goal

pub first_of_col-next-requires : goal.first_of_col-next-requires
first_of_col-next-requires g c = home_col c.args.stock.now c.requires c.args.session c.args.chosen c.in-Some.home (sym c.in-Some.ensures)

pub loop-init : goal.loop-init
loop-init g c = record { swept = swept_none c.args.stock.now c.requires c.args.session c.args.chosen c.in-Some.home (sym c.in-Some.ensures) c.first_of_col-next.result c.first_of_col-next.ensures.first; steps = omega (arith, c.first_of_col-next.ensures.steps) }

pub unreachable-requires : goal.unreachable-requires
unreachable-requires g c = some_next c.args.stock.now c.args.session c.args.chosen c.in-Some.home.attached c.loop.stock c.loop.next c.loop.counter c.loop.invariant.swept (omega (arith, c.loop-test.true)) c.in_default-next.is

pub next_in_col-next-requires : goal.next_in_col-next-requires
next_in_col-next-requires g c = some (get c.loop.stock.pool.nodes c.in-Some-next.node) (next_there c.args.stock.now c.args.session c.args.chosen c.in-Some.home.attached c.loop.stock c.loop.next c.loop.counter c.loop.invariant.swept (omega (arith, c.loop-test.true)) c.in-Some-next.node c.in-Some-next.is).is

pub item-slot-requires : goal.item-slot-requires
item-slot-requires g c = some (get c.loop.stock.pool.nodes c.in-Some-next.node) (next_there c.args.stock.now c.args.session c.args.chosen c.in-Some.home.attached c.loop.stock c.loop.next c.loop.counter c.loop.invariant.swept (omega (arith, c.loop-test.true)) c.in-Some-next.node c.in-Some-next.is).is

pub unreachable-requires-in_default-get : goal.unreachable-requires-in_default-get
unreachable-requires-in_default-get g c = let e = entry_found c.loop.stock c.loop.invariant.swept.sound c.in-Some-next.node c.item-slot.result.now c.item-slot.ensures in no_value e.was (c.in_default-get.ensures ∙ e.at)

pub loop-preserved : goal.loop-preserved
loop-preserved g c = record {
  swept =
      swept_more c.args.stock.now c.args.session c.args.chosen c.in-Some.home.attached c.loop.stock c.loop.next c.loop.counter c.loop.invariant.swept (omega (arith, c.loop-test.true)) c.in-Some-next.node c.in-Some-next.is c.item-slot.result.now c.item-slot.ensures c.in-Some-get.was (sym c.in-Some-get.ensures) c.turn.new.stock c.turn.ensures.sound c.turn.ensures.entries c.turn.ensures.cols
      (subst (λ n. IsPassed c.loop.stock.pool c.turn.new.stock.pool n) (spot_found c.loop.stock c.loop.invariant.swept.sound c.in-Some-next.node c.item-slot.result.now c.item-slot.ensures c.in-Some-get.was (sym c.in-Some-get.ensures)) c.turn.ensures.passed) c.next_in_col-next.result c.next_in_col-next.ensures.next;
  steps = omega (arith, c.loop.invariant.steps, c.next_in_col-next.ensures.steps, c.tick.ensures);
}

pub turn-requires-clause-sound : goal.turn-requires-clause-sound
turn-requires-clause-sound g c = c.loop.invariant.swept.sound

pub returns-in_default-clause-left : goal.returns-in_default-clause-left
returns-in_default-clause-left g c = loosened_absent c.args.stock.now c.requires c.args.session (chosen_by c.args.chosen) (sym c.in_default.ensures)

pub returns-clause-sound : goal.returns-clause-sound
returns-clause-sound g c = c.loop.invariant.swept.sound

pub returns-clause-lasts : goal.returns-clause-lasts
returns-clause-lasts g c = c.loop.invariant.swept.lasts

pub returns-clause-left : goal.returns-clause-left
returns-clause-left g c = swept_all c.args.stock.now c.args.session c.args.chosen c.in-Some.home.attached c.loop.stock c.loop.next c.loop.counter c.loop.invariant.swept (omega (arith, c.loop-test.false, c.loop.auto.counter-end))

pub returns-in_default-clause-each : goal.returns-in_default-clause-each
returns-in_default-clause-each g c = omega (arith, nobody_attached c.args.stock.now c.requires c.args.session (sym c.in_default.ensures))

pub returns-clause-each : goal.returns-clause-each
returns-clause-each g c = omega (arith, c.loop-test.false, c.loop.auto.counter-end, c.loop.invariant.steps, (c.requires.fronts c.args.session c.in-Some.home (sym c.in-Some.ensures)).counted)

pub returns-clause-at_most : goal.returns-clause-at_most
returns-clause-at_most g c = omega (arith, c.loop-test.false, c.loop.auto.counter-end, c.loop.invariant.steps, (c.requires.fronts c.args.session c.in-Some.home (sym c.in-Some.ensures)).counted)
