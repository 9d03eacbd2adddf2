use Rattle.std.proofs.Common.{◌≡◌, sym, ◌∙◌, arith}
use Rattle.std.specs.FinMap.{get}
use Rattle.recent_table.specs.Maps.{count}
use Rattle.incarnations.specs.Meaning.{stands_on}
use Rattle.recent_table.proofs.Maps.{no_value}
use Rattle.incarnations.proofs.Sets.{some, plain, nobody_on}
use Rattle.incarnations.proofs.Freed.{entry_found, row_there, row_some, first_in_row, first_stood, cleared_none, cleared_more, cleared_all, cleared_absent, still, place_row, place_load, place_none}
use Rattle.incarnations.proofs.sweeping.clear.Goals as goal

pub loop-init : goal.loop-init
loop-init g c = record { cleared = cleared_none c.args.stock.now c.args.name c.requires c.in-Some.place.row (place_row c.args.stock.now c.requires c.args.name c.in-Some.place c.in-Some.ensures); steps = omega arith }

pub first_of_row-requires : goal.first_of_row-requires
first_of_row-requires g c = row_there c.loop.stock c.loop.invariant.cleared.sound c.args.name c.in-Some.place.row (still c.args.stock.now c.args.name c.loop.stock c.in-Some.place.row c.loop.counter c.loop.invariant.cleared (omega (arith, c.loop-test.true, c.loop.invariant.cleared.left, place_load c.args.stock.now c.requires c.args.name c.in-Some.place c.in-Some.ensures)))

pub unreachable-requires : goal.unreachable-requires
unreachable-requires g c = row_some c.loop.stock c.loop.invariant.cleared.sound c.args.name c.in-Some.place.row (still c.args.stock.now c.args.name c.loop.stock c.in-Some.place.row c.loop.counter c.loop.invariant.cleared (omega (arith, c.loop-test.true, c.loop.invariant.cleared.left, place_load c.args.stock.now c.requires c.args.name c.in-Some.place c.in-Some.ensures))) (omega (arith, c.loop-test.true, c.loop.invariant.cleared.left, place_load c.args.stock.now c.requires c.args.name c.in-Some.place c.in-Some.ensures)) (sym c.in_default-first_of_row.ensures.first)

pub item-slot-requires : goal.item-slot-requires
item-slot-requires g c = some (get c.loop.stock.pool.nodes c.in-Some-first_of_row.node) (first_in_row c.loop.stock c.loop.invariant.cleared.sound c.args.name c.in-Some.place.row (still c.args.stock.now c.args.name c.loop.stock c.in-Some.place.row c.loop.counter c.loop.invariant.cleared (omega (arith, c.loop-test.true, c.loop.invariant.cleared.left, place_load c.args.stock.now c.requires c.args.name c.in-Some.place c.in-Some.ensures))) c.in-Some-first_of_row.node (sym c.in-Some-first_of_row.ensures.first)).is

pub unreachable-requires-in_default-get : goal.unreachable-requires-in_default-get
unreachable-requires-in_default-get g c = let e = entry_found c.loop.stock c.loop.invariant.cleared.sound c.in-Some-first_of_row.node c.item-slot.result.now c.item-slot.ensures in no_value e.was (c.in_default-get.ensures ∙ e.at)

pub loop-preserved : goal.loop-preserved
loop-preserved g c = record {
  cleared =
      cleared_more c.args.stock.now c.args.name c.loop.stock c.in-Some.place.row c.loop.counter c.loop.invariant.cleared c.item-slot.result.now c.in-Some-get.was (sym c.in-Some-get.ensures)
      (first_stood c.loop.stock c.loop.invariant.cleared.sound c.args.name c.in-Some.place.row (still c.args.stock.now c.args.name c.loop.stock c.in-Some.place.row c.loop.counter c.loop.invariant.cleared (omega (arith, c.loop-test.true, c.loop.invariant.cleared.left, place_load c.args.stock.now c.requires c.args.name c.in-Some.place c.in-Some.ensures))) c.in-Some-first_of_row.node (sym c.in-Some-first_of_row.ensures.first) c.item-slot.result.now c.in-Some-get.was c.item-slot.ensures (sym c.in-Some-get.ensures)) c.turn.new.stock c.turn.ensures.sound c.turn.ensures.rows c.turn.ensures.entries;
  steps = omega (arith, c.loop.invariant.steps, c.first_of_row.ensures.steps, c.tick.ensures);
}

pub returns-in_default-clause-left : goal.returns-in_default-clause-left
returns-in_default-clause-left g c = cleared_absent c.args.stock.now c.requires c.args.name (place_none c.args.stock.now c.requires c.args.name c.in_default.ensures)

pub returns-clause-left : goal.returns-clause-left
returns-clause-left g c =
    cleared_all c.args.stock.now c.args.name c.loop.stock c.in-Some.place.row c.loop.counter c.loop.invariant.cleared (let all : count (stands_on c.args.name) (plain c.args.stock.now.entries) ≡ c.loop.counter = omega (arith, c.loop-test.false, c.loop.auto.counter-end, place_load c.args.stock.now c.requires c.args.name c.in-Some.place c.in-Some.ensures) in all)

pub returns-in_default-clause-each : goal.returns-in_default-clause-each
returns-in_default-clause-each g c = omega (arith, nobody_on c.args.stock.now c.requires c.args.name (place_none c.args.stock.now c.requires c.args.name c.in_default.ensures))

pub returns-clause-each : goal.returns-clause-each
returns-clause-each g c = omega (arith, c.loop-test.false, c.loop.auto.counter-end, c.loop.invariant.steps, place_load c.args.stock.now c.requires c.args.name c.in-Some.place c.in-Some.ensures)

pub returns-clause-at_most : goal.returns-clause-at_most
returns-clause-at_most g c = omega (arith, c.loop-test.false, c.loop.auto.counter-end, c.loop.invariant.steps, place_load c.args.stock.now c.requires c.args.name c.in-Some.place c.in-Some.ensures)
