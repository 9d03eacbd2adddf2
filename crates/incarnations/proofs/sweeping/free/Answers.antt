use Rattle.std.proofs.Common.{◌≡◌, ◌<◌, sym, ap, ◌∙◌, arith}
use Rattle.std.specs.Option.{option_map}
use Rattle.std.specs.FinMap.{get}
use Rattle.recent_table.specs.Maps.{count}
use Rattle.incarnations.specs.Meaning.{is_of}
use Rattle.recent_table.proofs.Maps.{no_value}
use Rattle.incarnations.proofs.Sets.{some, plain}
use Rattle.incarnations.proofs.Freed.{entry_found, col_there, column_some, first_at, first_entry, freed_none, freed_more, freed_all, nobody_of, freed_absent}
use Rattle.incarnations.proofs.sweeping.free.Goals as goal

pub loop-init : goal.loop-init
loop-init g c = record { freed = freed_none c.args.stock.now c.args.session c.requires c.in-Some.home.col (ap (option_map (λ r. r.col)) (sym c.in-Some.ensures)); steps = omega arith }

pub first_of_col-requires : goal.first_of_col-requires
first_of_col-requires g c = col_there c.loop.stock c.loop.invariant.freed.sound c.args.session c.in-Some.home.col c.loop.invariant.freed.col_is

pub unreachable-requires : goal.unreachable-requires
unreachable-requires g c =
    let more : 0 < count (is_of c.args.session) (plain c.loop.stock.entries) = omega (arith, c.loop-test.true, c.loop.invariant.freed.left, c.requires.counts.sessions c.args.session c.in-Some.home.entries (ap (option_map (λ r. r.entries)) (sym c.in-Some.ensures))) in
    column_some c.loop.stock c.loop.invariant.freed.sound c.args.session c.in-Some.home.col c.loop.invariant.freed.col_is more (sym c.in_default-first_of_col.ensures.first)

pub item-slot-requires : goal.item-slot-requires
item-slot-requires g c = some (get c.loop.stock.pool.nodes c.in-Some-first_of_col.node) (first_at c.loop.stock c.loop.invariant.freed.sound c.args.session c.in-Some.home.col c.loop.invariant.freed.col_is c.in-Some-first_of_col.node (sym c.in-Some-first_of_col.ensures.first)).is

pub unreachable-requires-in_default-get : goal.unreachable-requires-in_default-get
unreachable-requires-in_default-get g c = let e = entry_found c.loop.stock c.loop.invariant.freed.sound c.in-Some-first_of_col.node c.item-slot.result.now c.item-slot.ensures in no_value e.was (c.in_default-get.ensures ∙ e.at)

pub loop-preserved : goal.loop-preserved
loop-preserved g c = record {
  freed =
      freed_more c.args.stock.now c.args.session c.loop.stock c.in-Some.home.col c.loop.counter c.loop.invariant.freed c.item-slot.result.now c.in-Some-get.was (sym c.in-Some-get.ensures) (first_entry c.loop.stock c.loop.invariant.freed.sound c.args.session c.in-Some.home.col c.loop.invariant.freed.col_is c.in-Some-first_of_col.node (sym c.in-Some-first_of_col.ensures.first) c.item-slot.result.now c.item-slot.ensures) c.erase.new.stock c.erase.ensures.sound
      c.erase.ensures.cols c.erase.ensures.erased;
  steps = omega (arith, c.loop.invariant.steps, c.first_of_col.ensures.steps, c.tick.ensures);
}

pub returns-in_default-clause-left : goal.returns-in_default-clause-left
returns-in_default-clause-left g c = freed_absent c.args.stock.now c.requires c.args.session (sym c.in_default.ensures)

pub returns-clause-left : goal.returns-clause-left
returns-clause-left g c =
    freed_all c.args.stock.now c.args.session c.loop.stock c.in-Some.home.col c.loop.counter c.loop.invariant.freed (let all : count (is_of c.args.session) (plain c.args.stock.now.entries) ≡ c.loop.counter = omega (arith, c.loop-test.false, c.loop.auto.counter-end, c.requires.counts.sessions c.args.session c.in-Some.home.entries (ap (option_map (λ r. r.entries)) (sym c.in-Some.ensures))) in all)

pub returns-in_default-clause-each : goal.returns-in_default-clause-each
returns-in_default-clause-each g c = omega (arith, nobody_of c.args.stock.now c.requires c.args.session (sym c.in_default.ensures))

pub returns-clause-each : goal.returns-clause-each
returns-clause-each g c = omega (arith, c.loop-test.false, c.loop.auto.counter-end, c.loop.invariant.steps, c.requires.counts.sessions c.args.session c.in-Some.home.entries (ap (option_map (λ r. r.entries)) (sym c.in-Some.ensures)))

pub returns-clause-at_most : goal.returns-clause-at_most
returns-clause-at_most g c = omega (arith, c.loop-test.false, c.loop.auto.counter-end, c.loop.invariant.steps, c.requires.counts.sessions c.args.session c.in-Some.home.entries (ap (option_map (λ r. r.entries)) (sym c.in-Some.ensures)))
