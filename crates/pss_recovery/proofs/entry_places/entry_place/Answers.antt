use Rattle.std.proofs.Common.{◌∙◌, arith}
use Rattle.pss_disk.proofs.Reading.{reads_then}
use Rattle.page_format.proofs.Buffers.{some_both}
use Rattle.pss_recovery.proofs.EntryPlaces.{found_told, passed_on}
use Rattle.pss_recovery.proofs.Telling.{told_before}
use Rattle.pss_recovery.proofs.entry_places.entry_place.Goals as goal

pub returns-then-left-count-clause-place : goal.returns-then-left-count-clause-place
returns-then-left-count-clause-place g c =
    let old = g.W.Station.content c.args.w.now in
    let reads = c.loop-slot.invariant.2 in
    let number = told_before old (g.W.Station.content c.loop-slot.w) _ reads.same c.in_ok-count.ensures.number in
    found_told c.args.slots.now c.loop-slot.slot-index c.loop-slot-test.true c.args.index c.loop-slot.left c.in_ok-count.count c.loop-slot.invariant.0 c.place_in.result old (g.W.Station.content c.number_at.new.w) (c.number_at.ensures.reads.same ∙ reads.same) c.loop-slot.invariant.1 number c.if-left-count.true
    c.place_in.ensures.place

pub loop-slot-preserved : goal.loop-slot-preserved
loop-slot-preserved g c =
    let old = g.W.Station.content c.args.w.now in
    let reads = c.loop-slot.invariant.2 in
    let number = told_before old (g.W.Station.content c.loop-slot.w) _ reads.same c.in_ok-count.ensures.number in (
      omega (arith, c.loop-slot.invariant.0),
      some_both old _ _ _ (λ image passed is. passed_on c.args.slots.now c.loop-slot.slot-index c.loop-slot-test.true c.args.index c.loop-slot.left c.in_ok-count.count c.loop-slot.invariant.0 image c.if-left-count.false passed is) c.loop-slot.invariant.1 number,
      reads_then g.W.Station.now g.W.Station.content g.W.Station.history g.W.Station.speak_faults c.args.w.now c.loop-slot.w c.number_at.new.w reads c.number_at.ensures.reads,
      c.in_ok-count.ensures.cause.kept ∙ c.loop-slot.invariant.3,
    )
