use Rattle.std.proofs.Common.{◌+◌, refl, ◌∙◌, arith}
use Rattle.page_format.specs.Places.{slot_start}
use Rattle.page_format.proofs.Buffers.{some_both}
use Rattle.pss_disk.proofs.Reading.{reads_then}
use Rattle.pss_recovery.proofs.EntryPlaces.{walk_on}
use Rattle.pss_recovery.proofs.Telling.{told_before}
use Rattle.pss_recovery.proofs.entry_places.place_in.Goals as goal

pub entries-preserved : goal.entries-preserved
entries-preserved g c =
    let reads = c.entries.invariant.2 in
    let number = told_before (g.W.Station.content c.args.w.now) (g.W.Station.content c.entries.w) _ reads.same c.in_ok-at.ensures.number in (
      omega (arith, c.if-at-end.false, c.requires),
      some_both (g.W.Station.content c.args.w.now) _ _ _
          (λ image here is. walk_on image (slot_start c.args.slot) c.entries.k c.entries.at c.in_ok-at.field-0 (c.entries.at + (16 + c.in_ok-at.field-0)) here is refl) c.entries.invariant.1 number,
      reads_then g.W.Station.now g.W.Station.content g.W.Station.history g.W.Station.speak_faults c.args.w.now c.entries.w c.number_at.new.w reads c.number_at.ensures.reads,
      c.in_ok-at.ensures.cause.kept ∙ c.entries.invariant.3,
    )
