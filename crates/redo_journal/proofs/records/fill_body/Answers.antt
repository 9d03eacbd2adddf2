use Rattle.std.proofs.Common.{refl, false, ◌∙◌, arith}
use Rattle.pss_disk.proofs.Reading.{reads_then}
use Rattle.redo_journal.proofs.Pieces.{body_grows}
use Rattle.redo_journal.proofs.records.fill_body.Goals as goal

pub loop-done-preserved : goal.loop-done-preserved
loop-done-preserved g c =
    let now = c.loop-done.w in
    let before = c.loop-done.invariant in
    let step = c.in_ok-done.ensures in
    record {
      most = omega (arith, step.most);
      len = omega (arith, step.len, before.len);
      filled = body_grows c.args.at c.loop-done.done c.in_ok-done.field-0 c.loop-done.body c.take_piece.new.body (g.W.Station.content c.args.w.now) (g.W.Station.content now) before.reads.same before.filled step.taken;
      piece = step.piece;
      reads = reads_then g.W.Station.now g.W.Station.content g.W.Station.history g.W.Station.speak_faults c.args.w.now now c.take_piece.new.w before.reads step.reads;
      cause = step.cause.kept (refl {a = false}) ∙ before.cause;
    }
