use Rattle.std.proofs.Common.{inr, refl, ◌∙◌, arith}
use Rattle.pss_disk.specs.Octets.{range_of}
use Rattle.pss_recovery.proofs.Blank.{blank_written, told_written}
use Rattle.pss_recovery.proofs.Silent.{silent_then, silent_write}
use Rattle.pss_recovery.proofs.clearing.clear.Goals as goal

pub returns-in_err-write_at-clause-silent : goal.returns-in_err-write_at-clause-silent
returns-in_err-write_at-clause-silent g c =
    let now = g.W.Station.now in
    let history = g.W.Station.history in
    let speak_faults = g.W.Station.speak_faults in
    silent_then now history speak_faults c.args.w.now c.pieces.w c.write_at.new.self c.pieces.invariant.silent
    (silent_write now history speak_faults c.pieces.w c.write_at.new.self (range_of c.pieces.at c.args.piece.now) c.write_at.ensures.time c.in_err-write_at.ensures.maybe c.write_at.ensures.other)

pub pieces-preserved : goal.pieces-preserved
pieces-preserved g c =
    let now = g.W.Station.now in
    let history = g.W.Station.history in
    let speak_faults = g.W.Station.speak_faults in
    let before = c.pieces.invariant in
    record {
      at_ = omega (arith, before.at_);
      blank = blank_written c.pieces.at c.pieces.at c.args.piece.now (g.W.Station.content c.pieces.w) (g.W.Station.content c.write_at.new.self) refl c.requires.zero c.in_ok-write_at.ensures.written before.blank;
      told = λ some. told_written c.pieces.at c.args.piece.now (g.W.Station.content c.pieces.w) (g.W.Station.content c.write_at.new.self) c.in_ok-write_at.ensures.written (before.told some);
      silent = silent_then now history speak_faults c.args.w.now c.pieces.w c.write_at.new.self before.silent
          (silent_write now history speak_faults c.pieces.w c.write_at.new.self (range_of c.pieces.at c.args.piece.now) c.write_at.ensures.time (inr c.in_ok-write_at.ensures.now) c.write_at.ensures.other);
      cause = c.in_ok-write_at.ensures.cause.kept ∙ before.cause;
    }
