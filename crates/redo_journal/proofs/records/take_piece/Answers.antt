use Rattle.std.proofs.Common.{ap, arith, length-drop, ◌-◌, length}
use Rattle.redo_journal.proofs.Pieces.{piece_taken}
use Rattle.redo_journal.proofs.records.take_piece.Goals as goal

pub returns-in-Ok-extend-clause-taken : goal.returns-in-Ok-extend-clause-taken
returns-in-Ok-extend-clause-taken g c =
    let window = c.reach.new.self in
    let covers = c.in-Ok.ensures.covers in
    piece_taken window c.args.at c.min-count.result c.ahead-ahead.result.now c.args.body.now c.extend.new.self (g.W.Station.content c.args.w.now) (g.W.Station.content c.reach.new.w) c.in-Ok.ensures.piece c.in-Ok.ensures.reads.same
    covers.0 (omega (arith, covers.1)) c.ahead-ahead.ensures
    (omega (arith, c.min-count.ensures, ap length c.ahead-ahead.ensures, length-drop (c.args.at - window.at) window.octets.items)) c.in-Ok-extend.ensures.ok
