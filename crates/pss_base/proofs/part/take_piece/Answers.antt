use Rattle.pss_base.proofs.Pieces.{over_room}
use Rattle.pss_base.proofs.part.take_piece.Goals as goal

pub returns-then-piece-room-clause-err : goal.returns-then-piece-room-clause-err
returns-then-piece-room-clause-err c =
    let is = over_room c.piece_of-piece.result c.args.ahead.now _ (rw c.as_slice.ensures at c.piece_of-piece.ensures) c.if-piece-room.true in
    (is.0, is.1, c.skip.ensures)
