use Rattle.std.proofs.Common.{rules}
use Rattle.pss_base.proofs.Pieces.{never_more}
use Rattle.pss_base.proofs.Taking.{more, at_feed, stops}
use Rattle.pss_base.proofs.part.read_pieces.Goals as goal

pub returns-in-Err-clause-err : goal.returns-in-Err-clause-err
returns-in-Err-clause-err g c = stops _ _ _ _ _ _ _ _ _ c.pieces.invariant.taken c.in-Ok.ensures.kept c.in-Err.ensures.err

pub returns-then-piece-clause-ok : goal.returns-then-piece-clause-ok
returns-then-piece-clause-ok g c = at_feed _ _ _ _ _ _ _ _ _ c.in-Ok-take_piece.piece c.pieces.invariant.taken c.in-Ok.ensures.kept c.in-Ok-take_piece.ensures.ok c.if-piece.true

pub pieces-preserved : goal.pieces-preserved
pieces-preserved g c = record {
  taken = more _ _ _ _ _ _ _ _ _ c.in-Ok-take_piece.piece c.pieces.invariant.taken c.in-Ok.ensures.kept c.in-Ok-take_piece.ensures.ok c.if-piece.false;
  unread = λ holds. absurd (never_more c.in-Ok-take_piece.piece _ c.pieces.ahead c.refill.new.self _ _ holds (c.pieces.invariant.unread holds).1 (λ some. (c.refill.ensures.unread some).0)
      c.in-Ok-take_piece.ensures.ok.cut c.if-piece.false c.in-Ok-take_piece.ensures.ok.fits);
  cause = search rules;
}
