use Rattle.std.proofs.Common.{sym}
use Rattle.pss_base.proofs.Pieces.{up_to_feed, up_to_end}
use Rattle.pss_base.proofs.part.piece_of.Goals as goal

pub returns-in-Some : goal.returns-in-Some
returns-in-Some c = up_to_feed c.args.bytes.now c.in-Some.len (sym c.in-Some.ensures)

pub returns-in-None : goal.returns-in-None
returns-in-None c = up_to_end c.args.bytes.now (sym c.in-None.ensures)
