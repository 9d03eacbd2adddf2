use Rattle.std.proofs.Common.{sym, refl}
use Rattle.pss_base.proofs.Pieces.{up_to_feed}
use Rattle.pss_base.proofs.part.piece_near.Goals as goal

pub returns-in-Some : goal.returns-in-Some
returns-in-Some c = (up_to_feed c.args.bytes.now c.in-Some.len c.in-Some.ensures, refl)
