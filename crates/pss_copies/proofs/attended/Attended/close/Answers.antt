use Rattle.std.proofs.Common.{subst, sym}
use Rattle.pss_copies.specs.Seats.{Attends}
use Rattle.pss_copies.proofs.Opened.{closed_attends}
use Rattle.pss_copies.proofs.attended.Attended.close.Goals as goal

pub returns-clause-closed : goal.returns-clause-closed
returns-clause-closed g c k at = closed_attends k _ _ c.args.session c.remove.ensures.closed c.remove.ensures.lasts c.remove.ensures.freed (subst (Attends k) (sym c.self.view_is) at)
