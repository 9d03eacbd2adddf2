use Rattle.std.proofs.Common.{◌∙◌, subst, sym}
use Rattle.pss_copies.specs.Seats.{Attends}
use Rattle.pss_copies.proofs.Counts.{bodies_counted}
use Rattle.pss_copies.proofs.attended.Attended.bodies.Goals as goal

pub returns : goal.returns
returns c k orderly at = c.bodies.ensures ∙ bodies_counted k c.self.inside.parts c.copies_hold.ensures c.self.invariant orderly (subst (Attends k) (sym c.self.view_is) at)
