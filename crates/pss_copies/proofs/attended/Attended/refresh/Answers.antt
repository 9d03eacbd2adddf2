use Rattle.std.proofs.Common.{refl, subst, sym}
use Rattle.pss_copies.specs.Seats.{Attends}
use Rattle.pss_copies.proofs.Held.{refreshed_attends}
use Rattle.pss_copies.proofs.attended.Attended.refresh.Goals as goal

pub returns-clause-refreshed : goal.returns-clause-refreshed
returns-clause-refreshed g c k x there some at =
    refreshed_attends c.self.inside.parts (record { sessions = c.self.inside.parts.sessions; copies = c.refresh.new.copies }) c.args.session c.copies_hold.ensures refl c.refresh.ensures.lasts c.refresh.ensures.left k x there some (subst (Attends k) (sym c.self.view_is) at)
