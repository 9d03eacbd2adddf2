use Rattle.std.proofs.Common.{refl, subst, sym}
use Rattle.pss_copies.specs.Seats.{Attends}
use Rattle.pss_copies.proofs.Held.{freed_attends}
use Rattle.pss_copies.proofs.attended.Attended.free_all.Goals as goal

pub returns-clause-freed : goal.returns-clause-freed
returns-clause-freed g c k some at =
    freed_attends c.self.inside.parts (record { sessions = c.self.inside.parts.sessions; copies = c.free_all.new.self }) c.args.session refl c.free_all.ensures.lasts c.free_all.ensures.freed k some (subst (Attends k) (sym c.self.view_is) at)
