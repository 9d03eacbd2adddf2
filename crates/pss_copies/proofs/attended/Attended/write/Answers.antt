use Rattle.std.proofs.Common.{refl, subst, sym}
use Rattle.pss_copies.specs.Seats.{Attends}
use Rattle.pss_copies.proofs.Written.{set_attends}
use Rattle.pss_copies.proofs.attended.Attended.write.Goals as goal

pub returns : goal.returns
returns g c k step sets homes at =
    set_attends k c.self.inside.parts (record { sessions = c.self.inside.parts.sessions; copies = c.rewrite.new.self }) c.detach_pid.new.copies c.args.owner step c.args.pid c.args.value sets homes c.copies_hold.ensures (subst (Attends k) (sym c.self.view_is) at) refl c.detach_pid.ensures.lasts c.detach_pid.ensures.left
    c.rewrite.ensures
