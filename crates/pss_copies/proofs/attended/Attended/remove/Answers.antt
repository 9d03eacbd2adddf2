use Rattle.std.proofs.Common.{◌∙◌, refl, subst, sym}
use Rattle.pss_copies.specs.Seats.{Attends}
use Rattle.pss_copies.proofs.Removed.{destroy_attends}
use Rattle.pss_copies.proofs.attended.Attended.remove.Goals as goal

pub returns : goal.returns
returns g c k step goes homes at =
    destroy_attends k c.self.inside.parts (record { sessions = c.self.inside.parts.sessions; copies = c.detach_body.new.self }) c.detach_pid.new.copies c.args.owner step c.args.pid goes homes c.copies_hold.ensures c.copies_hold-2.ensures (subst (Attends k) (sym c.self.view_is) at) refl (c.detach_body.ensures.lasts ∙ c.detach_pid.ensures.lasts) c.detach_pid.ensures.left
    c.detach_body.ensures.left
