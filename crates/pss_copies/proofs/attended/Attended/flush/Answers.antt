use Rattle.std.proofs.Common.{◌∙◌, refl, subst, sym}
use Rattle.pss_copies.specs.Seats.{Attends}
use Rattle.pss_copies.proofs.Commits.{flush_attends}
use Rattle.pss_copies.proofs.attended.Attended.flush.Goals as goal

pub returns : goal.returns
returns g c k may at =
    flush_attends k c.self.inside.parts (record { sessions = c.self.inside.parts.sessions; copies = c.detach_bodies-2.new.copies }) c.detach_bodies.new.copies c.args.owner c.args.pids.now c.args.own.now may c.copies_hold.ensures c.copies_hold-2.ensures
    (subst (Attends k) (sym c.self.view_is) at) refl (c.detach_bodies-2.ensures.lasts ∙ c.detach_bodies.ensures.lasts) c.detach_bodies.ensures.left c.detach_bodies-2.ensures.left
