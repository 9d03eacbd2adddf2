use Rattle.std.proofs.Common.{refl, subst, sym}
use Rattle.pss_copies.specs.Seats.{Attends}
use Rattle.pss_copies.proofs.Commits.{commit_attends}
use Rattle.pss_copies.proofs.attended.Attended.commit.Goals as goal

pub returns : goal.returns
returns g c k may at =
    commit_attends k c.self.inside.parts (record { sessions = c.self.inside.parts.sessions; copies = c.detach_bodies.new.copies }) (record { sessions = c.finish.new.self; copies = c.finish.new.copies }) c.args.owner c.args.pids.now may c.copies_hold.ensures c.copies_hold-2.ensures c.copies_hold-3.ensures
    (subst (Attends k) (sym c.self.view_is) at) refl c.detach_bodies.ensures.lasts c.detach_bodies.ensures.left c.finish.ensures.finished c.finish.ensures.lasts c.finish.ensures.left
