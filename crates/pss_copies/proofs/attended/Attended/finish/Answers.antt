use Rattle.std.proofs.Common.{subst, sym}
use Rattle.pss_copies.specs.Seats.{Attends}
use Rattle.pss_copies.proofs.Associated.{finish_attends}
use Rattle.pss_copies.proofs.attended.Attended.finish.Goals as goal

pub returns : goal.returns
returns g c k own tx at =
    finish_attends c.self.inside.parts (record { sessions = c.finish.new.self; copies = c.finish.new.copies }) c.args.owner c.copies_hold.ensures c.copies_hold-2.ensures c.finish.ensures.finished c.finish.ensures.lasts c.finish.ensures.left k own tx (subst (Attends k) (sym c.self.view_is) at)
