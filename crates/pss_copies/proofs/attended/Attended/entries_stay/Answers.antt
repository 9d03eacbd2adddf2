use Rattle.std.proofs.Common.{subst, sym}
use Rattle.pss_machine.specs.Moving.{with_owner, without_owner}
use Rattle.pss_copies.specs.Seats.{Attends, seated_at}
use Rattle.pss_copies.proofs.Staying.{attached_stays}
use Rattle.pss_copies.specs.Stepped.{left_by}
use Rattle.pss_copies.proofs.Quiet.{quiet_attends}
use Rattle.pss_copies.proofs.Fresh.{fresh_attends}
use Rattle.pss_copies.proofs.Associated.{comes_attends, goes_attends}
use Rattle.pss_copies.proofs.attended.Attended.entries_stay.Goals as goal

pub returns-clause-quiet : goal.returns-clause-quiet
returns-clause-quiet c k n step own none at = subst (Attends (left_by k n step)) c.self.view_is (quiet_attends k c.self.inside.parts n step own none c.copies_hold.ensures (subst (Attends k) (sym c.self.view_is) at))

pub returns-clause-fresh : goal.returns-clause-fresh
returns-clause-fresh c S k n step state own none sound homes at =
    subst (Attends (left_by k n step)) c.self.view_is (fresh_attends S k c.self.inside.parts n step state own none sound homes c.copies_hold.ensures (subst (Attends k) (sym c.self.view_is) at))

pub returns-clause-comes : goal.returns-clause-comes
returns-clause-comes c k name level own at = subst (Attends (with_owner k name level)) c.self.view_is (comes_attends k c.self.inside.parts name level own (subst (Attends k) (sym c.self.view_is) at))

pub returns-clause-goes : goal.returns-clause-goes
returns-clause-goes c k n none at = subst (Attends (without_owner k n)) c.self.view_is (goes_attends k c.self.inside.parts n c.copies_hold.ensures none (subst (Attends k) (sym c.self.view_is) at))

pub returns-clause-attached : goal.returns-clause-attached
returns-clause-attached c k s n e there on at = subst (Attends (seated_at k s n)) c.self.view_is (attached_stays k c.self.inside.parts s n e c.copies_hold.ensures (subst (Attends k) (sym c.self.view_is) at) there on)
