use Rattle.std.proofs.Common.{subst}
use Rattle.owner_view.specs.Sized.{IsSlotSized}
use Rattle.owner_view.proofs.states.slot_in.Goals as goal

pub returns-clause-sized : goal.returns-clause-sized
returns-clause-sized c S all = c.told_by.ensures.sized S (subst (IsSlotSized S) c.in-Some.ensures.value (all c.in-Some.serial.now))
