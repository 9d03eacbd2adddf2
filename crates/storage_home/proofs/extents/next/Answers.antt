use Rattle.std.proofs.Common.{subst}
use Rattle.storage_home.specs.Extents.{IsNear}
use Rattle.storage_home.proofs.Nexts.{far_is_next}
use Rattle.storage_home.proofs.extents.next.Goals as goal

pub returns-in-Some : goal.returns-in-Some
returns-in-Some c = subst (IsNear c.args.extent.now.entries c.args.from) c.in-Some.is c.next_near.ensures

pub returns-in-None : goal.returns-in-None
returns-in-None c = far_is_next c.args.extent.now.entries c.args.from (subst (IsNear c.args.extent.now.entries c.args.from) c.in-None.is c.next_near.ensures) c.next_far.result c.next_far.ensures
