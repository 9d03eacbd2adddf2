use Rattle.std.proofs.Common.{arith}
use Rattle.psdl_members.proofs.Grouping.{one_seen}
use Rattle.psdl_members.proofs.group.Group.seen.Goals as goal

pub returns : goal.returns
returns c es w = one_seen c.args.self.now c.args.entry es c.mask_at-named.result c.mask_at-listed.result (omega arith) (rw c.deref.ensures.value at c.mask_at-named.ensures) (rw c.deref-2.ensures.value at c.mask_at-listed.ensures) w
