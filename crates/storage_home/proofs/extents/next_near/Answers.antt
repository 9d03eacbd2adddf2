use Rattle.storage_home.proofs.Nexts.{none_near, near_block}
use Rattle.storage_home.proofs.extents.next_near.Goals as goal

pub returns-in-Some : goal.returns-in-Some
returns-in-Some c = near_block c.args.extent.now.entries c.args.from c.in-Some.block.now c.in-Some.ensures.value c.least_in.result c.least_in.ensures

pub returns-in-None : goal.returns-in-None
returns-in-None c = none_near c.args.extent.now.entries c.args.from c.in-None.ensures.value
