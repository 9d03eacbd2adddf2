use Rattle.std.proofs.Common.{◌+◌}
use Rattle.storage_home.proofs.Nexts.{none_beyond}
use Rattle.storage_home.proofs.extents.next_above.Goals as goal

pub returns-in-None : goal.returns-in-None
returns-in-None c = none_beyond c.args.extent.now.entries (c.args.serial + 1) c.in-None.ensures
