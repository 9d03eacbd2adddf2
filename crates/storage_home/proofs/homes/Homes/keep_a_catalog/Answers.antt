use Rattle.std.proofs.Common.{subst}
use Rattle.storage_home.specs.Kept.{AnyKept}
use Rattle.storage_home.proofs.homes.Homes.keep_a_catalog.Goals as goal

pub returns : goal.returns
returns c = subst AnyKept c.self.view_is c.self.invariant
