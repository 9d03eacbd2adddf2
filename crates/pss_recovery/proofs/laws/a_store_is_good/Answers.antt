use Rattle.pss_recovery.proofs.Goodness.{stores_good}
use Rattle.pss_recovery.proofs.laws.a_store_is_good.Goals as goal

pub returns : goal.returns
returns c = stores_good
