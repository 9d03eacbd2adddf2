use Rattle.lock_table.proofs.Owning.{least_blocker}
use Rattle.lock_table.proofs.laws.blockers_are_least.Goals as goal

pub returns : goal.returns
returns c held owner needs = least_blocker held owner needs
