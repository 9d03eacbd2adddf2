use Rattle.lock_table.proofs.Owning.{same_blocker, same_counts}
use Rattle.lock_table.proofs.laws.owners_agree.Goals as goal

pub returns-clause-blockers : goal.returns-clause-blockers
returns-clause-blockers c owners held agree n wanted = same_blocker owners held agree n wanted

pub returns-clause-counts : goal.returns-clause-counts
returns-clause-counts c owners held agree = same_counts owners held agree
