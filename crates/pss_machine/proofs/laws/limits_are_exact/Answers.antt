use Rattle.pss_machine.proofs.AtLimits as limits
use Rattle.pss_machine.proofs.Worked.{at_small_limits}
use Rattle.pss_machine.proofs.laws.limits_are_exact.Goals as goal

pub returns-clause-below : goal.returns-clause-below
returns-clause-below c = limits.below_limits

pub returns-clause-many : goal.returns-clause-many
returns-clause-many c = limits.many_at

pub returns-clause-no_further : goal.returns-clause-no_further
returns-clause-no_further c = limits.no_further_at

pub returns-clause-again : goal.returns-clause-again
returns-clause-again c = limits.again_at

pub returns-clause-serials : goal.returns-clause-serials
returns-clause-serials c = limits.serials_at

pub returns-clause-entries : goal.returns-clause-entries
returns-clause-entries c = limits.entries_at

pub returns-clause-commits : goal.returns-clause-commits
returns-clause-commits c = limits.commits_at

pub returns-clause-full : goal.returns-clause-full
returns-clause-full c = limits.full_at

pub returns-clause-flushes : goal.returns-clause-flushes
returns-clause-flushes c = limits.flushes_at

pub returns-clause-flush_full : goal.returns-clause-flush_full
returns-clause-flush_full c = limits.flush_full_at

pub returns-clause-worked : goal.returns-clause-worked
returns-clause-worked c = at_small_limits
