use Rattle.pss_catalog.proofs.Uniqueness.{found_with, found_without, found_over, over_both}
use Rattle.pss_catalog.proofs.laws.objects_change.Goals as goal

pub returns-clause-with : goal.returns-clause-with
returns-clause-with c = found_with

pub returns-clause-without : goal.returns-clause-without
returns-clause-without c = found_without

pub returns-clause-over : goal.returns-clause-over
returns-clause-over c = found_over

pub returns-clause-both : goal.returns-clause-both
returns-clause-both c = over_both
