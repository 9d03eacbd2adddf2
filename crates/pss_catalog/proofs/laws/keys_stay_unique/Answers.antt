use Rattle.pss_catalog.proofs.Uniqueness.{holder_is_one, unique_without, unique_with}
use Rattle.pss_catalog.proofs.laws.keys_stay_unique.Goals as goal

pub returns-clause-one : goal.returns-clause-one
returns-clause-one c = holder_is_one

pub returns-clause-without : goal.returns-clause-without
returns-clause-without c = unique_without

pub returns-clause-with : goal.returns-clause-with
returns-clause-with c = unique_with
