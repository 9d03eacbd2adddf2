use Rattle.pss_laws.proofs.Fine.{stays_good, empty_good}
use Rattle.pss_laws.proofs.Storing.{owners_storable}
use Rattle.pss_laws.proofs.laws.good_stays_good.Goals as goal

pub returns-clause-good : goal.returns-clause-good
returns-clause-good c = stays_good

pub returns-clause-storable : goal.returns-clause-storable
returns-clause-storable c = owners_storable

pub returns-clause-empty : goal.returns-clause-empty
returns-clause-empty c = empty_good
