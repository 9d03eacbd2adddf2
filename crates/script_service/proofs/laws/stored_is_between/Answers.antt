use Rattle.script_service.proofs.Between.{stored_between}
use Rattle.script_service.proofs.laws.stored_is_between.Goals as goal

pub returns : goal.returns
returns c = stored_between c.good_stays_good.ensures.good
