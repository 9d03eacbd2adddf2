use Rattle.pss_base.proofs.Taking.{at_once}
use Rattle.pss_base.proofs.part.read_part.Goals as goal

pub returns-in-Some-clause-ok : goal.returns-in-Some-clause-ok
returns-in-Some-clause-ok g c = at_once _ _ _ _ _ c.in-Some.piece c.in-Some.ensures.0 c.in-Some.ensures.1
