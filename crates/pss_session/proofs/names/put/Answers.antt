use Rattle.pss_session.proofs.Called.{turned}
use Rattle.pss_session.proofs.names.put.Goals as goal

pub returns : goal.returns
returns c = turned c.args.name.items _ _ _ c.in-Ok.ensures.updates.1 c.in-Ok.ensures.updates.3
