use Rattle.pss_session.proofs.Called.{turned}
use Rattle.pss_session.proofs.names.remove.Goals as goal

pub returns : goal.returns
returns c = turned c.args.name.now _ _ _ c.swap_remove.ensures.updates.1 c.swap_remove.ensures.updates.3
