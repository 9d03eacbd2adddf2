use Rattle.pss_session.proofs.Opened.{none_is}
use Rattle.pss_session.proofs.sessions.Sessions.new.Goals as goal

pub returns : goal.returns
returns c = none_is _ c.empty.ensures
