use Rattle.pss_session.proofs.Having.{have_associated, have_told}
use Rattle.pss_session.proofs.sessions.Sessions.end.Goals as goal

pub returns-clause-have : goal.returns-clause-have
returns-clause-have g c = have_told _ _ c.detach_session.new.self c.associate.ensures (have_associated c.args.self.now c.args.copies.now c.detach_session.new.self c.requires.copies c.args.session _ c.detach_session.ensures.lasts)
