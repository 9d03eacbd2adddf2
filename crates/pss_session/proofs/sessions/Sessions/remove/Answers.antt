use Rattle.std.proofs.Common.{ap, ◌∙◌}
use Rattle.pss_session.specs.Meaning.{closed}
use Rattle.pss_session.proofs.Having.{have_closed, have_told}
use Rattle.pss_session.proofs.sessions.Sessions.remove.Goals as goal

pub returns-clause-have : goal.returns-clause-have
returns-clause-have g c =
    have_told _ (closed c.args.self.now c.args.session) c.remove_session.new.self (c.close.ensures.closed ∙ ap (λ m. closed m c.args.session) c.self.view_is)
    (have_closed c.args.self.now c.args.copies.now c.remove_session.new.self c.requires.copies c.args.session c.remove_session.ensures.lasts)
