use Rattle.std.proofs.Common.{sym, ap, ◌∙◌}
use Rattle.pss_session.specs.Meaning.{number_named}
use Rattle.pss_session.specs.inner.Names.{number_at}
use Rattle.pss_session.proofs.Naming.{named_is}
use Rattle.pss_session.proofs.sessions.Sessions.find.Goals as goal

pub returns : goal.returns
returns c =
    c.read.ensures ∙ sym (named_is c.self.inside.register.rows.entries (number_at c.self.inside.register.names.entries) c.self.invariant.named c.args.name.now)
    ∙ ap (λ m. number_named m c.args.name.now) c.self.view_is
