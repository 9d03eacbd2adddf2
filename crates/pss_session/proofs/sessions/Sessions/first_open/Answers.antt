use Rattle.std.proofs.Common.{ap, ◌∙◌}
use Rattle.pss_session.specs.Meaning.{first_open}
use Rattle.pss_session.proofs.Registers.{first_is}
use Rattle.pss_session.proofs.sessions.Sessions.first_open.Goals as goal

pub returns : goal.returns
returns c = c.first_open.ensures ∙ first_is c.self.inside.register.rows.entries c.self.invariant.sorted c.args.owner ∙ ap (λ m. first_open m c.args.owner) c.self.view_is
