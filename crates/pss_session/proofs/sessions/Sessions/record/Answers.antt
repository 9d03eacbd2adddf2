use Rattle.std.proofs.Common.{ap}
use Rattle.pss_session.specs.Meaning.{Meaning}
use Rattle.pss_session.specs.inner.Rows.{row_at}
use Rattle.pss_session.proofs.Opened.{row_there, never, record_is}
use Rattle.pss_session.proofs.sessions.Sessions.record.Goals as goal

pub unreachable-requires : goal.unreachable-requires
unreachable-requires c =
    never (row_at c.self.inside.register.rows.entries c.args.session.0) (row_there c.self.inside.register.rows.entries c.args.self.now (ap (λ (m : Meaning). m.sessions) c.self.view_is) c.args.session.0 c.requires) c.in-None.ensures

pub returns : goal.returns
returns c = record_is c.self.inside.register.rows.entries c.args.self.now (ap (λ (m : Meaning). m.sessions) c.self.view_is) c.args.session.0 c.in-Some.record.now c.in-Some.ensures
