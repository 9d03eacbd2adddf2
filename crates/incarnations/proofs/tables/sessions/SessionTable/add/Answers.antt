use Rattle.std.proofs.Common.{ap, ◌∙◌}
use Rattle.std.specs.FinMap as map
use Rattle.incarnations.proofs.Keys.{session_key, same_session, session_ties}
use Rattle.recent_table.proofs.Hashed.{inserted}
use Rattle.incarnations.proofs.tables.sessions.SessionTable.add.Goals as goal

pub returns-clause-ok : goal.returns-clause-ok
returns-clause-ok c = inserted session_key same_session session_ties _ _ c.args.session c.args.put c.in_ok-insert.ensures.ok ∙ ap (λ m. map.insert m c.args.session c.args.put) c.self.view_is
