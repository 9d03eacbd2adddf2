use Rattle.std.proofs.Common.{ap, ◌∙◌}
use Rattle.std.specs.FinMap as map
use Rattle.incarnations.proofs.Keys.{session_key, same_session, session_ties}
use Rattle.recent_table.proofs.Hashed.{removed}
use Rattle.incarnations.proofs.tables.sessions.SessionTable.remove.Goals as goal

pub returns : goal.returns
returns c = removed session_key same_session session_ties _ _ c.args.session c.remove.ensures.turned ∙ ap (λ m. map.remove m c.args.session) c.self.view_is
