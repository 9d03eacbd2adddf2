use Rattle.std.proofs.Common.{sym, ap, ◌∙◌}
use Rattle.std.specs.FinMap as map
use Rattle.incarnations.proofs.Keys.{session_key, same_session, session_ties}
use Rattle.recent_table.proofs.Hashed.{get_table}
use Rattle.incarnations.proofs.tables.sessions.SessionTable.get.Goals as goal

pub returns : goal.returns
returns c = c.copied.ensures ∙ c.get.ensures ∙ sym (get_table session_key same_session session_ties c.self.inside.table c.args.session) ∙ ap (λ m. map.get m c.args.session) c.self.view_is
