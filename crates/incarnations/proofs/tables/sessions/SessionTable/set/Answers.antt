use Rattle.std.proofs.Common.{ap, ◌∙◌}
use Rattle.std.specs.FinMap as map
use Rattle.incarnations.proofs.Keys.{session_key, same_session, session_ties}
use Rattle.recent_table.proofs.Hashed.{inserted, there}
use Rattle.incarnations.proofs.tables.sessions.SessionTable.set.Goals as goal

pub set-requires : goal.set-requires
set-requires c = there session_key same_session session_ties c.self.inside.table _ c.self.view_is c.args.session c.requires

pub returns : goal.returns
returns c = inserted session_key same_session session_ties _ _ c.args.session c.args.put c.set.ensures ∙ ap (λ m. map.insert m c.args.session c.args.put) c.self.view_is
