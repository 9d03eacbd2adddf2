use Rattle.std.proofs.Common.{ap, ◌∙◌}
use Rattle.std.specs.FinMap as map
use Rattle.incarnations.proofs.Keys.{body_key, same_name, name_ties}
use Rattle.recent_table.proofs.Hashed.{inserted}
use Rattle.incarnations.proofs.tables.bodies.BodyTable.add.Goals as goal

pub returns-clause-ok : goal.returns-clause-ok
returns-clause-ok c = inserted body_key same_name name_ties _ _ c.args.name c.args.put c.in_ok-insert.ensures.ok ∙ ap (λ m. map.insert m c.args.name c.args.put) c.self.view_is
