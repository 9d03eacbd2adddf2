use Rattle.std.proofs.Common.{ap, ◌∙◌}
use Rattle.std.specs.FinMap as map
use Rattle.incarnations.proofs.Keys.{body_key, same_name, name_ties}
use Rattle.recent_table.proofs.Hashed.{removed}
use Rattle.incarnations.proofs.tables.bodies.BodyTable.remove.Goals as goal

pub returns : goal.returns
returns c = removed body_key same_name name_ties _ _ c.args.name c.remove.ensures.turned ∙ ap (λ m. map.remove m c.args.name) c.self.view_is
