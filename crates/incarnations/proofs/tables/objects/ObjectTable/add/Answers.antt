use Rattle.std.proofs.Common.{ap, ◌∙◌}
use Rattle.std.specs.FinMap as map
use Rattle.incarnations.proofs.Keys.{object_key, same_object, object_ties}
use Rattle.recent_table.proofs.Hashed.{inserted}
use Rattle.incarnations.proofs.tables.objects.ObjectTable.add.Goals as goal

pub returns-clause-ok : goal.returns-clause-ok
returns-clause-ok c = inserted object_key same_object object_ties _ _ c.args.object c.args.put c.in_ok-insert.ensures.updates.0 ∙ ap (λ m. map.insert m c.args.object c.args.put) c.self.view_is
