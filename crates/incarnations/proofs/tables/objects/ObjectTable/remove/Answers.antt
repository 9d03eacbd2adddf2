use Rattle.std.proofs.Common.{ap, ◌∙◌}
use Rattle.std.specs.FinMap as map
use Rattle.incarnations.proofs.Keys.{object_key, same_object, object_ties}
use Rattle.recent_table.proofs.Hashed.{removed}
use Rattle.incarnations.proofs.tables.objects.ObjectTable.remove.Goals as goal

pub returns : goal.returns
returns c = removed object_key same_object object_ties _ _ c.args.object c.swap_remove.ensures.updates.0 ∙ ap (λ m. map.remove m c.args.object) c.self.view_is
