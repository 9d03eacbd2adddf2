use Rattle.std.proofs.Common.{sym, ap, ◌∙◌}
use Rattle.std.specs.FinMap as map
use Rattle.incarnations.proofs.Keys.{object_key, same_object, object_ties}
use Rattle.recent_table.proofs.Hashed.{get_table}
use Rattle.incarnations.proofs.tables.objects.ObjectTable.get.Goals as goal

pub returns : goal.returns
returns c = c.copied.ensures ∙ c.get.ensures.value ∙ sym (get_table object_key same_object object_ties c.self.inside.table.entries c.args.object) ∙ ap (λ m. map.get m c.args.object) c.self.view_is
