use Rattle.std.proofs.Common.{ap, ◌∙◌}
use Rattle.std.specs.FinMap as map
use Rattle.incarnations.specs.Meaning.{same_slot}
use Rattle.incarnations.proofs.Keys.{slot_key, slot_ties}
use Rattle.recent_table.proofs.Hashed.{removed}
use Rattle.incarnations.proofs.tables.entries.EntryTable.remove.Goals as goal

pub returns : goal.returns
returns c = removed slot_key same_slot slot_ties _ _ c.args.slot c.remove.ensures.turned ∙ ap (λ m. map.remove m c.args.slot) c.self.view_is
