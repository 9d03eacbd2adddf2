use Rattle.std.proofs.Common.{sym, ap, ◌∙◌}
use Rattle.std.specs.FinMap as map
use Rattle.incarnations.specs.Meaning.{same_slot}
use Rattle.incarnations.proofs.Keys.{slot_key, slot_ties}
use Rattle.recent_table.proofs.Hashed.{get_table}
use Rattle.incarnations.proofs.tables.entries.EntryTable.find.Goals as goal

pub returns : goal.returns
returns c = c.get.ensures ∙ sym (get_table slot_key same_slot slot_ties c.self.inside.table c.args.slot) ∙ ap (λ m. map.get m c.args.slot) c.self.view_is
