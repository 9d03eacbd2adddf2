use Rattle.std.proofs.Common.{ap, ◌∙◌}
use Rattle.std.specs.FinMap as map
use Rattle.incarnations.specs.Meaning.{same_slot}
use Rattle.incarnations.proofs.Keys.{slot_key, slot_ties}
use Rattle.recent_table.proofs.Hashed.{inserted, there}
use Rattle.incarnations.proofs.tables.entries.EntryTable.set.Goals as goal

pub set-requires : goal.set-requires
set-requires c = there slot_key same_slot slot_ties c.self.inside.table _ c.self.view_is c.args.slot c.requires

pub returns : goal.returns
returns c = inserted slot_key same_slot slot_ties _ _ c.args.slot c.args.put c.set.ensures ∙ ap (λ m. map.insert m c.args.slot c.args.put) c.self.view_is
