use Rattle.std.proofs.Common.{ap, ◌∙◌}
use Rattle.std.specs.FinMap as map
use Rattle.incarnations.specs.Meaning.{same_slot}
use Rattle.incarnations.proofs.Keys.{slot_key, slot_ties}
use Rattle.recent_table.proofs.Hashed.{inserted}
use Rattle.incarnations.proofs.tables.entries.EntryTable.add.Goals as goal

pub returns-clause-ok : goal.returns-clause-ok
returns-clause-ok c = inserted slot_key same_slot slot_ties _ _ c.args.slot c.args.put c.in_ok-insert.ensures.ok ∙ ap (λ m. map.insert m c.args.slot c.args.put) c.self.view_is
