use Rattle.std.proofs.Common.{ap, ◌∙◌, sym}
use Rattle.std.specs.FinMap as map
use Rattle.incarnations.specs.Meaning.{same_slot}
use Rattle.incarnations.proofs.Keys.{slot_key, slot_ties}
use Rattle.recent_table.proofs.Hashed.{len_table}
use Rattle.incarnations.proofs.tables.entries.EntryTable.len.Goals as goal

pub returns-clause-len : goal.returns-clause-len
returns-clause-len c = c.len.ensures.len ∙ sym (len_table slot_key same_slot slot_ties c.self.inside.table c.len.ensures.once) ∙ ap map.len c.self.view_is
