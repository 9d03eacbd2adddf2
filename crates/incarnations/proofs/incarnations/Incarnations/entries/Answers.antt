use Rattle.std.proofs.Common.{sym, ap, ◌∙◌}
use Rattle.std.specs.FinMap as map
use Rattle.incarnations.specs.declared.names.EntryRecord.{EntryRecord}
use Rattle.incarnations.specs.Meaning.{Meaning}
use Rattle.recent_table.proofs.Maps.{len_each}
use Rattle.incarnations.proofs.incarnations.Incarnations.entries.Goals as goal

pub returns : goal.returns
returns c = c.len.ensures.len ∙ sym (len_each (λ (r : EntryRecord). r.entry) c.self.inside.stock.entries) ∙ ap (λ (m : Meaning). map.len m.entries) c.self.view_is
