use Rattle.std.proofs.Common.{sym, ap, ◌∙◌}
use Rattle.std.specs.FinMap as map
use Rattle.incarnations.specs.Meaning.{Meaning}
use Rattle.recent_table.proofs.Maps.{len_each}
use Rattle.incarnations.specs.declared.names.BodyRecord.{BodyRecord}
use Rattle.incarnations.proofs.incarnations.Incarnations.bodies.Goals as goal

pub returns : goal.returns
returns c = c.len.ensures.len ∙ sym (len_each (λ (r : BodyRecord). r.value) c.self.inside.stock.bodies) ∙ ap (λ (m : Meaning). map.len m.bodies) c.self.view_is
