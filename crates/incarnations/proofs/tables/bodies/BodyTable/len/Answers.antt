use Rattle.std.proofs.Common.{ap, ◌∙◌, sym}
use Rattle.std.specs.FinMap as map
use Rattle.incarnations.proofs.Keys.{body_key, same_name, name_ties}
use Rattle.recent_table.proofs.Hashed.{len_table}
use Rattle.incarnations.proofs.tables.bodies.BodyTable.len.Goals as goal

pub returns-clause-len : goal.returns-clause-len
returns-clause-len c = c.len.ensures.len ∙ sym (len_table body_key same_name name_ties c.self.inside.table c.len.ensures.once) ∙ ap map.len c.self.view_is
