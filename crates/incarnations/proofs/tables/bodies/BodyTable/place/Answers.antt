use Rattle.std.proofs.Common.{sym, ap, ◌∙◌}
use Rattle.std.specs.Option.{option_map}
use Rattle.incarnations.specs.declared.names.BodyRecord.{BodyRecord}
use Rattle.incarnations.proofs.Keys.{body_key, same_name, name_ties}
use Rattle.recent_table.proofs.Hashed.{told}
use Rattle.incarnations.proofs.tables.bodies.BodyTable.place.Goals as goal

pub returns-in-Some : goal.returns-in-Some
returns-in-Some c = ap (option_map (λ (b : BodyRecord). b.place)) (c.in-Some.ensures ∙ sym (told body_key same_name name_ties c.self.inside.table _ c.self.view_is c.args.name))

pub returns-in-None : goal.returns-in-None
returns-in-None c = ap (option_map (λ (b : BodyRecord). b.place)) (c.in-None.ensures ∙ sym (told body_key same_name name_ties c.self.inside.table _ c.self.view_is c.args.name))
