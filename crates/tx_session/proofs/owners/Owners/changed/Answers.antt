use Rattle.std.proofs.Common.{ap, ◌∙◌}
use Rattle.std.specs.FinMap.{contains_key}
use Rattle.tx_session.proofs.Telling.{changes_told, never_none}
use Rattle.tx_session.proofs.owners.Owners.changed.Goals as goal

pub returns-in-Some : goal.returns-in-Some
returns-in-Some c o there = c.has_changed.ensures ∙ ap (λ changes. contains_key changes c.args.serial) (changes_told c.args.self.now c.self.inside.parts c.self.view_is c.args.owner o there c.in-Some.owned.now c.in-Some.ensures)

pub returns-in-None : goal.returns-in-None
returns-in-None c o there = never_none c.args.self.now c.self.inside.parts c.self.view_is c.args.owner o there c.in-None.ensures
