use Rattle.std.proofs.Common.{sym, ap, ◌∙◌}
use Rattle.std.specs.FinMap.{len}
use Rattle.tx_session.proofs.Telling.{changes_told, never_none}
use Rattle.tx_session.proofs.owners.Owners.changed_count.Goals as goal

pub changed_count-requires : goal.changed_count-requires
changed_count-requires c = c.self.invariant.counted c.args.owner.0 c.in-Some.owned.now (sym c.in-Some.ensures)

pub returns-in-Some : goal.returns-in-Some
returns-in-Some c o there = c.changed_count.ensures ∙ ap len (changes_told c.args.self.now c.self.inside.parts c.self.view_is c.args.owner o there c.in-Some.owned.now c.in-Some.ensures)

pub returns-in-None : goal.returns-in-None
returns-in-None c o there = never_none c.args.self.now c.self.inside.parts c.self.view_is c.args.owner o there c.in-None.ensures
