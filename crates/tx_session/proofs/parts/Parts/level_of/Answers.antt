use Rattle.std.proofs.Common.{sym}
use Rattle.tx_session.proofs.References.{level_is, never_there}
use Rattle.tx_session.proofs.parts.Parts.level_of.Goals as goal

pub returns-in-Some : goal.returns-in-Some
returns-in-Some c o there = level_is c.args.self.now.locks c.args.self.now.table c.args.owner.0 c.in-Some.owned.now (sym c.in-Some.ensures) o there

pub returns-in-None : goal.returns-in-None
returns-in-None c o there = never_there c.args.self.now.locks c.args.self.now.table c.args.owner.0 (sym c.in-None.ensures) o there
