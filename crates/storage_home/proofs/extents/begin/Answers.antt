use Rattle.std.proofs.Common.{refl, rules}
use Rattle.storage_home.proofs.Marking.{held_begun, entered_begun}
use Rattle.storage_home.proofs.extents.begin.Goals as goal

pub returns-clause-held : goal.returns-clause-held
returns-clause-held c = held_begun c.args.extent.now.entries c.insert.new.self.entries c.args.serial (search rules) c.requires _ refl c.with_bit.ensures c.in_ok-insert.ensures.updates.0

pub returns-clause-ok : goal.returns-clause-ok
returns-clause-ok c = entered_begun c.args.extent.now.entries c.insert.new.self.entries c.args.serial (search rules) c.requires _ refl c.with_bit.ensures c.in_ok-insert.ensures.updates.0
