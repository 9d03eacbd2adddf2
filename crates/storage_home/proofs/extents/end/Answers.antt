use Rattle.std.proofs.Common.{rules}
use Rattle.storage_home.proofs.Marking.{held_ended, entered_ended}
use Rattle.storage_home.proofs.extents.end.Goals as goal

pub returns-then-is_done-clause-held : goal.returns-then-is_done-clause-held
returns-then-is_done-clause-held c = held_ended c.args.extent.now.entries c.remove.new.self.entries c.args.serial (search rules) (c.is_done.ensures c.if-is_done.true) c.remove.ensures.updates.0

pub returns-then-is_done-clause-entered : goal.returns-then-is_done-clause-entered
returns-then-is_done-clause-entered c = entered_ended c.args.extent.now.entries c.remove.new.self.entries c.args.serial (search rules) (c.is_done.ensures c.if-is_done.true) c.remove.ensures.updates.0
