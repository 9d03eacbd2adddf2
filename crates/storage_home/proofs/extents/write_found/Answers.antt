use Rattle.std.proofs.Common.{IsSome, subst, rules}
use Rattle.storage_home.proofs.Marking.{held_turned, entered_turned}
use Rattle.storage_home.proofs.extents.write_found.Goals as goal

pub returns-in-Some-clause-held : goal.returns-in-Some-clause-held
returns-in-Some-clause-held c = held_turned c.args.extent.now.entries _ c.args.serial (search rules) c.in-Some.block.now _ c.in-Some.ensures.value ((c.get_mut.follows.holds _).3 (subst IsSome c.in-Some.ensures.value (search rules))).0 c.args.holds c.with_mark-block-in-Some.ensures

pub returns-in-Some-clause-entered : goal.returns-in-Some-clause-entered
returns-in-Some-clause-entered c = entered_turned c.args.extent.now.entries _ c.args.serial (search rules) c.in-Some.block.now _ c.in-Some.ensures.value ((c.get_mut.follows.holds _).3 (subst IsSome c.in-Some.ensures.value (search rules))).0 c.args.enters c.args.holds c.with_mark-block.ensures c.with_mark-block-in-Some.ensures
