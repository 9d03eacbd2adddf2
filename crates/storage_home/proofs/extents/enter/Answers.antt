use Rattle.std.proofs.Common.{IsSome, subst, refl, rules}
use Rattle.storage_home.proofs.Marking.{held_same, entered_too}
use Rattle.storage_home.proofs.extents.enter.Goals as goal

pub returns-in-Some-clause-held : goal.returns-in-Some-clause-held
returns-in-Some-clause-held c = held_same c.args.extent.now.entries _ c.args.serial (search rules) c.in-Some.block.now _ c.in-Some.ensures.value ((c.get_mut.follows.holds _).3 (subst IsSome c.in-Some.ensures.value (search rules))).0 refl

pub returns-in-Some-clause-ok : goal.returns-in-Some-clause-ok
returns-in-Some-clause-ok c = entered_too c.args.extent.now.entries _ c.args.serial (search rules) c.in-Some.block.now _ c.in-Some.ensures.value ((c.get_mut.follows.holds _).3 (subst IsSome c.in-Some.ensures.value (search rules))).0 refl c.with_bit-block.ensures
