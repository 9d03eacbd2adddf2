use Rattle.std.proofs.Common.{refl, rules}
use Rattle.storage_home.proofs.Marking.{none_from, least_bit}
use Rattle.storage_home.proofs.marks.least_from.Goals as goal

pub returns-then-rest-eq0 : goal.returns-then-rest-eq0
returns-then-rest-eq0 c = none_from c.args.bits c.args.from c.if-rest-eq0.true

pub returns-else-rest-eq0 : goal.returns-else-rest-eq0
returns-else-rest-eq0 c = least_bit c.args.bits c.args.from (search rules) c.if-rest-eq0.false _ refl
