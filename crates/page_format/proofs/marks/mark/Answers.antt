use Rattle.std.proofs.Common.{arith}
use Rattle.page_format.proofs.Marking.{one_marked}
use Rattle.page_format.proofs.marks.mark.Goals as goal

pub returns-then-slot-lt-SLOTS-clause-few : goal.returns-then-slot-lt-SLOTS-clause-few
returns-then-slot-lt-SLOTS-clause-few c = one_marked c.args.marks.now c.args.slot (omega (arith, c.requires, c.if-slot-lt-SLOTS.true))
