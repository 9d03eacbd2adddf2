use Rattle.storage_home.proofs.Marking.{beyond_last, least_serial}
use Rattle.storage_home.proofs.extents.least_in.Goals as goal

pub returns-then-number-gt-LAST : goal.returns-then-number-gt-LAST
returns-then-number-gt-LAST c numbered = absurd (beyond_last c.args.number c.if-number-gt-LAST.true numbered)

pub returns-in-Some : goal.returns-in-Some
returns-in-Some c = least_serial c.args.number c.in-Some.place c.args.from c.args.block.now c.if-number-gt-LAST.false c.in-Some.ensures
