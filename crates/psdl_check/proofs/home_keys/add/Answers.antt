use Rattle.std.proofs.Common.{rules}
use Rattle.psdl_check.proofs.Gathering.{again, anew}
use Rattle.psdl_check.proofs.home_keys.add.Goals as goal

pub returns-then-has-clause-gathered : goal.returns-then-has-clause-gathered
returns-then-has-clause-gathered c ids all numbered are =
    again ids c.args.marks.now c.args.found.now.items all c.args.key c.requires.below numbered are (search rules)

pub returns-clause-gathered : goal.returns-clause-gathered
returns-clause-gathered c ids all numbered are =
    rw (c.in_ok-push.ensures.items, c.mark.ensures) (anew ids c.args.marks.now c.args.found.now.items all c.args.key c.requires.below numbered are (search rules))
