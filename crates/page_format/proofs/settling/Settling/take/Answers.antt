use Rattle.page_format.proofs.Settled.{settling_more}
use Rattle.page_format.proofs.settling.Settling.take.Goals as goal

pub returns-in-Ok-clause-taken : goal.returns-in-Ok-clause-taken
returns-in-Ok-clause-taken c puts so_far = settling_more puts c.args.put _ c.in-Ok.ensures.serial c.left_by.ensures c.requires.right (c.in-Ok.ensures.others puts so_far)
