use Rattle.std.proofs.Common.{arith}
use Rattle.page_format.proofs.Settled.{others_after}
use Rattle.page_format.proofs.settling.Settling.turn_to.Goals as goal

pub returns-in-Ok-clause-others : goal.returns-in-Ok-clause-others
returns-in-Ok-clause-others c puts so_far = others_after puts c.args.serial _ (c.in-Ok.ensures puts c.args.serial (omega (arith, c.requires.later, c.if-serial-self.false)) so_far)
