use Rattle.std.proofs.Common.{Ok, ap}
use Rattle.pss_recovery.proofs.replaying.make_body.Goals as goal

pub returns-in-Ok-false-clause-none : goal.returns-in-Ok-false-clause-none
returns-in-Ok-false-clause-none c = λ _. c.in-Ok-false.ensures.refused (ap Ok c.in-Ok-false.field-0-test)
