use Rattle.std.proofs.Common.{ap, not, ◌∙◌}
use Rattle.pss_machine.specs.Operations.{plain_op}
use Rattle.data_calls.proofs.Granted.{further_some, further_none}
use Rattle.data_calls.proofs.limits.changes_further.Goals as goal

pub returns-in-Some : goal.returns-in-Some
returns-in-Some c k o are there = ap not (c.changed.ensures c.args.parts.now.schema k o are there) ∙ further_some o (plain_op c.args.op.now) c.in-Some.serial c.in-Some.ensures

pub returns-in-None : goal.returns-in-None
returns-in-None c k o are there = further_none o (plain_op c.args.op.now) c.in-None.ensures
