use Rattle.data_calls.proofs.Granted.{changed_none}
use Rattle.data_calls.proofs.limits.changed_by.Goals as goal

pub returns-in_default : goal.returns-in_default
returns-in_default c = changed_none c.args.op.now c.in_default.not-Create c.in_default.not-Set c.in_default.not-Destroy
