use Rattle.std.proofs.Common.{refl}
use Rattle.pss_machine.specs.Kept.{copies_of}
use Rattle.pss_asking.specs.Telling.{plain_asked}
use Rattle.data_calls.proofs.Steps.{untold}
use Rattle.data_calls.proofs.copied.consult.Goals as goal

pub returns-in_default : goal.returns-in_default
returns-in_default c k is at = untold c.args.parts.now.schema k.catalog is.owner (copies_of k c.args.acting.session) (plain_asked c.args.asked.now) c.args.asked.now.op refl c.in_default.not-Get c.in_default.not-Follow
