use Rattle.std.proofs.Common.{ap}
use Rattle.pss_machine.specs.Operations.{plain_answer}
use Rattle.data_calls.proofs.replies.reply.Goals as goal

pub unreachable-requires : goal.unreachable-requires
unreachable-requires c = c.requires.can.free c.in-Busy.field-0 (ap plain_answer c.in-Busy.is)
