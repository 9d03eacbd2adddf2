use Rattle.std.proofs.Common.{ap}
use Rattle.pss_machine.specs.Operations.{Done, plain_op, plain_answer}
use Rattle.storage_home.proofs.Holding.{on_ok}
use Rattle.data_calls.proofs.Outdating.{answer_as, plain_done, undone, as_before}
use Rattle.data_calls.proofs.leaving.leave.Goals as goal

pub leave_done-requires : goal.leave_done-requires
leave_done-requires g c = answer_as Done (ap plain_answer c.in-Done.is) c.requires

pub returns-in-Done : goal.returns-in-Done
returns-in-Done g c = on_ok c.leave_done.result (λ h m. h (answer_as Done (ap plain_answer c.in-Done.is) m)) c.leave_done.ensures

pub returns-in_default : goal.returns-in_default
returns-in_default g c m =
    as_before m (undone (plain_op c.args.op.now) (plain_answer c.args.answer.now) (λ done. c.in_default.not-Done (plain_done c.args.answer.now done))) (c.entries_stay.ensures.quiet m.kept c.args.acting.owner m.taken.step.step)
    (λ state. c.entries_stay.ensures.fresh m.schema m.kept c.args.acting.owner m.taken.step.step state)
