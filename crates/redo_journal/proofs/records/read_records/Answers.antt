use Rattle.std.proofs.Common.{refl}
use Rattle.redo_journal.specs.declared.fault.ReplayFault.TheVariants as fault
use Rattle.redo_journal.proofs.Headers.{damaged_there, same_fault}
use Rattle.redo_journal.proofs.records.read_records.Goals as goal

pub returns-in-Err-clause-damaged : goal.returns-in-Err-clause-damaged
returns-in-Err-clause-damaged g c at there = damaged_there c.args.epoch c.records.gate at c.records.bodies (g.W.Station.content c.args.w.now) (g.W.Station.content c.records.w) c.records.invariant.reads.same c.records.invariant.chain (c.in-Err.ensures.damaged at (same_fault _ _ c.in-Err.fault (fault.Damaged at) refl there refl))
