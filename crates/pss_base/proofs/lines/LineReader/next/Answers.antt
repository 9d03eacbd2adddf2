use Rattle.std.proofs.Common.{refl}
use Rattle.pss_base.proofs.Stepping.{stops, fault_as, after_part}
use Rattle.pss_base.specs.Reading.{Reading}
use Rattle.pss_base.proofs.lines.LineReader.next.Goals as goal

pub returns-in-Err-clause-step : goal.returns-in-Err-clause-step
returns-in-Err-clause-step g c =
    rw (c.stopped.ensures, ← c.self.view_is) (stops _ _ _ _ c.in-Err.stop (fault_as c.read_part.result c.in-Err.stop _ c.in-Err.is c.read_part.ensures.empty) c.if-self.false (rw c.most_of-most.ensures at c.in-Err.ensures.err))

pub returns-in-Ok-clause-step : goal.returns-in-Ok-clause-step
returns-in-Ok-clause-step g c =
    let i = c.self.inside in
    let mid : Reading = record { ahead = c.read_part.new.ahead; lines_left = i.lines_left; bytes_left = i.bytes_left; at_end = i.at_end; live = i.live } in
    rw (c.take.ensures.step, c.take.ensures.new, ← c.self.view_is)
    (after_part _ mid c.in-Ok.part _ _ (rw c.most_of-most.ensures at c.in-Ok.ensures.ok) refl refl c.if-self.false)
