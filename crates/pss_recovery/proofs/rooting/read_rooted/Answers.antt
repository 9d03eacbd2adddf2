use Rattle.std.proofs.Common.{sym, subst}
use Rattle.pss_base.specs.Causes.{HasCauseIf}
use Rattle.page_format.proofs.Buffers.{some_weaker}
use Rattle.page_format.specs.Refusals.{IsRootRefusal}
use Rattle.pss_recovery.specs.Stands.{IsRefusal}
use Rattle.pss_recovery.proofs.rooting.read_rooted.Goals as goal

pub returns-in-Err-clause-refused : goal.returns-in-Err-clause-refused
returns-in-Err-clause-refused g c = some_weaker (g.W.Station.content c.args.w.now) (IsRootRefusal c.in-Err.fault) (IsRefusal c.args.schema.now c.of_root.result) (λ image h. c.of_root.ensures.refused c.args.schema.now image h) c.in-Err.ensures.refused

pub returns-in-Err-clause-cause : goal.returns-in-Err-clause-cause
returns-in-Err-clause-cause g c = subst (HasCauseIf (g.W.Station.disk_faults c.args.w.now) (g.W.Station.disk_faults c.read_root.new.w)) (sym c.of_root.ensures.disk) c.in-Err.ensures.cause
