use Rattle.std.proofs.Common.{Err, IfSome, sym, subst}
use Rattle.pss_base.specs.Causes.{HasCauseIf}
use Rattle.pss_recovery.specs.Faults.{is_mount_disk_fault}
use Rattle.pss_recovery.specs.Stands.{IsRefusal}
use Rattle.pss_recovery.specs.declared.fault.MountFault.{MountFault}
use Rattle.pss_recovery.proofs.Built.{journal_disk, journal_refused}
use Rattle.pss_recovery.proofs.mounting.read_on.Goals as goal

pub replay_on-requires-clause-loaded : goal.replay_on-requires-clause-loaded
replay_on-requires-clause-loaded g c = (g.W.Station.content c.args.w.now, c.requires)

pub returns-in-Ok-replay_on-clause-read : goal.returns-in-Ok-replay_on-clause-read
returns-in-Ok-replay_on-clause-read g c = c.in-Ok-replay_on.ensures.read (g.W.Station.content c.args.w.now) c.requires c.in-Ok.ensures.held

pub returns-in-Err-clause-refused : goal.returns-in-Err-clause-refused
returns-in-Err-clause-refused g c =
    subst (λ (f : MountFault). IfSome (g.W.Station.content c.args.w.now) (IsRefusal c.args.schema.now f)) (sym c.of_journal.ensures)
    (journal_refused c.args.schema.now c.args.root.now c.args.loaded (g.W.Station.content c.args.w.now) c.requires c.replay.result c.in-Err.fault c.in-Err.is c.replay.ensures.damaged)

pub returns-in-Err-clause-cause : goal.returns-in-Err-clause-cause
returns-in-Err-clause-cause g c =
    subst (λ (f : MountFault). HasCauseIf (g.W.Station.disk_faults c.args.w.now) (g.W.Station.disk_faults c.replay.new.w) (is_mount_disk_fault {T = Unit {0}} (Err f))) (sym c.of_journal.ensures)
    (subst (HasCauseIf (g.W.Station.disk_faults c.args.w.now) (g.W.Station.disk_faults c.replay.new.w)) (sym (journal_disk c.in-Err.fault)) c.in-Err.ensures.cause)
