use Rattle.std.proofs.Common.{Err, IfSome, ap, sym, subst, ◌∙◌}
use Rattle.pss_recovery.specs.Faults.{is_mount_disk_fault}
use Rattle.pss_recovery.specs.Stands.{IsRefusal}
use Rattle.pss_recovery.specs.declared.fault.MountFault.{MountFault}
use Rattle.redo_journal.specs.Journal.{Position}
use Rattle.pss_recovery.proofs.Built.{bodies_disk, bodies_refused, built_read, some_last}
use Rattle.pss_recovery.proofs.Told.{bodies_at, damaged_at, noted_at}
use Rattle.pss_recovery.proofs.mounting.replay_on.Goals as goal

pub replay_bodies-requires : goal.replay_bodies-requires
replay_bodies-requires c = record { kept = (c.requires.loaded.1.base, c.requires.loaded.1.kept) }

pub build-requires-clause-next : goal.build-requires-clause-next
build-requires-clause-next c =
    let has = c.requires.loaded.1 in
    let made = c.in-Ok.ensures.replayed has.base has.kept in
    some_last c.args.schema.now has.base c.args.root.now.next _ made.0 c.in-Ok.replayed.next has.good made.1

pub returns-in-Ok-build-clause-read : goal.returns-in-Ok-build-clause-read
returns-in-Ok-build-clause-read c = λ content has held.
    let S = c.args.schema.now in
    built_read S c.args.root.now c.args.loaded content has c.args.journal.now c.replay_bodies.new.homes c.in-Ok.replayed c.in-Ok-build.mounted c.requires.behind c.requires.within held
    (bodies_at S has.base c.args.root.now.next c.as_slice.result.now c.args.journal.now.bodies c.in-Ok.replayed.next c.replay_bodies.new.homes c.as_slice.ensures (c.in-Ok.ensures.replayed has.base has.kept)) (noted_at c.as_slice.result.now c.args.journal.now.bodies c.in-Ok.replayed.puts c.as_slice.ensures c.in-Ok.ensures.noted) c.in-Ok-build.ensures

pub returns-in-Ok-build-clause-end : goal.returns-in-Ok-build-clause-end
returns-in-Ok-build-clause-end c = ap (λ (p : Position). p.end) c.in-Ok-build.ensures.journal_

pub returns-in-Err-clause-refused : goal.returns-in-Err-clause-refused
returns-in-Err-clause-refused c = λ content has held.
    let S = c.args.schema.now in
    subst (λ (f : MountFault). IfSome content (IsRefusal S f)) (sym c.of_bodies.ensures)
    (bodies_refused S c.args.root.now c.args.loaded content has c.args.journal.now c.replay_bodies.result c.in-Err.stop c.in-Err.is c.requires.within held
    (damaged_at S c.args.root.now.next c.as_slice.result.now c.args.journal.now.bodies c.args.loaded.homes c.replay_bodies.result c.as_slice.ensures c.replay_bodies.ensures.damaged))

pub returns-in-Err-clause-memory : goal.returns-in-Err-clause-memory
returns-in-Err-clause-memory c = ap (λ (f : MountFault). is_mount_disk_fault {T = Unit {0}} (Err f)) c.of_bodies.ensures ∙ bodies_disk c.in-Err.stop
