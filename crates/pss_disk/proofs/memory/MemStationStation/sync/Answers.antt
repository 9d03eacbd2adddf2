use Rattle.std.proofs.Common.{◌≡◌, inl, inr, Some, refl, ap}
use Rattle.pss_disk.specs.Moments.{DuringSync}
use Rattle.pss_disk.specs.Tape.{State, moment_of, now_of, state_of}
use Rattle.pss_disk.specs.declared.call.Call.TheVariants.{Quiet, Synced}
use Rattle.pss_disk.proofs.Calls.{on_err, step_of, failed_disk, state_recorded, now_or_after, time_of, once_of}
use Rattle.pss_disk.proofs.memory.MemStationStation.sync.Goals as goal

pub returns-in_err-try_sync-clause-maybe : goal.returns-in_err-try_sync-clause-maybe
returns-in_err-try_sync-clause-maybe c =
    let old = c.args.self.now in
    let new = c.try_sync.new.self in
    let s = failed_disk Quiet old new c.in_err-try_sync.ensures.err in
    on_err c.from_residual.result _ (now_or_after Quiet old new s (λ (t : State). DuringSync (Some (state_of old).content) (now_of old) (moment_of t)) (inl refl) (inl refl))

pub returns-in_err-try_sync-clause-content : goal.returns-in_err-try_sync-clause-content
returns-in_err-try_sync-clause-content c =
    let old = c.args.self.now in
    let new = c.try_sync.new.self in
    let s = failed_disk Quiet old new c.in_err-try_sync.ensures.err in
    now_or_after Quiet old new s (λ (t : State). Some t.content ≡ Some (state_of old).content) refl refl

pub returns-in_err-try_sync-clause-time : goal.returns-in_err-try_sync-clause-time
returns-in_err-try_sync-clause-time c =
    let old = c.args.self.now in
    let new = c.try_sync.new.self in
    let s = failed_disk Quiet old new c.in_err-try_sync.ensures.err in
    time_of Quiet old new s (DuringSync (Some (state_of old).content) (now_of old)) (inl refl)

pub returns-in_err-try_sync-clause-once : goal.returns-in_err-try_sync-clause-once
returns-in_err-try_sync-clause-once c =
    let old = c.args.self.now in
    let new = c.try_sync.new.self in
    let s = failed_disk Quiet old new c.in_err-try_sync.ensures.err in
    once_of Quiet old new s

pub returns-clause-durable : goal.returns-clause-durable
returns-clause-durable c =
    let old = c.args.self.now in
    let new = c.try_sync.new.self in
    let e = c.in_ok-try_sync.ensures.ok in
    let s = step_of Synced old new e in
    ap moment_of (state_recorded Synced old new e)

pub returns-clause-content : goal.returns-clause-content
returns-clause-content c =
    let old = c.args.self.now in
    let new = c.try_sync.new.self in
    let e = c.in_ok-try_sync.ensures.ok in
    let s = step_of Synced old new e in
    now_or_after Synced old new s (λ (t : State). Some t.content ≡ Some (state_of old).content) refl refl

pub returns-clause-time : goal.returns-clause-time
returns-clause-time c =
    let old = c.args.self.now in
    let new = c.try_sync.new.self in
    let e = c.in_ok-try_sync.ensures.ok in
    let s = step_of Synced old new e in
    time_of Synced old new s (DuringSync (Some (state_of old).content) (now_of old)) (inr refl)

pub returns-clause-once : goal.returns-clause-once
returns-clause-once c =
    let old = c.args.self.now in
    let new = c.try_sync.new.self in
    let e = c.in_ok-try_sync.ensures.ok in
    let s = step_of Synced old new e in
    once_of Synced old new s
