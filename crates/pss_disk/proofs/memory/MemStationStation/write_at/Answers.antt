use Rattle.std.proofs.Common.{inl, inr, Some, refl, ap, length}
use Rattle.pss_disk.specs.Moments.{DuringWrite}
use Rattle.pss_disk.specs.Octets.{StaysOutside, range_of}
use Rattle.pss_disk.specs.Tape.{State, half, moment_of, now_of, state_of}
use Rattle.pss_disk.specs.declared.call.Call.TheVariants.{Wrote, Tore}
use Rattle.pss_disk.specs.inner.Told.{half_fits}
use Rattle.pss_disk.specs.inner.Writing.{stays_outside, stays_same}
use Rattle.pss_disk.proofs.Calls.{on_err, step_of, failed_disk, state_recorded, now_or_after, time_of, once_of}
use Rattle.pss_disk.proofs.memory.MemStationStation.write_at.Goals as goal

pub returns-in_err-try_write-clause-failed : goal.returns-in_err-try_write-clause-failed
returns-in_err-try_write-clause-failed c =
    let old = c.args.self.now in
    let new = c.try_write.new.self in
    let s = failed_disk (Tore c.args.at c.args.bytes.now) old new c.in_err-try_write.ensures.err in
    on_err c.from_residual.result _ (now_or_after (Tore c.args.at c.args.bytes.now) old new s (λ (t : State). StaysOutside (range_of c.args.at c.args.bytes.now) (Some (state_of old).content) (Some t.content)) (stays_same (range_of c.args.at c.args.bytes.now) (state_of old).content) (stays_outside c.args.at (length c.args.bytes.now) (half c.args.bytes.now) (state_of old).content (half_fits c.args.bytes.now)))

pub returns-in_err-try_write-clause-maybe : goal.returns-in_err-try_write-clause-maybe
returns-in_err-try_write-clause-maybe c =
    let old = c.args.self.now in
    let new = c.try_write.new.self in
    let s = failed_disk (Tore c.args.at c.args.bytes.now) old new c.in_err-try_write.ensures.err in
    on_err c.from_residual.result _ (now_or_after (Tore c.args.at c.args.bytes.now) old new s (λ (t : State). DuringWrite (range_of c.args.at c.args.bytes.now) (now_of old) (moment_of t)) (inl refl) (inr refl))

pub returns-in_err-try_write-clause-time : goal.returns-in_err-try_write-clause-time
returns-in_err-try_write-clause-time c =
    let old = c.args.self.now in
    let new = c.try_write.new.self in
    let s = failed_disk (Tore c.args.at c.args.bytes.now) old new c.in_err-try_write.ensures.err in
    time_of (Tore c.args.at c.args.bytes.now) old new s (DuringWrite (range_of c.args.at c.args.bytes.now) (now_of old)) (inr refl)

pub returns-in_err-try_write-clause-once : goal.returns-in_err-try_write-clause-once
returns-in_err-try_write-clause-once c =
    let old = c.args.self.now in
    let new = c.try_write.new.self in
    let s = failed_disk (Tore c.args.at c.args.bytes.now) old new c.in_err-try_write.ensures.err in
    once_of (Tore c.args.at c.args.bytes.now) old new s

pub returns-clause-written : goal.returns-clause-written
returns-clause-written c =
    let old = c.args.self.now in
    let new = c.try_write.new.self in
    let e = c.in_ok-try_write.ensures.ok in
    let s = step_of (Wrote c.args.at c.args.bytes.now) old new e in
    ap (λ (t : State). Some t.content) (state_recorded (Wrote c.args.at c.args.bytes.now) old new e)

pub returns-clause-now : goal.returns-clause-now
returns-clause-now c =
    let old = c.args.self.now in
    let new = c.try_write.new.self in
    let e = c.in_ok-try_write.ensures.ok in
    let s = step_of (Wrote c.args.at c.args.bytes.now) old new e in
    ap moment_of (state_recorded (Wrote c.args.at c.args.bytes.now) old new e)

pub returns-clause-time : goal.returns-clause-time
returns-clause-time c =
    let old = c.args.self.now in
    let new = c.try_write.new.self in
    let e = c.in_ok-try_write.ensures.ok in
    let s = step_of (Wrote c.args.at c.args.bytes.now) old new e in
    time_of (Wrote c.args.at c.args.bytes.now) old new s (DuringWrite (range_of c.args.at c.args.bytes.now) (now_of old)) (inr refl)

pub returns-clause-once : goal.returns-clause-once
returns-clause-once c =
    let old = c.args.self.now in
    let new = c.try_write.new.self in
    let e = c.in_ok-try_write.ensures.ok in
    let s = step_of (Wrote c.args.at c.args.bytes.now) old new e in
    once_of (Wrote c.args.at c.args.bytes.now) old new s
