use Rattle.std.proofs.Common.{◌≡◌, Some, refl, ap}
use Rattle.pss_disk.specs.Moments.{DuringSpeak}
use Rattle.pss_disk.specs.Tape.{State, half, moment_of, now_of, state_of}
use Rattle.pss_disk.specs.declared.call.Call.TheVariants.{Spoke}
use Rattle.pss_disk.proofs.Calls.{on_err, step_of, failed_speech, state_recorded, now_or_after, time_of, once_of, spoke_none, spoke_part, spoke_whole}
use Rattle.pss_disk.proofs.memory.MemStationStation.speak.Goals as goal

pub returns-in_err-try_speak-clause-failed : goal.returns-in_err-try_speak-clause-failed
returns-in_err-try_speak-clause-failed c =
    let old = c.args.self.now in
    let new = c.try_speak.new.self in
    let s = failed_speech (Spoke (half c.args.bytes.now)) old new c.in_err-try_speak.ensures.err in
    on_err c.from_residual.result _ (now_or_after (Spoke (half c.args.bytes.now)) old new s (λ (t : State). DuringSpeak c.args.bytes.now (now_of old) (moment_of t)) (spoke_none c.args.bytes.now (state_of old)) (spoke_part c.args.bytes.now (state_of old)))

pub returns-in_err-try_speak-clause-content : goal.returns-in_err-try_speak-clause-content
returns-in_err-try_speak-clause-content c =
    let old = c.args.self.now in
    let new = c.try_speak.new.self in
    let s = failed_speech (Spoke (half c.args.bytes.now)) old new c.in_err-try_speak.ensures.err in
    now_or_after (Spoke (half c.args.bytes.now)) old new s (λ (t : State). Some t.content ≡ Some (state_of old).content) refl refl

pub returns-in_err-try_speak-clause-time : goal.returns-in_err-try_speak-clause-time
returns-in_err-try_speak-clause-time c =
    let old = c.args.self.now in
    let new = c.try_speak.new.self in
    let s = failed_speech (Spoke (half c.args.bytes.now)) old new c.in_err-try_speak.ensures.err in
    time_of (Spoke (half c.args.bytes.now)) old new s (DuringSpeak c.args.bytes.now (now_of old)) (spoke_part c.args.bytes.now (state_of old))

pub returns-in_err-try_speak-clause-once : goal.returns-in_err-try_speak-clause-once
returns-in_err-try_speak-clause-once c =
    let old = c.args.self.now in
    let new = c.try_speak.new.self in
    let s = failed_speech (Spoke (half c.args.bytes.now)) old new c.in_err-try_speak.ensures.err in
    once_of (Spoke (half c.args.bytes.now)) old new s

pub returns-clause-spoken : goal.returns-clause-spoken
returns-clause-spoken c =
    let old = c.args.self.now in
    let new = c.try_speak.new.self in
    let e = c.in_ok-try_speak.ensures.ok in
    let s = step_of (Spoke c.args.bytes.now) old new e in
    ap moment_of (state_recorded (Spoke c.args.bytes.now) old new e)

pub returns-clause-content : goal.returns-clause-content
returns-clause-content c =
    let old = c.args.self.now in
    let new = c.try_speak.new.self in
    let e = c.in_ok-try_speak.ensures.ok in
    let s = step_of (Spoke c.args.bytes.now) old new e in
    now_or_after (Spoke c.args.bytes.now) old new s (λ (t : State). Some t.content ≡ Some (state_of old).content) refl refl

pub returns-clause-time : goal.returns-clause-time
returns-clause-time c =
    let old = c.args.self.now in
    let new = c.try_speak.new.self in
    let e = c.in_ok-try_speak.ensures.ok in
    let s = step_of (Spoke c.args.bytes.now) old new e in
    time_of (Spoke c.args.bytes.now) old new s (DuringSpeak c.args.bytes.now (now_of old)) (spoke_whole c.args.bytes.now (state_of old))

pub returns-clause-once : goal.returns-clause-once
returns-clause-once c =
    let old = c.args.self.now in
    let new = c.try_speak.new.self in
    let e = c.in_ok-try_speak.ensures.ok in
    let s = step_of (Spoke c.args.bytes.now) old new e in
    once_of (Spoke c.args.bytes.now) old new s
