use Rattle.std.proofs.Common.{◌≡◌, Some, refl, ap, ◌∙◌}
use Rattle.pss_disk.specs.Moments.{IsStill}
use Rattle.pss_disk.specs.Octets.{octets_in, range_of}
use Rattle.pss_disk.specs.Tape.{State, moment_of, now_of, state_of}
use Rattle.pss_disk.specs.declared.call.Call.TheVariants.{Quiet}
use Rattle.pss_disk.proofs.Calls.{step_of, failed_disk, state_recorded, now_or_after, time_of, once_of}
use Rattle.pss_disk.proofs.memory.MemStationStation.read_at.Goals as goal

pub returns-in_err-try_pass-clause-now : goal.returns-in_err-try_pass-clause-now
returns-in_err-try_pass-clause-now c =
    let old = c.args.self.now in
    let new = c.try_pass.new.self in
    let s = failed_disk Quiet old new c.in_err-try_pass.ensures.err in
    now_or_after Quiet old new s (λ (t : State). moment_of t ≡ now_of old) refl refl

pub returns-in_err-try_pass-clause-content : goal.returns-in_err-try_pass-clause-content
returns-in_err-try_pass-clause-content c =
    let old = c.args.self.now in
    let new = c.try_pass.new.self in
    let s = failed_disk Quiet old new c.in_err-try_pass.ensures.err in
    now_or_after Quiet old new s (λ (t : State). Some t.content ≡ Some (state_of old).content) refl refl

pub returns-in_err-try_pass-clause-time : goal.returns-in_err-try_pass-clause-time
returns-in_err-try_pass-clause-time c =
    let old = c.args.self.now in
    let new = c.try_pass.new.self in
    let s = failed_disk Quiet old new c.in_err-try_pass.ensures.err in
    time_of Quiet old new s (IsStill (now_of old)) refl

pub returns-in_err-try_pass-clause-once : goal.returns-in_err-try_pass-clause-once
returns-in_err-try_pass-clause-once c =
    let old = c.args.self.now in
    let new = c.try_pass.new.self in
    let s = failed_disk Quiet old new c.in_err-try_pass.ensures.err in
    once_of Quiet old new s

pub returns-clause-read : goal.returns-clause-read
returns-clause-read c =
    let old = c.args.self.now in
    let new = c.try_pass.new.self in
    let e = c.in_ok-try_pass.ensures.ok in
    let s = step_of Quiet old new e in
    c.give.ensures ∙ ap (octets_in (range_of c.args.at c.give.new.buf)) (c.bytes.ensures ∙ ap (λ (t : State). t.content) (state_recorded Quiet old new e))

pub returns-clause-now : goal.returns-clause-now
returns-clause-now c =
    let old = c.args.self.now in
    let new = c.try_pass.new.self in
    let e = c.in_ok-try_pass.ensures.ok in
    let s = step_of Quiet old new e in
    now_or_after Quiet old new s (λ (t : State). moment_of t ≡ now_of old) refl refl

pub returns-clause-content : goal.returns-clause-content
returns-clause-content c =
    let old = c.args.self.now in
    let new = c.try_pass.new.self in
    let e = c.in_ok-try_pass.ensures.ok in
    let s = step_of Quiet old new e in
    now_or_after Quiet old new s (λ (t : State). Some t.content ≡ Some (state_of old).content) refl refl

pub returns-clause-time : goal.returns-clause-time
returns-clause-time c =
    let old = c.args.self.now in
    let new = c.try_pass.new.self in
    let e = c.in_ok-try_pass.ensures.ok in
    let s = step_of Quiet old new e in
    time_of Quiet old new s (IsStill (now_of old)) refl

pub returns-clause-once : goal.returns-clause-once
returns-clause-once c =
    let old = c.args.self.now in
    let new = c.try_pass.new.self in
    let e = c.in_ok-try_pass.ensures.ok in
    let s = step_of Quiet old new e in
    once_of Quiet old new s
