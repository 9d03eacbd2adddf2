use Rattle.std.proofs.Common.{◌≡◌, ◌+◌, ◌++◌, ◌∷◌, [], ℕ, List, length, take, sym, ◌∙◌, ap, subst, arith}
use Rattle.std.proofs.lemmas.List.{take_all, length-take-le}
use Rattle.pss_disk.specs.declared.call.Call.{Call}
use Rattle.pss_disk.specs.declared.call.Call.TheVariants.{Synced}
use Rattle.pss_disk.specs.inner.Crash.{IsLastSync}
use Rattle.pss_disk.proofs.Crash.{one_more, no_calls, a_sync, no_sync, is_no_sync}
use Rattle.pss_disk.proofs.image.last_sync.Goals as goal
use Rattle.pss_disk.proofs.image.last_sync.Goals.{in-Synced, in_default}

-- a sync came last
synced : (calls all : List Call) (call : Call) (k last : ℕ) → all ≡ calls ++ call ∷ [] → call ≡ Synced → length calls ≡ k → last ≡ k + 1 → IsLastSync all last
synced calls all call k last more is len e =
    subst (λ n. IsLastSync all n) (ap (λ n. n + 1) len ∙ sym e) (subst (λ cs. IsLastSync cs (length calls + 1)) (ap (λ x. calls ++ x ∷ []) (sym is) ∙ sym more) (a_sync calls))

pub loop-number-init : goal.loop-number-init
loop-number-init c = no_calls

pub loop-number-preserved : goal.loop-number-preserved
loop-number-preserved c =
    let k = c.loop-number.number in
    let call = c.index-calls-number.result in
    let more = one_more c.args.calls.now k call c.loop-number-test.true c.index-calls-number.is in
    elim c.match-call.branch as (λ _. IsLastSync (take (k + 1) c.args.calls.now) c.match-call.last) [
      | in-Synced w ↦ synced (take k c.args.calls.now) _ call k _ more w.in-Synced.is (length-take-le k c.args.calls.now (omega arith)) w.last-is
      | in_default w ↦
          subst (λ n. IsLastSync (take (k + 1) c.args.calls.now) n) (sym w.last-is)
          (subst (λ cs. IsLastSync cs c.loop-number.last) (sym more) (no_sync (take k c.args.calls.now) call c.loop-number.last (is_no_sync call w.in_default.not-Synced) c.loop-number.invariant))
    ]

pub returns : goal.returns
returns c = subst (λ cs. IsLastSync cs c.loop-number.last) (take_all c.loop-number.number c.args.calls.now c.loop-number-test.false) c.loop-number.invariant
