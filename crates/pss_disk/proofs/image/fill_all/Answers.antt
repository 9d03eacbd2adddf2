use Rattle.std.proofs.Common.{take, sym, ◌∙◌, ap, subst}
use Rattle.std.proofs.lemmas.List.{take_all}
use Rattle.pss_disk.specs.inner.Crash.{IsNoSync}
use Rattle.pss_disk.specs.Tape.{IsFilled, State, after_all, start}
use Rattle.pss_disk.proofs.Calls.{after_all-push}
use Rattle.pss_disk.proofs.Crash.{one_more, filled_start, filled_push}
use Rattle.pss_disk.proofs.image.fill_all.Goals as goal

pub loop-call-init : goal.loop-call-init
loop-call-init c = filled_start c.args.octet c.args.image.now.items

pub loop-call-preserved : goal.loop-call-preserved
loop-call-preserved c =
    let s = start c.args.image.now.items in
    let k = c.loop-call.call-index in
    let call = c.call-item.result in
    let none : IsNoSync call = subst IsNoSync (sym c.call-item.is) (c.requires k call c.loop-call-test.true) in
    let filled = filled_push c.args.octet call (after_all s (take k c.args.calls.now)) c.loop-call.image.items c.fill_call.new.image.items none c.loop-call.invariant c.in_ok-fill_call.ensures in
    subst (λ (t : State). IsFilled c.args.octet t.disk c.fill_call.new.image.items)
    (sym (after_all-push s (take k c.args.calls.now) call) ∙ ap (after_all s) (sym (one_more c.args.calls.now k call c.loop-call-test.true c.call-item.is))) filled

pub returns : goal.returns
returns c = subst (λ cs. IsFilled c.args.octet (after_all (start c.args.image.now.items) cs).disk c.loop-call.image.items) (take_all c.loop-call.call-index c.args.calls.now c.loop-call-test.false) c.loop-call.invariant
