use Rattle.std.proofs.Common.{take, sym, ◌∙◌, ap, refl}
use Rattle.std.proofs.lemmas.List.{take_all}
use Rattle.pss_disk.specs.Tape.{after_all, start}
use Rattle.pss_disk.proofs.Crash.{one_more, content_push}
use Rattle.pss_disk.proofs.image.apply_all.Goals as goal

pub loop-call-init : goal.loop-call-init
loop-call-init c = refl

pub loop-call-preserved : goal.loop-call-preserved
loop-call-preserved c =
    let first = c.args.content.now.items in
    let k = c.loop-call.call-index in
    content_push first c.loop-call.content.items c.apply.new.content.items (take k c.args.calls.now) c.call-item.result c.loop-call.invariant c.in_ok-apply.ensures
    ∙ ap (λ cs. (after_all (start first) cs).content) (sym (one_more c.args.calls.now k c.call-item.result c.loop-call-test.true c.call-item.is))

pub returns : goal.returns
returns c = c.loop-call.invariant ∙ ap (λ cs. (after_all (start c.args.content.now.items) cs).content) (take_all c.loop-call.call-index c.args.calls.now c.loop-call-test.false)
