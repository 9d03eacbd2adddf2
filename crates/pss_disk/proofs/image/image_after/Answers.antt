use Rattle.std.proofs.Common.{◌≡◌, ◌-◌, length, take, drop, sym, ◌∙◌, ap, subst, arith, rules, length-drop}
use Rattle.std.proofs.lemmas.List.{take_all}
use Rattle.std.proofs.lemmas.Result.{IfOk-weaker}
use Rattle.pss_disk.specs.Tape.{IsPicked, after_all, start}
use Rattle.pss_disk.proofs.Crash.{picked_whole}
use Rattle.pss_disk.proofs.image.image_after.Goals as goal

pub returns : goal.returns
returns c =
    let calls = c.args.calls.now in
    let n = c.last_sync-synced.result in
    let pick = c.args.pick in
    let base : c.in_ok-image.image.items ≡ c.args.first.now = search rules in
    let content : c.apply_all.new.content.items ≡ (after_all (start c.args.first.now) (take n calls)).content = c.in_ok-apply_all.ensures ∙ ap (λ f. (after_all (start f) (take n calls)).content) base in
    let rest : take (length calls - n) (drop n calls) ≡ drop n calls = take_all (length calls - n) (drop n calls) (omega (arith, length-drop n calls)) in
    IfOk-weaker c.from_slice.result _ (IsPicked pick (after_all (start c.args.first.now) calls))
    (λ image e.
    picked_whole pick n c.args.first.now c.apply_all.new.content.items image calls c.last_sync-synced.ensures content
    (subst (λ cs. IsPicked pick (after_all (start c.apply_all.new.content.items) cs) image) rest
    (subst (IsPicked pick (after_all (start c.apply_all.new.content.items) (take (length calls - n) (drop n calls)))) (sym (e ∙ c.deref.ensures.value)) c.in_ok-pick_image.ensures)))
    c.from_slice.ensures
