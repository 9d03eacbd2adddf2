use Rattle.std.proofs.Common.{◌≡◌, take, ap, ◌∙◌, subst}
use Rattle.std.proofs.lemmas.Result.{IfOk-weaker}
use Rattle.pss_disk.specs.Tape.{IsPicked, Tape, after_all, start}
use Rattle.pss_disk.proofs.Crash.{crash_is_image}
use Rattle.pss_disk.proofs.memory.MemStation.crash.Goals as goal

pub returns-clause-image : goal.returns-clause-image
returns-clause-image c =
    let tape : Tape = c.args.self.now in
    let calls : c.deref-2.result.now ≡ tape.calls = c.deref-2.ensures.value ∙ ap (λ (t : Tape). t.calls) c.self.view_is in
    let first : c.deref.result.now ≡ tape.first = c.deref.ensures.value ∙ ap (λ (t : Tape). t.first) c.self.view_is in
    IfOk-weaker c.image_after.result _ _
    (λ image p. crash_is_image c.args.moment c.args.pick tape image c.requires
    (subst (λ f. IsPicked c.args.pick (after_all (start f) (take c.args.moment tape.calls)) image) first (subst (λ cs. IsPicked c.args.pick (after_all (start c.deref.result.now) (take c.args.moment cs)) image) calls p)))
    c.image_after.ensures
