use Rattle.std.proofs.Common.{◌∙◌, ◌+◌, ◌-◌, ◌%◌, ◌^◌, ◌<◌, refl, ap, arith, subst, sym, List, ℕ}
use Rattle.page_store.specs.Kept.{Kept}
use Rattle.page_store.specs.Checkpoints.{AreSomeOf}
use Rattle.page_format.specs.Packing.{AreLeastFree}
use Rattle.page_store.specs.Switch.{slots_of}
use Rattle.page_format.specs.declared.new_page.NewPage.{NewPage}
use Rattle.page_store.proofs.Plans.{length_mapped, limits_next}
use Rattle.page_store.proofs.pages.Pages.next_root.Goals as goal

pub returns-clause-limits : goal.returns-clause-limits
returns-clause-limits c =
    let at = c.self.inside in
    let slots = ap (λ (k : Kept). k.slots) c.self.view_is in
    let few = length_mapped (λ (p : NewPage). p.slot) c.args.pages.now in
    limits_next at.area _ c.args.next c.requires.free.0 at.shape c.in_ok-shape.shape at.slots c.args.stay (slots_of c.args.pages.now) c.in_ok-slots.slots c.self.invariant.2 (subst (λ (l : List ℕ). AreSomeOf l c.args.stay) (sym slots) c.requires.some)
    (subst (λ (l : List ℕ). AreLeastFree l c.requires.free.0 (slots_of c.args.pages.now)) (sym slots) c.requires.free.1) (omega (arith, few, c.requires.few)) c.requires.next c.in_ok-shape.ensures c.in_ok-slots.ensures

pub returns-clause-root : goal.returns-clause-root
returns-clause-root c =
    let epoch = ap (λ (k : Kept). k.epoch) c.self.view_is in
    record {
      area_ = ap (λ (k : Kept). 1 - k.area) c.self.view_is;
      given = subst (λ (n : ℕ). n < 2 ^ 64) epoch c.next_epoch.ensures.given;
      epoch_ = c.next_epoch.ensures.next ∙ ap (λ (n : ℕ). (n + 1) % 2 ^ 64) epoch;
      next_ = refl;
      shape_ = c.in_ok-shape.ensures ∙ ap (λ (k : Kept). k.shape) c.self.view_is;
      slots_ = c.in_ok-slots.ensures;
    }
