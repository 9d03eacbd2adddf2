use Rattle.std.proofs.Common.{◌∙◌, ◌||◌, arith, ap, List, Bool, false, get_or}
use Rattle.std.proofs.lemmas.Result.{IfOk-weaker}
use Rattle.page_format.specs.Packing.{is_among}
use Rattle.page_format.specs.inner.Marks.{count_marked}
use Rattle.page_format.proofs.Marking.{least_free, lent_back, none_marked}
use Rattle.page_format.proofs.free.free_slots.Goals as goal

pub unmarked-requires-clause-enough : goal.unmarked-requires-clause-enough
unmarked-requires-clause-enough c =
    let none = none_marked c.in_ok-marks.marks.items c.in_ok-marks.ensures.none in
    let before = ap count_marked c.deref_mut.ensures.value in
    let after = ap count_marked (lent_back _ _ _ _ _ c.deref_mut.ensures.value c.deref_mut.ensures.len c.in_ok-marks.ensures.len c.mark_all.ensures.len c.deref.ensures.value) in
    omega (arith, none, before, after, c.mark_all.ensures.few, c.requires)

pub returns : goal.returns
returns c =
    IfOk-weaker c.unmarked.result _ _ (λ free is. least_free c.args.slots.now c.deref.result.now c.in_ok-marks.marks.items c.args.count free
    (λ s lt. ap (λ (l : List Bool). get_or l s false) (lent_back _ _ _ _ _ c.deref_mut.ensures.value c.deref_mut.ensures.len c.in_ok-marks.ensures.len c.mark_all.ensures.len c.deref.ensures.value) ∙ c.mark_all.ensures.marked s lt
    ∙ ap (λ (l : List Bool). is_among s c.args.slots.now || get_or l s false) c.deref_mut.ensures.value) c.in_ok-marks.ensures.none is) c.unmarked.ensures
