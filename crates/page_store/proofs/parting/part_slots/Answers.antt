use Rattle.std.proofs.Common.{◌≡◌, ◌∙◌, ℕ, ◌<◌, arith, ap, length, drop, false, not, get_or}
use Rattle.std.proofs.lemmas.Result.{IfOk-weaker}
use Rattle.page_store.specs.Touched.{is_repacked, under_serials}
use Rattle.page_store.proofs.ByKey.{filter_alike}
use Rattle.page_format.proofs.Marking.{given_back, marked_as}
use Rattle.page_store.proofs.parting.part_slots.Goals as goal

module _ (c : goal.After-drop-marks) where
  marked : (s : ℕ) → s < 16384 → get_or c.deref.result.now s false ≡ is_repacked (under_serials c.args.places.now.entries) c.args.noted.now c.args.small s
  marked =
      let long : c.in_ok-marks.marks.len ≡ length c.mark_repacked.new.marks = (let e = ap length c.deref_mut.ensures.value in omega (arith, e, c.deref_mut.ensures.len, c.in_ok-marks.ensures.len, c.mark_repacked.ensures.len)) in
      let back : c.deref.result.now ≡ c.mark_repacked.new.marks = c.deref.ensures.value ∙ given_back c.in_ok-marks.marks.len c.mark_repacked.new.marks (drop (length c.mark_repacked.new.marks) c.in_ok-marks.marks.items) long in
      marked_as (is_repacked (under_serials c.args.places.now.entries) c.args.noted.now c.args.small) c.deref.result.now c.mark_repacked.new.marks c.deref_mut.result.now c.in_ok-marks.marks.items back c.mark_repacked.ensures.marked c.deref_mut.ensures.value c.in_ok-marks.ensures.none

pub returns-clause-repacked : goal.returns-clause-repacked
returns-clause-repacked c = IfOk-weaker c.part_marked.result _ _ (λ parted is. is ∙ filter_alike _ _ c.args.slots.now (λ k lt. marked c (get_or c.args.slots.now k 0) (c.requires k lt))) c.part_marked.ensures.repacked

pub returns-clause-kept : goal.returns-clause-kept
returns-clause-kept c = IfOk-weaker c.part_marked.result _ _ (λ parted is. is ∙ filter_alike _ _ c.args.slots.now (λ k lt. ap not (marked c (get_or c.args.slots.now k 0) (c.requires k lt)))) c.part_marked.ensures.kept

pub returns-clause-places : goal.returns-clause-places
returns-clause-places c = IfOk-weaker c.part_marked.result _ _ (λ parted is. c.mark_repacked.ensures.places) c.part_marked.ensures.kept
