use Rattle.std.proofs.Common.{List, ℕ, ◌+◌, ◌∷◌, [], arith, subst, sym, ap, length, length-append}
use Rattle.page_format.specs.inner.Freeing.{AreUnmarkedBelow}
use Rattle.page_format.proofs.Marking.{marked_next, unmarked_next}
use Rattle.page_format.proofs.free.unmarked.Goals as goal

pub loop-slot-preserved-then-marks-slot : goal.loop-slot-preserved-then-marks-slot
loop-slot-preserved-then-marks-slot c = record {
  so_far = marked_next c.args.marks.now c.loop-slot.slot c.loop-slot.free c.loop-slot.invariant.so_far (omega (arith, c.loop-slot-test.true, c.requires.len)) c.if-marks-slot.true;
  few = c.loop-slot.invariant.few;
}

pub loop-slot-preserved : goal.loop-slot-preserved
loop-slot-preserved c =
    let more = c.in_ok-push.ensures.ok in
    record {
      so_far = subst (λ (l : List ℕ). AreUnmarkedBelow c.args.marks.now (c.loop-slot.slot + 1) l) (sym more) (unmarked_next c.args.marks.now c.loop-slot.slot c.loop-slot.free c.loop-slot.invariant.so_far (omega (arith, c.loop-slot-test.true, c.requires.len)) c.if-marks-slot.false);
      few = let e = ap length more in let s = ap length c.as_slice.ensures in let a = c.if-as_slice-count.false in let n = length-append c.loop-slot.free (c.loop-slot.slot ∷ []) in omega (arith, e, s, a, n, c.loop-slot.invariant.few);
    }
