use Rattle.std.proofs.Common.{List, ℕ, arith, subst, sym}
use Rattle.page_format.specs.Refusals.{IsRootRefusal}
use Rattle.page_format.specs.inner.Current.{AreItsSlots, IsOpened}
use Rattle.page_format.proofs.Buffers.{some_both, some_weaker}
use Rattle.page_format.proofs.roots.read_right_slots.Goals as goal

pub returns-in-Err-clause-refused : goal.returns-in-Err-clause-refused
returns-in-Err-clause-refused g c =
    some_both (g.W.Station.content c.args.w.now) (IsOpened c.args.len c.args.found) (AreItsSlots c.args.found c.in-Ok.slots) (IsRootRefusal c.in-Err.fault)
    (λ image opened its. c.in-Err.ensures.refused image opened (subst (λ (l : List ℕ). AreItsSlots c.args.found l image) (sym c.as_slice.ensures) its)) c.requires.opened
    (some_weaker (g.W.Station.content c.args.w.now) _ (AreItsSlots c.args.found c.in-Ok.slots) (λ image is. record { count = c.in-Ok.ensures.len; slots_ = λ k lt. is k (omega (arith, lt, c.in-Ok.ensures.len)) }) c.in-Ok.ensures.slots)
