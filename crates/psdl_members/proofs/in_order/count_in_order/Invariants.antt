use Rattle.psdl_members.specs.inner.Heirs.{IsInOrder}
use Rattle.psdl_members.proofs.in_order.count_in_order.Given as goal

abbrev pub invariant-loop-number : goal.invariant-loop-number
invariant-loop-number l = IsInOrder l.graph l.number
