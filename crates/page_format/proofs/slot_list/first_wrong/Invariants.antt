use Rattle.page_format.specs.inner.Tested.{AreTested}
use Rattle.page_format.proofs.slot_list.first_wrong.Given as goal

abbrev pub invariant-loop-k : goal.invariant-loop-k
invariant-loop-k l = AreTested l.slots l.len l.k l.named.items
