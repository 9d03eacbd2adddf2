use Rattle.pss_copies.proofs.First.{first_have, first_attends}
use Rattle.pss_copies.proofs.attended.Attended.new.Goals as goal

pub invariant_of-result : goal.invariant_of-result
invariant_of-result c = first_have c.new.result c.new-2.result c.new.ensures c.new-2.ensures

pub returns : goal.returns
returns c M next = first_attends c.new.result c.new-2.result c.new.ensures c.new-2.ensures M next
