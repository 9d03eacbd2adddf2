use Rattle.incarnations.proofs.Empty.{empty_sound, empty_is}
use Rattle.incarnations.proofs.incarnations.Incarnations.new.Goals as goal

pub invariant_of-result : goal.invariant_of-result
invariant_of-result c = empty_sound c.new.result c.new.ensures.empty c.new.ensures.rings c.new-2.result c.new-2.ensures c.new-3.result c.new-3.ensures c.new-4.result c.new-4.ensures c.new-5.result c.new-5.ensures

pub returns : goal.returns
returns c = empty_is c.new.result c.new.ensures.empty c.new.ensures.rings c.new-2.result c.new-2.ensures c.new-3.result c.new-3.ensures c.new-4.result c.new-4.ensures c.new-5.result c.new-5.ensures
