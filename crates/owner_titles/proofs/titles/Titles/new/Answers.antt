use Rattle.owner_titles.proofs.Sounds.{none_sound}
use Rattle.owner_titles.proofs.titles.Titles.new.Goals as goal

pub invariant_of-result : goal.invariant_of-result
invariant_of-result c = none_sound c.new.result c.new-2.result.held c.new.ensures c.new-2.ensures.held
