use Rattle.page_format.proofs.ExactRoots.{roots_one_thing}
use Rattle.page_format.proofs.laws.roots_are_one_thing.Goals as goal

pub returns : goal.returns
returns c = roots_one_thing
