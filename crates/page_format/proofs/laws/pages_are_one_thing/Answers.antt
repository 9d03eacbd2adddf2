use Rattle.page_format.proofs.ExactPages.{pages_one_thing}
use Rattle.page_format.proofs.laws.pages_are_one_thing.Goals as goal

pub returns : goal.returns
returns c = pages_one_thing
