use Rattle.value_text.proofs.Standing.{spelling_is_there}
use Rattle.value_text.proofs.laws.spelling_stands.Goals as goal

pub returns : goal.returns
returns c = spelling_is_there
