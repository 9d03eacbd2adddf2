use Rattle.value_text.proofs.Standing.{what_stands}
use Rattle.value_text.proofs.laws.what_stands_is_read.Goals as goal

pub returns : goal.returns
returns c = what_stands
