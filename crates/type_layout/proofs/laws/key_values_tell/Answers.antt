use Rattle.type_layout.proofs.Chosen.{key_values_tell}
use Rattle.type_layout.proofs.laws.key_values_tell.Goals as goal

pub returns : goal.returns
returns c = key_values_tell
