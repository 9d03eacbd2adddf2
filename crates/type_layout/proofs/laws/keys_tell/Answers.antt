use Rattle.type_layout.proofs.KeysTell.{keys_tell}
use Rattle.type_layout.proofs.laws.keys_tell.Goals as goal

pub returns : goal.returns
returns c = keys_tell
