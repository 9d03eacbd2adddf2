use Rattle.psdl_directory.proofs.Noting.{noting-least}
use Rattle.psdl_directory.proofs.least.noting_leaves_least.Goals as goal

pub returns : goal.returns
returns c = noting-least
