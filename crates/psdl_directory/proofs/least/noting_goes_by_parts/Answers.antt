use Rattle.psdl_directory.proofs.Noting.{noting-append}
use Rattle.psdl_directory.proofs.least.noting_goes_by_parts.Goals as goal

pub returns : goal.returns
returns c = noting-append
