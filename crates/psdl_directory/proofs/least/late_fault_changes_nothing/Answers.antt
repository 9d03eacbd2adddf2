use Rattle.psdl_directory.proofs.Noting.{late}
use Rattle.psdl_directory.proofs.least.late_fault_changes_nothing.Goals as goal

pub returns : goal.returns
returns c = late
