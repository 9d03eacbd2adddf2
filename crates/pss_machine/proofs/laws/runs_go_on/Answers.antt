use Rattle.pss_machine.proofs.Running.{run_append}
use Rattle.pss_machine.proofs.laws.runs_go_on.Goals as goal

pub returns : goal.returns
returns c = run_append
