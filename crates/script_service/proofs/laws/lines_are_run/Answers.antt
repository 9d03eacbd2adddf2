use Rattle.script_service.proofs.Runs.{lines_run}
use Rattle.script_service.proofs.laws.lines_are_run.Goals as goal

pub returns : goal.returns
returns c = lines_run
