use Rattle.script_service.proofs.Rights.{right_runs}
use Rattle.script_service.proofs.laws.runs_are_right.Goals as goal

pub returns : goal.returns
returns c =
    let runs = c.runs_are_serial.ensures in
    right_runs c.commands_keep_sound.ensures.good runs.serial runs.last runs.unique runs.reads runs.live
