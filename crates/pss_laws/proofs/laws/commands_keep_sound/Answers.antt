use Rattle.pss_machine.specs.Run.{first}
use Rattle.pss_laws.proofs.Turns.{command_sound, run_sound, first_sound, good_given}
use Rattle.pss_laws.proofs.laws.commands_keep_sound.Goals as goal

pub returns-clause-commands : goal.returns-clause-commands
returns-clause-commands c = command_sound

pub returns-clause-runs : goal.returns-clause-runs
returns-clause-runs c = λ S limits M next lines unique none. run_sound S limits lines (first M next) (first_sound S M next unique none)

pub returns-clause-good : goal.returns-clause-good
returns-clause-good c = good_given
