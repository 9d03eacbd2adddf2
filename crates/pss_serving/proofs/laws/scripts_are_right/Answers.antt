use Rattle.pss_serving.proofs.EndOfRun.{always}
use Rattle.pss_serving.proofs.laws.scripts_are_right.Goals as goal

pub returns : goal.returns
returns c = always c.text_is_sound.ensures c.runs_are_right.ensures c.stored_is_between.ensures
