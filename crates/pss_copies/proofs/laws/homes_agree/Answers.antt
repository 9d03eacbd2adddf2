use Rattle.pss_copies.proofs.Homing.{always_agree}
use Rattle.pss_copies.proofs.laws.homes_agree.Goals as goal

pub returns : goal.returns
returns c = always_agree
