use Rattle.pss_recovery.proofs.Standing.{mounted_stands}
use Rattle.pss_recovery.proofs.laws.a_mounted_store_stands.Goals as goal

pub returns : goal.returns
returns c = mounted_stands
