use Rattle.pss_recovery.proofs.BodyParts.{one_body}
use Rattle.pss_recovery.proofs.laws.a_body_is_one_thing.Goals as goal

pub returns : goal.returns
returns c = one_body
