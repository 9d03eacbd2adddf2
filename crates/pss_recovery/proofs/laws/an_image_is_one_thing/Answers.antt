use Rattle.pss_recovery.proofs.ImagesOnce.{image_one_thing}
use Rattle.pss_recovery.proofs.laws.an_image_is_one_thing.Goals as goal

pub returns : goal.returns
returns c = image_one_thing
