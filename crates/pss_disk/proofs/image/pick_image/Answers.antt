use Rattle.pss_disk.proofs.Crash.{picked_none}
use Rattle.pss_disk.proofs.image.pick_image.Goals as goal

pub returns-in-0 : goal.returns-in-0
returns-in-0 c = picked_none c.args.image.now.items c.args.calls.now c.args.pick c.in-0.is c.requires
