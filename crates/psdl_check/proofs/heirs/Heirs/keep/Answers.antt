use Rattle.psdl_check.proofs.Groups.{slot_put}
use Rattle.psdl_check.proofs.heirs.Heirs.keep.Goals as goal

pub returns : goal.returns
returns c n = slot_put c.args.self.now.groups.items c.args.group n c.args.masks c.requires
