use Rattle.psdl_members.proofs.Bits.{put_bit}
use Rattle.psdl_members.proofs.masks.with_bit.Goals as goal

pub returns : goal.returns
returns c k low = put_bit c.args.mask c.args.bit k c.requires low
