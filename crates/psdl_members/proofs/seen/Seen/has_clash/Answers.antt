use Rattle.std.proofs.Common.{arith}
use Rattle.psdl_members.proofs.Bits.{and_low}
use Rattle.psdl_members.proofs.Sights.{met_found}
use Rattle.psdl_members.proofs.seen.Seen.has_clash.Goals as goal

pub returns : goal.returns
returns c es some few w = met_found c.args.self es some (and_low c.args.self.same c.args.self.other (omega arith)) few w
