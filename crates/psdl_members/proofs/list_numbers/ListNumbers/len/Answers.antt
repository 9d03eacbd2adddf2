use Rattle.std.proofs.Common.{arith}
use Rattle.psdl_members.proofs.list_numbers.ListNumbers.len.Goals as goal

pub returns : goal.returns
returns c list n is = omega (arith, c.len.ensures.len, c.args.self.now.distinct.below list n is)
