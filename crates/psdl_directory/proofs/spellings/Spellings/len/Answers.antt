use Rattle.std.proofs.Common.{arith}
use Rattle.psdl_directory.proofs.spellings.Spellings.len.Goals as goal

pub returns : goal.returns
returns c name n is = omega (arith, c.len.ensures.len, c.args.self.now.distinct.below name n is)
