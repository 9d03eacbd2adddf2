use Rattle.std.proofs.Common.{arith}
use Rattle.psdl_members.proofs.clashes.Clashes.new.Goals as goal

pub returns : goal.returns
returns c graph lists n never = absurd (omega (arith, never))
