use Rattle.std.proofs.Common.{◌≡◌, take, true}
use Rattle.psdl_rules.specs.inner.Headed.{are_meant}
use Rattle.psdl_rules.proofs.settled.are_meant.Given as goal

abbrev pub invariant-loop-used : goal.invariant-loop-used
invariant-loop-used l = are_meant (take l.used-index l.uses) ≡ true
