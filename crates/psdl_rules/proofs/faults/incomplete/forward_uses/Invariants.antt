use Rattle.std.proofs.Common.{◌≡◌, take}
use Rattle.std.specs.List.{flat_map}
use Rattle.psdl_directory.specs.Noting.{noting}
use Rattle.psdl_rules.specs.inner.Headed.{forward_use}
use Rattle.psdl_rules.proofs.faults.incomplete.forward_uses.Given as goal

abbrev pub invariant-loop-used : goal.invariant-loop-used
invariant-loop-used l = l.least ≡ noting l.initial.least (flat_map (forward_use l.number) (take l.used-index l.uses))
