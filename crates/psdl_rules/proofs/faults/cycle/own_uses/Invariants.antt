use Rattle.std.proofs.Common.{◌≡◌, take}
use Rattle.std.specs.List.{flat_map}
use Rattle.psdl_directory.specs.Noting.{noting}
use Rattle.psdl_rules.specs.inner.Headed.{own_use}
use Rattle.psdl_rules.proofs.faults.cycle.own_uses.Given as goal

abbrev pub invariant-loop-used : goal.invariant-loop-used
invariant-loop-used l = l.least ≡ noting l.initial.least (flat_map (own_use l.origin) (take l.used-index l.uses))
