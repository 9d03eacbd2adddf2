use Rattle.std.proofs.Common.{◌≡◌, take}
use Rattle.std.specs.List.{flat_map}
use Rattle.psdl_directory.specs.Noting.{noting}
use Rattle.psdl_rules.specs.Texts.{judged}
use Rattle.psdl_rules.specs.inner.Headed.{provided_use}
use Rattle.psdl_rules.proofs.faults.provides.provided_uses.Given as goal

abbrev pub invariant-loop-used : goal.invariant-loop-used
invariant-loop-used l = l.least ≡ noting l.initial.least (flat_map (provided_use (judged l.text)) (take l.used-index l.uses))
