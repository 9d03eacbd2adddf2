use Rattle.std.proofs.Common.{◌≡◌, take}
use Rattle.std.specs.List.{flat_map}
use Rattle.psdl_directory.specs.Noting.{noting}
use Rattle.psdl_lineage.specs.Descent.{type_of_home}
use Rattle.psdl_lineage.specs.Lineages.{asked_of}
use Rattle.psdl_rules.specs.Texts.{judged}
use Rattle.psdl_rules.specs.inner.Headed.{implemented_use}
use Rattle.psdl_rules.proofs.faults.not_implemented.implemented_uses.Given as goal

abbrev pub invariant-loop-used : goal.invariant-loop-used
invariant-loop-used l = record { same : asked_of l.conformity ≡ judged l.text; noted : l.least ≡ noting l.initial.least (flat_map (implemented_use (judged l.text) (type_of_home (judged l.text) l.number)) (take l.used-index l.uses)) }
