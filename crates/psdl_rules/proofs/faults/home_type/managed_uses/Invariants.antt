use Rattle.std.proofs.Common.{◌≡◌, take}
use Rattle.std.specs.List.{flat_map}
use Rattle.psdl_directory.specs.Headers.{header}
use Rattle.psdl_directory.specs.Lookup.{at}
use Rattle.psdl_directory.specs.Noting.{noting}
use Rattle.psdl_lineage.specs.Lineages.{asked_of}
use Rattle.psdl_rules.specs.Texts.{judged}
use Rattle.psdl_rules.specs.inner.Headed.{managed_use}
use Rattle.psdl_rules.proofs.faults.home_type.managed_uses.Given as goal

abbrev pub invariant-loop-used : goal.invariant-loop-used
invariant-loop-used l = record { same : asked_of l.conformity ≡ judged l.text; noted : l.least ≡ noting l.initial.least (flat_map (managed_use (judged l.text) l.number (at (judged l.text) l.number).what (header (judged l.text) l.number).bases) (take l.used-index l.uses)) }
