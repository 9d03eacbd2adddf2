use Rattle.std.proofs.Common.{◌≡◌}
use Rattle.psdl_lineage.specs.Lineages.{asked_of}
use Rattle.psdl_rules.specs.Faults.HomeType.{home_type}
use Rattle.psdl_rules.specs.Texts.{judged}
use Rattle.psdl_rules.specs.inner.Passes.{IsPassed}
use Rattle.psdl_rules.proofs.faults.home_type.home_type.Given as goal

abbrev pub invariant-loop-index : goal.invariant-loop-index
invariant-loop-index l = record {
  same : asked_of l.conformity ≡ judged l.text;
  passed : IsPassed (home_type (judged l.text)) (judged l.text) l.index l.initial.least l.least;
}
