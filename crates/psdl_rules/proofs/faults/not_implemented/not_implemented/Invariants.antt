use Rattle.std.proofs.Common.{◌≡◌}
use Rattle.psdl_lineage.specs.Lineages.{asked_of}
use Rattle.psdl_rules.specs.Faults.NotImplemented.{not_implemented}
use Rattle.psdl_rules.specs.Texts.{judged}
use Rattle.psdl_rules.specs.inner.Passes.{IsPassed}
use Rattle.psdl_rules.proofs.faults.not_implemented.not_implemented.Given as goal

abbrev pub invariant-loop-index : goal.invariant-loop-index
invariant-loop-index l = record {
  same : asked_of l.conformity ≡ judged l.text;
  passed : IsPassed (not_implemented (judged l.text)) (judged l.text) l.index l.initial.least l.least;
}
